-- The walk over logs comes to what the definition has of those that count.
use Rattle.std.proofs.Common.{◌≡◌, ℕ, ◌+◌, Bool, true, false, cond, not, List, [], ◌∷◌, ◌++◌, fold, Option, Some, None, refl, sym, ◌∙◌, ap, subst}
use Rattle.std.specs.Prelude.{map, flat_map, slice_get, is_some, option_map, unwrap_or, ◌==◌, ◌&&◌, ◌||◌}
use Rattle.std.specs.List.{last_or}
use Rattle.std.proofs.lemmas.List.{append-nil, map-append}
use Rattle.std.proofs.lemmas.List.Sums.{fold-append}
use Rattle.std.proofs.lemmas.Grind.{flat_map-append}
use Rattle.rk_bytes.specs.declared.model.key.Record.{Record}
use Rattle.rk_bytes.specs.declared.model.manifest.Version.{Version}
use Rattle.rk_bytes.specs.declared.model.wal.Mode.{Mode}
use Rattle.rk_bytes.specs.declared.model.wal.WalErr.{WalErr}
use Rattle.rk_bytes.specs.Model.Replay.{Finding, batch, damage, unsupported, stale_end, clean_end, Findings, Stop as StopAt, batches, stop_in, stop_after, goes_on, expected_after, expected_in, count_log, counted, refusals, admitted}
use Rattle.rk_walmode.specs.declared.progress.Stop.{Stop}
use Rattle.rk_walmode.specs.Walks.{Walk, stop_of, is_next, taken, walk_on, log_ended, walk_log, first_walk, walk_logs}
use Rattle.rk_walmode.proofs.CountLemmas.{passes_over, takes_one, findings_in, expected-append, Counts, counts}

-- The walk has come to what logs that count amount to, or to the first of their refusals.
pub record Stands (mode : Mode) (version : Version) (walk : Walk) (logs : List Findings) : Type 0 where
  pub refused : walk.refused ≡ slice_get (flat_map (refusals mode) logs) 0
  pub passes : walk.passes ≡ is_some walk.refused
  pub records : walk.refused ≡ None → walk.records ≡ flat_map (admitted mode version) logs
  pub expected : walk.refused ≡ None → walk.expected ≡ expected_in mode version logs
  pub stopped : walk.refused ≡ None → walk.stopped ≡ option_map stop_of (stop_after mode logs)

-- ---- the first of a list

pub first_stays : {A : Type 0} (xs ys : List A) (x : A) → slice_get xs 0 ≡ Some x → slice_get (xs ++ ys) 0 ≡ Some x
first_stays [] ys x is = absurd cc
first_stays (a ∷ xs) ys x is = is

pub none_first : {A : Type 0} (xs : List A) → slice_get xs 0 ≡ None → xs ≡ []
none_first [] none = refl
none_first (a ∷ xs) none = absurd cc

last-push : {A : Type 0} (o : Option A) (xs : List A) (x : A) → last_or o (xs ++ x ∷ []) ≡ Some x
last-push o [] x = refl
last-push o (a ∷ xs) x = last-push (Some a) xs x

-- ---- a log more that counts

one_more : {A : Type 0} (f : Findings → List A) (logs : List Findings) (log : Findings) → flat_map f (logs ++ log ∷ []) ≡ flat_map f logs ++ f log
one_more f logs log = flat_map-append f logs (log ∷ []) ∙ ap (λ (xs : List _). flat_map f logs ++ xs) (append-nil (f log))

stop_after-push : (mode : Mode) (logs : List Findings) (log : Findings) → stop_after mode (logs ++ log ∷ []) ≡ stop_in mode log
stop_after-push mode logs log =
    ap (λ (stops : List (Option StopAt)). unwrap_or (last_or None stops) None) (map-append (stop_in mode) logs (log ∷ []))
    ∙ ap (λ (stop : Option (Option StopAt)). unwrap_or stop None) (last-push None (map (stop_in mode) logs) (stop_in mode log))

expected_in-push : (mode : Mode) (version : Version) (logs : List Findings) (log : Findings) → expected_in mode version (logs ++ log ∷ []) ≡ expected_after (expected_in mode version logs) (batches mode log)
expected_in-push mode version logs log =
    let first : ℕ = unwrap_or version.last_sequence 0 + 1 in
    ap (expected_after first) (one_more (batches mode) logs log) ∙ expected-append first (flat_map (batches mode) logs) (batches mode log)

-- a log that counts, where the walk has come to this over it
stands_push : (mode : Mode) (version : Version) (walk to : Walk) (logs : List Findings) (log : ℕ) (found : List Finding) → Stands mode version walk logs → walk.refused ≡ None
    → Counts mode version walk log found to → Stands mode version (log_ended to) (logs ++ findings_in log found ∷ [])
stands_push mode version walk to logs log found stands fine c =
    let none : flat_map (refusals mode) logs ≡ [] = none_first (flat_map (refusals mode) logs) (sym stands.refused ∙ fine) in
    record {
      refused = c.refused ∙ ap (λ (rs : List WalErr). slice_get (rs ++ refusals mode (findings_in log found)) 0) (sym none) ∙ ap (λ (rs : List WalErr). slice_get rs 0) (sym (one_more (refusals mode) logs (findings_in log found)));
      passes = refl;
      records = λ ok. c.records ok ∙ ap (λ (rs : List Record). rs ++ admitted mode version (findings_in log found)) (stands.records fine) ∙ sym (one_more (admitted mode version) logs (findings_in log found));
      expected = λ ok. c.expected ok ∙ ap (λ (n : ℕ). expected_after n (batches mode (findings_in log found))) (stands.expected fine) ∙ sym (expected_in-push mode version logs (findings_in log found));
      stopped = λ ok. c.stopped ok ∙ ap (option_map stop_of) (sym (stop_after-push mode logs (findings_in log found)));
    }

-- ---- whether a log counts

-- a log whose first finding is this one
goes_on-first : (expected : ℕ) (log : ℕ) (one : Finding) (found : List Finding) → goes_on expected (findings_in log (one ∷ found)) ≡ is_next expected one
goes_on-first expected log (batch read) found = or_false (read.sequence == expected)
  where
    or_false : (b : Bool) → b || false ≡ b
    or_false true = refl
    or_false false = refl
goes_on-first expected log (damage why place) found = refl
goes_on-first expected log (unsupported what) found = refl
goes_on-first expected log stale_end found = refl
goes_on-first expected log clean_end found = refl

-- the log counts or not, by whether replay is stopped and the log goes on
counts_by : (mode : Mode) (version : Version) (logs : List Findings) (log : Findings) (is_stopped goes : Bool) → is_some (stop_after mode logs) ≡ is_stopped → goes_on (expected_in mode version logs) log ≡ goes
    → count_log mode version logs log ≡ cond (is_stopped && not goes) logs (logs ++ log ∷ [])
counts_by mode version logs log is_stopped goes p q =
    ap (λ (b : Bool). cond (b && not (goes_on (expected_in mode version logs) log)) logs (logs ++ log ∷ [])) p ∙ ap (λ (b : Bool). cond (is_stopped && not b) logs (logs ++ log ∷ [])) q

-- ---- a log is walked

-- one that doesn't count
stands_still : (mode : Mode) (version : Version) (walk to : Walk) (logs : List Findings) → Stands mode version walk logs → log_ended to ≡ log_ended walk → Stands mode version (log_ended to) logs
stands_still mode version walk to logs stands same = subst (λ (to : Walk). Stands mode version to logs) (sym same) (record {
  refused = stands.refused;
  passes = refl;
  records = stands.records;
  expected = stands.expected;
  stopped = stands.stopped;
})

-- a walk that was refused
stands_refused : (mode : Mode) (version : Version) (walk : Walk) (logs : List Findings) (log : Findings) (why : WalErr) → Stands mode version walk logs → walk.refused ≡ Some why
    → Stands mode version (walk_log mode version walk log) (count_log mode version logs log)
stands_refused mode version walk logs log why stands refused =
    let over : walk.passes ≡ true = stands.passes ∙ ap is_some refused in
    subst (λ (to : Walk). Stands mode version (log_ended to) (count_log mode version logs log)) (sym (passes_over mode version log.log walk log.found over))
    (by (is_some (stop_after mode logs) && not (goes_on (expected_in mode version logs) log)))
  where
    never : walk.refused ≡ None → ⊥
    never none = absurd cc

    first : slice_get (flat_map (refusals mode) logs) 0 ≡ Some why
    first = sym stands.refused ∙ refused

    by : (b : Bool) → Stands mode version (log_ended walk) (cond b logs (logs ++ log ∷ []))
    by true = record {
      refused = stands.refused;
      passes = refl;
      records = λ none. absurd (never none);
      expected = λ none. absurd (never none);
      stopped = λ none. absurd (never none);
    }
    by false = record {
      refused = refused ∙ sym (first_stays (flat_map (refusals mode) logs) (flat_map (refusals mode) (log ∷ [])) why first) ∙ ap (λ (rs : List WalErr). slice_get rs 0) (sym (flat_map-append (refusals mode) logs (log ∷ [])));
      passes = refl;
      records = λ none. absurd (never none);
      expected = λ none. absurd (never none);
      stopped = λ none. absurd (never none);
    }

-- a walk that isn't stopped
stands_open : (mode : Mode) (version : Version) (walk : Walk) (logs : List Findings) (log : Findings) → Stands mode version walk logs → walk.refused ≡ None → stop_after mode logs ≡ None
    → Stands mode version (walk_log mode version walk log) (count_log mode version logs log)
stands_open mode version walk logs log stands fine open_still =
    let goes : walk.passes ≡ false = stands.passes ∙ ap is_some fine in
    let unstopped : walk.stopped ≡ None = stands.stopped fine ∙ ap (option_map stop_of) open_still in
    let to : Walk = fold (walk_on mode version log.log) walk log.found in
    subst (Stands mode version (log_ended to)) (sym (counts_by mode version logs log false (goes_on (expected_in mode version logs) log) (ap is_some open_still) refl))
    (stands_push mode version walk to logs log.log log.found stands fine (counts mode version log.log walk log.found goes unstopped fine))

-- a stopped walk passes over a log that doesn't go on
waits : (mode : Mode) (version : Version) (log : ℕ) (walk : Walk) (stop : Stop) (one : Finding) → walk.passes ≡ false → walk.stopped ≡ Some stop → is_next walk.expected one ≡ false
    → walk_on mode version log walk one ≡ record walk { passes = true }
waits mode version log walk stop one goes stopped other =
    ap (λ (b : Bool). cond b walk (cond (is_some walk.stopped && not (is_next walk.expected one)) (record walk { passes = true }) (taken mode version log walk one))) goes
    ∙ ap (λ (s : Option Stop). cond (is_some s && not (is_next walk.expected one)) (record walk { passes = true }) (taken mode version log walk one)) stopped
    ∙ ap (λ (b : Bool). cond (not b) (record walk { passes = true }) (taken mode version log walk one)) other

-- a walk takes a finding at the expected sequence number, stopped or not
pub goes_again : (mode : Mode) (version : Version) (log : ℕ) (walk : Walk) (one : Finding) → walk.passes ≡ false → is_next walk.expected one ≡ true → walk_on mode version log walk one ≡ taken mode version log walk one
goes_again mode version log walk one goes next =
    ap (λ (b : Bool). cond b walk (cond (is_some walk.stopped && not (is_next walk.expected one)) (record walk { passes = true }) (taken mode version log walk one))) goes
    ∙ ap (λ (b : Bool). cond (is_some walk.stopped && not b) (record walk { passes = true }) (taken mode version log walk one)) next
    ∙ ap (λ (b : Bool). cond b (record walk { passes = true }) (taken mode version log walk one)) (never (is_some walk.stopped))
  where
    never : (b : Bool) → b && false ≡ false
    never true = refl
    never false = refl

-- the same with the stop taken away
counts_again : (mode : Mode) (version : Version) (log : ℕ) (walk : Walk) (one : Finding) (found : List Finding) → walk.passes ≡ false → walk.refused ≡ None → is_next walk.expected one ≡ true
    → Counts mode version walk log (one ∷ found) (fold (walk_on mode version log) walk (one ∷ found))
counts_again mode version log walk one found goes fine next =
    let freed : Walk = record walk { stopped = None } in
    let same : fold (walk_on mode version log) freed (one ∷ found) ≡ fold (walk_on mode version log) walk (one ∷ found) =
    ap (λ (walk : Walk). fold (walk_on mode version log) walk found) (takes_one mode version log freed one goes refl ∙ sym (goes_again mode version log walk one goes next)) in
    let c = subst (Counts mode version freed log (one ∷ found)) same (counts mode version log freed (one ∷ found) goes refl fine) in
    record { refused = c.refused; records = c.records; expected = c.expected; stopped = c.stopped }

stands_first : (mode : Mode) (version : Version) (walk : Walk) (logs : List Findings) (stop : StopAt) (log : ℕ) (one : Finding) (found : List Finding) (next : Bool) → Stands mode version walk logs → walk.refused ≡ None
    → stop_after mode logs ≡ Some stop → is_next walk.expected one ≡ next
    → Stands mode version (walk_log mode version walk (findings_in log (one ∷ found))) (count_log mode version logs (findings_in log (one ∷ found)))
stands_first mode version walk logs stop log one found false stands fine stopped is =
    let goes : walk.passes ≡ false = stands.passes ∙ ap is_some fine in
    let here : walk_on mode version log walk one ≡ record walk { passes = true } = waits mode version log walk (stop_of stop) one goes (stands.stopped fine ∙ ap (option_map stop_of) stopped) is in
    let over : fold (walk_on mode version log) walk (one ∷ found) ≡ record walk { passes = true } =
    ap (λ (walk : Walk). fold (walk_on mode version log) walk found) here ∙ passes_over mode version log (record walk { passes = true }) found refl in
    let behind : goes_on (expected_in mode version logs) (findings_in log (one ∷ found)) ≡ false = ap (λ (n : ℕ). goes_on n (findings_in log (one ∷ found))) (sym (stands.expected fine)) ∙ goes_on-first walk.expected log one found ∙ is in
    subst (Stands mode version (walk_log mode version walk (findings_in log (one ∷ found)))) (sym (counts_by mode version logs (findings_in log (one ∷ found)) true false (ap is_some stopped) behind))
    (stands_still mode version walk (fold (walk_on mode version log) walk (one ∷ found)) logs stands (ap log_ended over))
stands_first mode version walk logs stop log one found true stands fine stopped is =
    let goes : walk.passes ≡ false = stands.passes ∙ ap is_some fine in
    let behind : goes_on (expected_in mode version logs) (findings_in log (one ∷ found)) ≡ true = ap (λ (n : ℕ). goes_on n (findings_in log (one ∷ found))) (sym (stands.expected fine)) ∙ goes_on-first walk.expected log one found ∙ is in
    subst (Stands mode version (walk_log mode version walk (findings_in log (one ∷ found)))) (sym (counts_by mode version logs (findings_in log (one ∷ found)) true true (ap is_some stopped) behind))
    (stands_push mode version walk (fold (walk_on mode version log) walk (one ∷ found)) logs log (one ∷ found) stands fine (counts_again mode version log walk one found goes fine is))

-- a walk that is stopped
stands_stopped : (mode : Mode) (version : Version) (walk : Walk) (logs : List Findings) (stop : StopAt) (log : ℕ) (found : List Finding) → Stands mode version walk logs → walk.refused ≡ None → stop_after mode logs ≡ Some stop
    → Stands mode version (walk_log mode version walk (findings_in log found)) (count_log mode version logs (findings_in log found))
stands_stopped mode version walk logs stop log [] stands fine stopped =
    subst (Stands mode version (log_ended walk)) (sym (counts_by mode version logs (findings_in log []) true false (ap is_some stopped) refl))
    (stands_still mode version walk walk logs stands refl)
stands_stopped mode version walk logs stop log (one ∷ found) stands fine stopped = stands_first mode version walk logs stop log one found (is_next walk.expected one) stands fine stopped refl

-- a log is walked
stands_log : (mode : Mode) (version : Version) (walk : Walk) (logs : List Findings) (log : Findings) → Stands mode version walk logs → Stands mode version (walk_log mode version walk log) (count_log mode version logs log)
stands_log mode version walk logs log stands = by walk.refused (stop_after mode logs) refl refl
  where
    by : (refused : Option WalErr) (stop : Option StopAt) → walk.refused ≡ refused → stop_after mode logs ≡ stop → Stands mode version (walk_log mode version walk log) (count_log mode version logs log)
    by (Some why) stop is at = stands_refused mode version walk logs log why stands is
    by None None is at = stands_open mode version walk logs log stands is at
    by None (Some stop) is at = stands_stopped mode version walk logs stop log.log log.found stands is at

stands_all : (mode : Mode) (version : Version) (walk : Walk) (before logs : List Findings) → Stands mode version walk before → Stands mode version (fold (walk_log mode version) walk logs) (fold (count_log mode version) before logs)
stands_all mode version walk before [] stands = stands
stands_all mode version walk before (log ∷ logs) stands = stands_all mode version (walk_log mode version walk log) (count_log mode version before log) logs (stands_log mode version walk before log stands)

-- the walk over logs stands at those that count
pub stands_at : (mode : Mode) (version : Version) (logs : List Findings) → Stands mode version (walk_logs mode version logs) (counted mode version logs)
stands_at mode version logs = stands_all mode version (first_walk version) [] logs (record { refused = refl; passes = refl; records = λ ok. refl; expected = λ ok. refl; stopped = λ ok. refl })

-- ---- one log more

pub walk_logs-push : (mode : Mode) (version : Version) (logs : List Findings) (log : Findings) → walk_logs mode version (logs ++ log ∷ []) ≡ walk_log mode version (walk_logs mode version logs) log
walk_logs-push mode version logs log = fold-append (walk_log mode version) (first_walk version) logs (log ∷ [])

-- a walk that was refused stays so
pub stays_refused : (mode : Mode) (version : Version) (walk : Walk) (logs : List Findings) (why : WalErr) → walk.refused ≡ Some why → walk.passes ≡ true → (fold (walk_log mode version) walk logs).refused ≡ Some why
stays_refused mode version walk [] why refused over = refused
stays_refused mode version walk (log ∷ logs) why refused over =
    let same : walk_log mode version walk log ≡ log_ended walk = ap log_ended (passes_over mode version log.log walk log.found over) in
    stays_refused mode version (walk_log mode version walk log) logs why (ap (λ (walk : Walk). walk.refused) same ∙ refused) (ap (λ (walk : Walk). walk.passes) same ∙ ap is_some refused)
