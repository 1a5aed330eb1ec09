-- What a log that counts adds to a walk that isn't stopped.
use Rattle.std.proofs.Common.{◌≡◌, ℕ, Bool, true, false, cond, not, List, [], ◌∷◌, ◌++◌, fold, Option, Some, None, refl, sym, ◌∙◌, ap, subst, append_assoc}
use Rattle.std.specs.Prelude.{map, flat_map, filter, filter_map, find, slice_get, is_some, option_map, unwrap_or, ◌&&◌, ◌||◌}
use Rattle.std.specs.List.{cons_option, last_or}
use Rattle.std.proofs.lemmas.List.{append-nil}
use Rattle.std.proofs.lemmas.List.Sums.{take_while-cons}
use Rattle.std.proofs.lemmas.List.Elements.{filter-append}
use Rattle.rk_bytes.specs.declared.model.key.Record.{Record}
use Rattle.rk_bytes.specs.declared.model.manifest.Version.{Version}
use Rattle.rk_bytes.specs.declared.model.wal.Mode.{Mode}
use Rattle.rk_bytes.specs.declared.model.wal.WalErr.{WalErr}
use Rattle.rk_bytes.specs.Model.WriteBatch.{Batch, changes}
use Rattle.rk_bytes.specs.Model.Replay.{Finding, batch, damage, unsupported, stale_end, clean_end, Findings, Stop as StopAt, is_stop, front, batch_in, batches, stop_in, next_sequence, expected_after, refusal, refusals, is_wanted, admitted}
use Rattle.rk_walmode.specs.declared.progress.Stop.{Stop}
use Rattle.rk_walmode.specs.Walks.{Walk, is_damage, stop_of, stop_at, is_next, records_in, expected_behind, taken, walk_on}
use Rattle.rk_walmode.proofs.SortLemmas.{AddsNone, Sort, stops, refuses, goes_on, sorted}

-- a walk that passes over what is left
pub passes_over : (mode : Mode) (version : Version) (log : ℕ) (walk : Walk) (found : List Finding) → walk.passes ≡ true → fold (walk_on mode version log) walk found ≡ walk
passes_over mode version log walk [] over = refl
passes_over mode version log walk (one ∷ found) over =
    let here : walk_on mode version log walk one ≡ walk =
    ap (λ (b : Bool). cond b walk (cond (is_some walk.stopped && not (is_next walk.expected one)) (record walk { passes = true }) (taken mode version log walk one))) over in
    ap (λ (walk : Walk). fold (walk_on mode version log) walk found) here ∙ passes_over mode version log walk found over

-- a walk that isn't stopped takes a finding
pub takes_one : (mode : Mode) (version : Version) (log : ℕ) (walk : Walk) (one : Finding) → walk.passes ≡ false → walk.stopped ≡ None → walk_on mode version log walk one ≡ taken mode version log walk one
takes_one mode version log walk one goes unstopped =
    ap (λ (b : Bool). cond b walk (cond (is_some walk.stopped && not (is_next walk.expected one)) (record walk { passes = true }) (taken mode version log walk one))) goes
    ∙ ap (λ (stopped : Option Stop). cond (is_some stopped && not (is_next walk.expected one)) (record walk { passes = true }) (taken mode version log walk one)) unstopped

-- ---- the front of a log, and its stop

abbrev pub findings_in : ℕ → List Finding → Findings
findings_in log found = record { log = log; found = found }

front-cons : (mode : Mode) (log : ℕ) (one : Finding) (found : List Finding) → front mode (findings_in log (one ∷ found)) ≡ cond (not (is_stop mode one)) (one ∷ front mode (findings_in log found)) []
front-cons mode log one found = take_while-cons (λ one. not (is_stop mode one)) one found

front-stop : (mode : Mode) (log : ℕ) (one : Finding) (found : List Finding) → is_stop mode one ≡ true → front mode (findings_in log (one ∷ found)) ≡ []
front-stop mode log one found stop = front-cons mode log one found ∙ ap (λ (b : Bool). cond (not b) (one ∷ front mode (findings_in log found)) []) stop

front-more : (mode : Mode) (log : ℕ) (one : Finding) (found : List Finding) → is_stop mode one ≡ false → front mode (findings_in log (one ∷ found)) ≡ one ∷ front mode (findings_in log found)
front-more mode log one found goes = front-cons mode log one found ∙ ap (λ (b : Bool). cond (not b) (one ∷ front mode (findings_in log found)) []) goes

stop_in-stop : (mode : Mode) (log : ℕ) (one : Finding) (found : List Finding) → is_stop mode one ≡ true → stop_in mode (findings_in log (one ∷ found)) ≡ Some (record { log = log; at = one })
stop_in-stop mode log one found stop = ap (λ (b : Bool). option_map (λ (one : Finding). let stop : StopAt = record { log = log; at = one } in stop) (cond b (Some one) (find (is_stop mode) found))) stop

stop_in-more : (mode : Mode) (log : ℕ) (one : Finding) (found : List Finding) → is_stop mode one ≡ false → stop_in mode (findings_in log (one ∷ found)) ≡ stop_in mode (findings_in log found)
stop_in-more mode log one found goes = ap (λ (b : Bool). option_map (λ (one : Finding). let stop : StopAt = record { log = log; at = one } in stop) (cond b (Some one) (find (is_stop mode) found))) goes

-- ---- the last of a list

pub last_some : {A : Type 0} (a : A) (xs : List A) (d e : A) → unwrap_or (last_or (Some a) xs) d ≡ unwrap_or (last_or None xs) a
last_some a [] d e = refl
last_some a (x ∷ xs) d e = last_some x xs d e ∙ sym (last_some x xs a e)

pub expected-cons : (expected : ℕ) (read : Batch) (more : List Batch) → expected_after expected (read ∷ more) ≡ expected_after (next_sequence read) more
expected-cons expected read more = last_some (next_sequence read) (map next_sequence more) expected expected

pub expected-append : (expected : ℕ) (some more : List Batch) → expected_after expected (some ++ more) ≡ expected_after (expected_after expected some) more
expected-append expected [] more = refl
expected-append expected (read ∷ some) more =
    expected-cons expected read (some ++ more) ∙ expected-append (next_sequence read) some more ∙ ap (λ expected. expected_after expected more) (sym (expected-cons expected read some))

-- ---- what a log adds

-- Over a log the walk comes to what the log adds, or to its first refusal.
pub record Counts (mode : Mode) (version : Version) (walk : Walk) (log : ℕ) (found : List Finding) (to : Walk) : Type 0 where
  pub refused : to.refused ≡ slice_get (refusals mode (findings_in log found)) 0
  pub records : to.refused ≡ None → to.records ≡ walk.records ++ admitted mode version (findings_in log found)
  pub expected : to.refused ≡ None → to.expected ≡ expected_after walk.expected (batches mode (findings_in log found))
  pub stopped : to.refused ≡ None → to.stopped ≡ option_map stop_of (stop_in mode (findings_in log found))

-- the walk stops at once
counts_stop : (mode : Mode) (version : Version) (walk : Walk) (log : ℕ) (one : Finding) (found : List Finding) → is_stop mode one ≡ true → refusal mode log one ≡ None → AddsNone version log one
    → Counts mode version walk log (one ∷ found) (taken mode version log walk one)
counts_stop mode version walk log one found stop fine none =
    let cut : front mode (findings_in log (one ∷ found)) ≡ [] = front-stop mode log one found stop in
    record {
      refused = fine ∙ ap (λ (found : List Finding). slice_get (filter_map (refusal mode log) found) 0) (sym cut);
      records = λ goes. ap (λ (rs : List Record). walk.records ++ rs) (none.no_records ∙ ap (λ (found : List Finding). filter (is_wanted version log) (flat_map (λ (read : Batch). changes read.parts) (filter_map batch_in found))) (sym cut));
      expected = λ goes. none.same walk.expected ∙ ap (λ (found : List Finding). expected_after walk.expected (filter_map batch_in found)) (sym cut);
      stopped = λ goes. ap (λ (b : Bool). cond b (Some (let stop : Stop = record { log = log; damaged = is_damage one } in stop)) None) stop ∙ ap (option_map stop_of) (sym (stop_in-stop mode log one found stop));
    }

-- the walk is refused at once
counts_refused : (mode : Mode) (version : Version) (walk : Walk) (log : ℕ) (one : Finding) (found : List Finding) (why : WalErr) → is_stop mode one ≡ false → refusal mode log one ≡ Some why
    → Counts mode version walk log (one ∷ found) (taken mode version log walk one)
counts_refused mode version walk log one found why goes refused =
    let more : front mode (findings_in log (one ∷ found)) ≡ one ∷ front mode (findings_in log found) = front-more mode log one found goes in
    let never : refusal mode log one ≡ None → ⊥ = λ none. cc in
    let first : slice_get (filter_map (refusal mode log) (one ∷ front mode (findings_in log found))) 0 ≡ Some why =
    ap (λ (r : Option WalErr). slice_get (cons_option r (filter_map (refusal mode log) (front mode (findings_in log found)))) 0) refused in
    record {
      refused = refused ∙ sym first ∙ ap (λ (found : List Finding). slice_get (filter_map (refusal mode log) found) 0) (sym more);
      records = λ none. absurd (never none);
      expected = λ none. absurd (never none);
      stopped = λ none. absurd (never none);
    }

-- what a finding adds, and those behind it
admits : (version : Version) (log : ℕ) (one : Finding) (read : List Batch)
    → records_in version log one ++ filter (is_wanted version log) (flat_map (λ (read : Batch). changes read.parts) read)
    ≡ filter (is_wanted version log) (flat_map (λ (read : Batch). changes read.parts) (cons_option (batch_in one) read))
admits version log (batch first) read = sym (filter-append (is_wanted version log) (changes first.parts) (flat_map (λ (read : Batch). changes read.parts) read))
admits version log (damage why place) read = refl
admits version log (unsupported what) read = refl
admits version log stale_end read = refl
admits version log clean_end read = refl

expects : (expected : ℕ) (one : Finding) (read : List Batch) → expected_after (expected_behind expected one) read ≡ expected_after expected (cons_option (batch_in one) read)
expects expected (batch first) read = sym (expected-cons expected first read)
expects expected (damage why place) read = refl
expects expected (unsupported what) read = refl
expects expected stale_end read = refl
expects expected clean_end read = refl

-- the walk goes on behind a finding
counts_on : (mode : Mode) (version : Version) (walk : Walk) (log : ℕ) (one : Finding) (found : List Finding) (to : Walk) → is_stop mode one ≡ false → refusal mode log one ≡ None
    → Counts mode version (taken mode version log walk one) log found to → Counts mode version walk log (one ∷ found) to
counts_on mode version walk log one found to goes fine later =
    let more : front mode (findings_in log (one ∷ found)) ≡ one ∷ front mode (findings_in log found) = front-more mode log one found goes in
    let read : List Batch = batches mode (findings_in log found) in
    record {
      refused = later.refused
          ∙ sym (ap (λ (r : Option WalErr). slice_get (cons_option r (filter_map (refusal mode log) (front mode (findings_in log found)))) 0) fine)
          ∙ ap (λ (found : List Finding). slice_get (filter_map (refusal mode log) found) 0) (sym more);
      records = λ none. later.records none ∙ append_assoc walk.records (records_in version log one) (admitted mode version (findings_in log found))
          ∙ ap (λ (rs : List Record). walk.records ++ rs)
          (admits version log one read ∙ ap (λ (found : List Finding). filter (is_wanted version log) (flat_map (λ (read : Batch). changes read.parts) (filter_map batch_in found))) (sym more));
      expected = λ none. later.expected none ∙ expects walk.expected one read ∙ ap (λ (found : List Finding). expected_after walk.expected (filter_map batch_in found)) (sym more);
      stopped = λ none. later.stopped none ∙ ap (option_map stop_of) (sym (stop_in-more mode log one found goes));
    }

counts_more : (mode : Mode) (version : Version) (walk : Walk) (log : ℕ) (one : Finding) (found : List Finding) → Sort mode version log one
    → ((walk : Walk) → walk.passes ≡ false → walk.stopped ≡ None → walk.refused ≡ None → Counts mode version walk log found (fold (walk_on mode version log) walk found))
    → Counts mode version walk log (one ∷ found) (fold (walk_on mode version log) (taken mode version log walk one) found)
counts_more mode version walk log one found (stops stop fine none) later =
    let over : is_some (refusal mode log one) || is_stop mode one ≡ true = ap (λ (r : Option WalErr). is_some r || is_stop mode one) fine ∙ stop in
    subst (Counts mode version walk log (one ∷ found)) (sym (passes_over mode version log (taken mode version log walk one) found over)) (counts_stop mode version walk log one found stop fine none)
counts_more mode version walk log one found (refuses why goes refused) later =
    let over : is_some (refusal mode log one) || is_stop mode one ≡ true = ap (λ (r : Option WalErr). is_some r || is_stop mode one) refused in
    subst (Counts mode version walk log (one ∷ found)) (sym (passes_over mode version log (taken mode version log walk one) found over)) (counts_refused mode version walk log one found why goes refused)
counts_more mode version walk log one found (goes_on goes fine) later =
    let on : is_some (refusal mode log one) || is_stop mode one ≡ false = ap (λ (r : Option WalErr). is_some r || is_stop mode one) fine ∙ goes in
    let unstopped : stop_at mode log one ≡ None = ap (λ (b : Bool). cond b (Some (let stop : Stop = record { log = log; damaged = is_damage one } in stop)) None) goes in
    counts_on mode version walk log one found (fold (walk_on mode version log) (taken mode version log walk one) found) goes fine (later (taken mode version log walk one) on unstopped fine)

-- what a log adds to a walk that isn't stopped
pub counts : (mode : Mode) (version : Version) (log : ℕ) (walk : Walk) (found : List Finding) → walk.passes ≡ false → walk.stopped ≡ None → walk.refused ≡ None
    → Counts mode version walk log found (fold (walk_on mode version log) walk found)
counts mode version log walk [] goes unstopped fine = record { refused = fine; records = λ none. sym (append-nil walk.records); expected = λ none. refl; stopped = λ none. unstopped }
counts mode version log walk (one ∷ found) goes unstopped fine =
    subst (Counts mode version walk log (one ∷ found))
    (ap (λ (walk : Walk). fold (walk_on mode version log) walk found) (sym (takes_one mode version log walk one goes unstopped)))
    (counts_more mode version walk log one found (sorted mode version log one) (λ walk goes unstopped fine. counts mode version log walk found goes unstopped fine))
