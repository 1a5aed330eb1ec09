-- Logs without damage add the same in every mode.
use Rattle.std.proofs.Common.{◌≡◌, ℕ, ◌+◌, Bool, true, false, not, List, [], ◌∷◌, ◌++◌, map, cond, refl, sym, ap, ◌∙◌, append_assoc}
use Rattle.std.proofs.lemmas.List.{append-nil, map-append}
use Rattle.std.proofs.lemmas.List.Sums.{take_while-cons}
use Rattle.std.specs.Prelude.{Option, Some, None, Result, Ok, Err, filter_map, flat_map, filter, take_while, find, fold, slice_get, unwrap_or, option_map, is_some, ◌&&◌}
use Rattle.std.specs.List.{AllByRecursion, last_or, list_any, cons_option}
use Rattle.rk_bytes.specs.declared.model.key.Record.{Record}
use Rattle.rk_bytes.specs.declared.model.manifest.Version.{Version}
use Rattle.rk_bytes.specs.declared.model.wal.Mode.{Mode}
use Rattle.rk_bytes.specs.declared.model.wal.Mode.TheVariants.{TolerateTail, Absolute, PointInTime, SkipAny}
use Rattle.rk_bytes.specs.declared.model.wal.WalErr.{WalErr}
use Rattle.rk_bytes.specs.Model.WriteBatch.{Batch, changes}
use Rattle.rk_bytes.specs.Model.LogItems.{log_items}
use Rattle.rk_bytes.specs.Model.LogMarks.{log_marks}
use Rattle.rk_bytes.specs.Model.Replay.{Log, Replayed, Finding, batch, damage, unsupported, stale_end, clean_end, Findings, findings, is_stale, ends_stale, IsPartOf, no_log, taken, left_out, is_stop, batch_in, batches, Stop, stop_in, stop_after, expected_after, expected_in, goes_on, count_log, counted, is_wanted, admitted, refusal, refusals, ahead_after, replay}
use Rattle.rk_laws.proofs.PartingLemmas.{EndsOnce-log_marks}
use Rattle.rk_laws.proofs.ReplayLemmas.{EndsLast, items_end_last, findings_end_last}

-- what neither is damage nor isn't supported
abbrev is_sound : Finding → Bool
is_sound (batch read) = true
is_sound (damage why place) = false
is_sound (unsupported what) = false
is_sound stale_end = true
is_sound clean_end = true

-- a log without damage, of which nothing follows an end
record Sound (log : Findings) : Type 0 where
  sound : AllByRecursion (λ one. is_sound one ≡ true) log.found
  last : EndsLast is_stale log.found

-- all that is found, and what logs amount to if all of it counts
abbrev all_batches : Findings → List Batch
all_batches log = filter_map batch_in log.found

abbrev all_records : Version → Findings → List Record
all_records version log = filter (is_wanted version log.log) (flat_map (λ read. changes read.parts) (all_batches log))

abbrev whole : Version → List Findings → Replayed
whole version logs = record { records = flat_map (all_records version) logs; expected = expected_after (unwrap_or version.last_sequence 0 + 1) (flat_map all_batches logs); stopped = None }

-- no log has a stop
abbrev Unstopped : Mode → List Findings → Type 0
Unstopped mode logs = AllByRecursion (λ log. stop_in mode log ≡ None) logs

-- in each log all batches stand before the first stop
abbrev AreWhole : Mode → List Findings → Type 0
AreWhole mode logs = AllByRecursion (λ log. batches mode log ≡ all_batches log) logs

pub all_append : {A : Type 0} (P : A → Type 0) (xs ys : List A) → AllByRecursion P xs → AllByRecursion P ys → AllByRecursion P (xs ++ ys)
all_append P [] ys p q = q
all_append P (x ∷ xs) ys p q = (p.0, all_append P xs ys p.1 q)

pub all_map : {A : Type 0} (P Q : A → Type 0) → ((x : A) → P x → Q x) → (xs : List A) → AllByRecursion P xs → AllByRecursion Q xs
all_map P Q more [] p = tt
all_map P Q more (x ∷ xs) p = (more x p.0, all_map P Q more xs p.1)

-- the last of options that none is
last_none : (o : Option (Option Stop)) (mode : Mode) (logs : List Findings) → unwrap_or o None ≡ None → Unstopped mode logs → unwrap_or (last_or o (map (stop_in mode) logs)) None ≡ None
last_none o mode [] e none = e
last_none o mode (log ∷ logs) e none = last_none (Some (stop_in mode log)) mode logs none.0 none.1

stop_after-unstopped : (mode : Mode) (logs : List Findings) → Unstopped mode logs → stop_after mode logs ≡ None
stop_after-unstopped mode logs none = last_none None mode logs refl none

-- logs without a stop all count
all_count : (mode : Mode) (version : Version) (before logs : List Findings) → Unstopped mode before → Unstopped mode logs → fold (count_log mode version) before logs ≡ before ++ logs
all_count mode version before [] b l = sym (append-nil before)
all_count mode version before (log ∷ logs) b l =
    let one : count_log mode version before log ≡ before ++ log ∷ [] =
    ap (λ o. cond (is_some o && not (goes_on (expected_in mode version before) log)) before (before ++ log ∷ [])) (stop_after-unstopped mode before b) in
    ap (λ x. fold (count_log mode version) x logs) one
    ∙ all_count mode version (before ++ log ∷ []) logs (all_append _ before (log ∷ []) b (l.0, tt)) l.1
    ∙ append_assoc before (log ∷ []) logs

-- modes that stop nowhere
pub tolerate_tail-never : (one : Finding) → is_stop TolerateTail one ≡ false
tolerate_tail-never one = refl

absolute-never : (one : Finding) → is_stop Absolute one ≡ false
absolute-never one = refl

pub skip_any-never : (one : Finding) → is_stop SkipAny one ≡ false
skip_any-never one = refl

no_stop : (mode : Mode) → ((one : Finding) → is_stop mode one ≡ false) → (found : List Finding) → find (is_stop mode) found ≡ None
no_stop mode never [] = refl
no_stop mode never (one ∷ found) = ap (λ b. cond b (Some one) (find (is_stop mode) found)) (never one) ∙ no_stop mode never found

never-unstopped : (mode : Mode) → ((one : Finding) → is_stop mode one ≡ false) → (logs : List Findings) → Unstopped mode logs
never-unstopped mode never [] = tt
never-unstopped mode never (log ∷ logs) = (ap (option_map (λ one. record { log = log.log; at = one })) (no_stop mode never log.found), never-unstopped mode never logs)

all_in_front : (mode : Mode) → ((one : Finding) → is_stop mode one ≡ false) → (found : List Finding) → take_while (λ one. not (is_stop mode one)) found ≡ found
all_in_front mode never [] = refl
all_in_front mode never (one ∷ found) =
    take_while-cons (λ x. not (is_stop mode x)) one found ∙ ap (λ b. cond (not b) (one ∷ take_while (λ x. not (is_stop mode x)) found) []) (never one)
    ∙ ap (λ more. one ∷ more) (all_in_front mode never found)

never-whole : (mode : Mode) → ((one : Finding) → is_stop mode one ≡ false) → (logs : List Findings) → AreWhole mode logs
never-whole mode never [] = tt
never-whole mode never (log ∷ logs) = (ap (filter_map batch_in) (all_in_front mode never log.found), never-whole mode never logs)

-- To a point in time, a log without damage stops at its end alone.
batches_before_end : (found : List Finding) → AllByRecursion (λ one. is_sound one ≡ true) found → EndsLast is_stale found
    → filter_map batch_in (take_while (λ one. not (is_stop PointInTime one)) found) ≡ filter_map batch_in found
batches_before_end [] sound ends = refl
batches_before_end (batch read ∷ found) sound ends = ap (filter_map batch_in) (take_while-cons (λ x. not (is_stop PointInTime x)) (batch read) found) ∙ ap (λ more. read ∷ more) (batches_before_end found sound.1 ends.1)
batches_before_end (damage why place ∷ found) sound ends = let no = sound.0 in cc
batches_before_end (unsupported what ∷ found) sound ends = let no = sound.0 in cc
batches_before_end (stale_end ∷ found) sound ends = ap (filter_map batch_in) (take_while-cons (λ x. not (is_stop PointInTime x)) stale_end found) ∙ ap (filter_map batch_in) (sym (ends.0 refl))
batches_before_end (clean_end ∷ found) sound ends = ap (filter_map batch_in) (take_while-cons (λ x. not (is_stop PointInTime x)) clean_end found) ∙ batches_before_end found sound.1 ends.1

sound-whole : (logs : List Findings) → AllByRecursion Sound logs → AreWhole PointInTime logs
sound-whole [] sound = tt
sound-whole (log ∷ logs) sound = (batches_before_end log.found sound.0.sound sound.0.last, sound-whole logs sound.1)

-- without a stale end it doesn't stop
sound-no_stop : (found : List Finding) → AllByRecursion (λ one. is_sound one ≡ true) found → list_any is_stale found ≡ false → find (is_stop PointInTime) found ≡ None
sound-no_stop [] sound fresh = refl
sound-no_stop (batch read ∷ found) sound fresh = sound-no_stop found sound.1 fresh
sound-no_stop (damage why place ∷ found) sound fresh = let no = sound.0 in cc
sound-no_stop (unsupported what ∷ found) sound fresh = let no = sound.0 in cc
sound-no_stop (stale_end ∷ found) sound fresh = cc
sound-no_stop (clean_end ∷ found) sound fresh = sound-no_stop found sound.1 fresh

-- what is sound isn't refused
not_refused : (mode : Mode) (log : ℕ) (one : Finding) → is_sound one ≡ true → refusal mode log one ≡ None
not_refused mode log (batch read) sound = refl
not_refused mode log (damage why place) sound = cc
not_refused mode log (unsupported what) sound = cc
not_refused mode log stale_end sound = refl
not_refused mode log clean_end sound = refl

none_refused : (mode : Mode) (log : ℕ) (found : List Finding) → AllByRecursion (λ one. is_sound one ≡ true) found → filter_map (refusal mode log) (take_while (λ one. not (is_stop mode one)) found) ≡ []
none_refused mode log [] sound = refl
none_refused mode log (one ∷ found) sound = ap (filter_map (refusal mode log)) (take_while-cons (λ x. not (is_stop mode x)) one found) ∙ by (none_refused mode log found sound.1) (is_stop mode one)
  where
    by : filter_map (refusal mode log) (take_while (λ x. not (is_stop mode x)) found) ≡ [] → (b : Bool) → filter_map (refusal mode log) (cond (not b) (one ∷ take_while (λ x. not (is_stop mode x)) found) []) ≡ []
    by more true = refl
    by more false = ap (λ o. cons_option o (filter_map (refusal mode log) (take_while (λ x. not (is_stop mode x)) found))) (not_refused mode log one sound.0) ∙ more

none_refused_in : (mode : Mode) (logs : List Findings) → AllByRecursion Sound logs → flat_map (refusals mode) logs ≡ []
none_refused_in mode [] sound = refl
none_refused_in mode (log ∷ logs) sound = ap (λ xs. xs ++ flat_map (refusals mode) logs) (none_refused mode log.log log.found sound.0.sound) ∙ none_refused_in mode logs sound.1

-- where all damage is refused and nothing is, all is sound
sound_of : (log : ℕ) (found : List Finding) → filter_map (refusal Absolute log) found ≡ [] → AllByRecursion (λ one. is_sound one ≡ true) found
sound_of log [] none = tt
sound_of log (batch read ∷ found) none = (refl, sound_of log found none)
sound_of log (damage why place ∷ found) none = cc
sound_of log (unsupported what ∷ found) none = cc
sound_of log (stale_end ∷ found) none = (refl, sound_of log found none)
sound_of log (clean_end ∷ found) none = (refl, sound_of log found none)

nil_parts : {A : Type 0} (xs ys : List A) → xs ++ ys ≡ [] → (xs ≡ []) × (ys ≡ [])
nil_parts [] ys e = (refl, e)
nil_parts (x ∷ xs) ys e = cc

all_sound : (logs : List Log) → flat_map (refusals Absolute) (map findings logs) ≡ [] → AllByRecursion Sound (map findings logs)
all_sound [] none = tt
all_sound (log ∷ logs) none =
    let parts = nil_parts (refusals Absolute (findings log)) (flat_map (refusals Absolute) (map findings logs)) none in
    let found = (findings log).found in
    let whole_front = ap (filter_map (refusal Absolute log.number)) (sym (all_in_front Absolute absolute-never found)) in (
      record {
        sound = sound_of log.number found (whole_front ∙ parts.0);
        last = findings_end_last (log_items log.number log.bytes) (items_end_last None (log_marks log.number log.bytes) (EndsOnce-log_marks log.number log.bytes));
      },
      all_sound logs parts.1,
    )

-- what logs that count amount to, and the answer that is made of it and of the refusals
amount : Mode → Version → List Findings → Replayed
amount mode version logs = record { records = flat_map (admitted mode version) logs; expected = expected_in mode version logs; stopped = option_map (λ stop. stop.log) (stop_after mode logs) }

answered : List WalErr → Replayed → Result Replayed WalErr
answered [] added = Ok added
answered (why ∷ more) added = Err why

abbrev whys : Mode → Version → List Findings → List WalErr
whys mode version logs = flat_map (refusals mode) logs ++ ahead_after version (stop_after mode logs)

first_why : (xs : List WalErr) (added : Replayed) → (elim (slice_get xs 0) [ Some why ↦ Err why | None ↦ Ok added ]) ≡ answered xs added
unfolding answered
first_why [] added = refl
first_why (why ∷ more) added = refl

replay-answered : (mode : Mode) (version : Version) (logs : List Log) → replay mode version logs ≡ answered (whys mode version (counted mode version (map findings logs))) (amount mode version (counted mode version (map findings logs)))
unfolding replay amount
replay-answered mode version logs =
    first_why (whys mode version (counted mode version (map findings logs))) (amount mode version (counted mode version (map findings logs)))

answered-ok : (xs : List WalErr) (added other : Replayed) → answered xs added ≡ Ok other → (xs ≡ []) × (added ≡ other)
unfolding answered
answered-ok [] added other e = (refl, cc)
answered-ok (why ∷ more) added other e = cc

ok-answered : (xs : List WalErr) (added : Replayed) → xs ≡ [] → answered xs added ≡ Ok added
unfolding answered
ok-answered xs added e = ap (λ x. answered x added) e

same_records : (mode : Mode) (version : Version) (logs : List Findings) → AreWhole mode logs → flat_map (admitted mode version) logs ≡ flat_map (all_records version) logs
same_records mode version [] same = refl
same_records mode version (log ∷ logs) same =
    λ i. filter (is_wanted version log.log) (flat_map (λ read. changes read.parts) (same.0 i)) ++ same_records mode version logs same.1 i

same_batches : (mode : Mode) (logs : List Findings) → AreWhole mode logs → flat_map (batches mode) logs ≡ flat_map all_batches logs
same_batches mode [] same = refl
same_batches mode (log ∷ logs) same = λ i. same.0 i ++ same_batches mode logs same.1 i

amount-whole : (mode : Mode) (version : Version) (logs : List Findings) → AreWhole mode logs
    → amount mode version logs ≡ record (whole version logs) { stopped = option_map (λ stop. stop.log) (stop_after mode logs) }
unfolding amount
amount-whole mode version logs same = λ i. record {
  records = same_records mode version logs same i;
  expected = expected_after (unwrap_or version.last_sequence 0 + 1) (same_batches mode logs same i);
  stopped = option_map (λ stop. stop.log) (stop_after mode logs);
}

-- logs that all count
abbrev answer_of : Mode → Version → List Findings → Result Replayed WalErr
answer_of mode version logs = answered (whys mode version logs) (amount mode version logs)

unstopped-counted : (mode : Mode) (version : Version) (logs : List Log) → Unstopped mode (map findings logs) → replay mode version logs ≡ answer_of mode version (map findings logs)
unstopped-counted mode version logs none = replay-answered mode version logs ∙ ap (answer_of mode version) (all_count mode version [] (map findings logs) tt none)

unstopped-amount : (mode : Mode) (version : Version) (logs : List Findings) → Unstopped mode logs → AreWhole mode logs → amount mode version logs ≡ whole version logs
unstopped-amount mode version logs none same =
    amount-whole mode version logs same ∙ ap (λ o. record (whole version logs) { stopped = option_map (λ (stop : Stop). stop.log) o }) (stop_after-unstopped mode logs none)

unstopped-replay : (mode : Mode) (version : Version) (logs : List Log) → Unstopped mode (map findings logs) → AreWhole mode (map findings logs) → AllByRecursion Sound (map findings logs) → replay mode version logs ≡ Ok (whole version (map findings logs))
unstopped-replay mode version logs none same sound =
    let found = map findings logs in
    let no_why : whys mode version found ≡ [] = (λ i. none_refused_in mode found sound i ++ ahead_after version (stop_after-unstopped mode found none i)) in
    unstopped-counted mode version logs none ∙ ok-answered (whys mode version found) (amount mode version found) no_why ∙ ap (λ x. Ok x) (unstopped-amount mode version found none same)

-- what is known where all damage is refused
record Undamaged (version : Version) (logs : List Log) (added : Replayed) : Type 0 where
  sound : AllByRecursion Sound (map findings logs)
  is : whole version (map findings logs) ≡ added

undamaged : (version : Version) (logs : List Log) (added : Replayed) → replay Absolute version logs ≡ Ok added → Undamaged version logs added
undamaged version logs added e =
    let found = map findings logs in
    let none = never-unstopped Absolute absolute-never found in
    let parts = answered-ok (whys Absolute version found) (amount Absolute version found) added (sym (unstopped-counted Absolute version logs none) ∙ e) in
    let no_why = nil_parts (flat_map (refusals Absolute) found) (ahead_after version (stop_after Absolute found)) parts.0 in
    record { sound = all_sound logs no_why.0; is = sym (unstopped-amount Absolute version found none (never-whole Absolute absolute-never found)) ∙ parts.1 }

pub never-added : (mode : Mode) → ((one : Finding) → is_stop mode one ≡ false) → (version : Version) (logs : List Log) (added : Replayed) → replay Absolute version logs ≡ Ok added → replay mode version logs ≡ Ok added
never-added mode never version logs added e =
    let known = undamaged version logs added e in
    unstopped-replay mode version logs (never-unstopped mode never (map findings logs)) (never-whole mode never (map findings logs)) known.sound ∙ ap (λ x. Ok x) known.is

-- without stale ends
fresh-unstopped : (logs : List Log) → AllByRecursion Sound (map findings logs) → AllByRecursion (λ log. ends_stale log ≡ false) logs → Unstopped PointInTime (map findings logs)
fresh-unstopped [] sound fresh = tt
fresh-unstopped (log ∷ logs) sound fresh =
    (ap (option_map (λ one. record { log = log.number; at = one })) (sound-no_stop (findings log).found sound.0.sound fresh.0), fresh-unstopped logs sound.1 fresh.1)

pub fresh-added : (version : Version) (logs : List Log) (added : Replayed) → replay Absolute version logs ≡ Ok added → AllByRecursion (λ log. ends_stale log ≡ false) logs → replay PointInTime version logs ≡ Ok added
fresh-added version logs added e fresh =
    let known = undamaged version logs added e in
    unstopped-replay PointInTime version logs (fresh-unstopped logs known.sound fresh) (sound-whole (map findings logs) known.sound) known.sound ∙ ap (λ x. Ok x) known.is

-- some of the logs count
abbrev SomeCount : Version → List Log → List Log → List Findings → Type 0
SomeCount version before logs from = (part : List Log) × IsPartOf part logs × (from ≡ map findings (before ++ part))

some_count : (version : Version) (before logs : List Log) → SomeCount version before logs (fold (count_log PointInTime version) (map findings before) (map findings logs))
some_count version before [] = ([], no_log, ap (map findings) (sym (append-nil before)))
some_count version before (log ∷ logs) = by (some_count version before logs) (some_count version (before ++ log ∷ []) logs) (is_some (stop_after PointInTime (map findings before)) && not (goes_on (expected_in PointInTime version (map findings before)) (findings log)))
  where
    by : SomeCount version before logs (fold (count_log PointInTime version) (map findings before) (map findings logs))
        → SomeCount version (before ++ log ∷ []) logs (fold (count_log PointInTime version) (map findings (before ++ log ∷ [])) (map findings logs))
        → (b : Bool) → SomeCount version before (log ∷ logs) (fold (count_log PointInTime version) (cond b (map findings before) (map findings before ++ findings log ∷ [])) (map findings logs))
    by without within true = (without.0, left_out without.1, without.2)
    by without within false = (
      log ∷ within.0,
      taken within.1,
      ap (λ x. fold (count_log PointInTime version) x (map findings logs)) (sym (map-append findings before (log ∷ [])))
          ∙ within.2 ∙ ap (map findings) (append_assoc before (log ∷ []) within.0),
    )

sound_part : (part logs : List Log) → IsPartOf part logs → AllByRecursion Sound (map findings logs) → AllByRecursion Sound (map findings part)
sound_part _ _ no_log sound = tt
sound_part _ _ (taken part) sound = (sound.0, sound_part _ _ part sound.1)
sound_part _ _ (left_out part) sound = sound_part _ _ part sound.1

-- no family is ahead of a stale end
sound-ahead : (version : Version) (log : ℕ) (found : List Finding) → AllByRecursion (λ one. is_sound one ≡ true) found → ahead_after version (option_map (λ one. record { log = log; at = one }) (find (is_stop PointInTime) found)) ≡ []
sound-ahead version log [] sound = refl
sound-ahead version log (batch read ∷ found) sound = sound-ahead version log found sound.1
sound-ahead version log (damage why place ∷ found) sound = let no = sound.0 in cc
sound-ahead version log (unsupported what ∷ found) sound = let no = sound.0 in cc
sound-ahead version log (stale_end ∷ found) sound = refl
sound-ahead version log (clean_end ∷ found) sound = sound-ahead version log found sound.1

none_ahead : (version : Version) (o : Option (Option Stop)) (logs : List Findings) → ahead_after version (unwrap_or o None) ≡ [] → AllByRecursion Sound logs → ahead_after version (unwrap_or (last_or o (map (stop_in PointInTime) logs)) None) ≡ []
none_ahead version o [] none sound = none
none_ahead version o (log ∷ logs) none sound = none_ahead version (Some (stop_in PointInTime log)) logs (sound-ahead version log.log log.found sound.0.sound) sound.1

pub part-added : (version : Version) (logs : List Log) (added : Replayed) → replay Absolute version logs ≡ Ok added
    → (part : List Log) × IsPartOf part logs × (fewer : Replayed) × (replay Absolute version part ≡ Ok fewer) × (end : Option ℕ) × (replay PointInTime version logs ≡ Ok (record fewer { stopped = end }))
part-added version logs added e =
    let known = undamaged version logs added e in
    let some = some_count version [] logs in
    let found = map findings some.0 in
    let sound = sound_part some.0 logs some.1 known.sound in
    let no_why : whys PointInTime version found ≡ [] = (λ i. none_refused_in PointInTime found sound i ++ none_ahead version None found refl sound i) in (
      some.0,
      some.1,
      whole version found,
      unstopped-replay Absolute version some.0 (never-unstopped Absolute absolute-never found) (never-whole Absolute absolute-never found) sound,
      option_map (λ (stop : Stop). stop.log) (stop_after PointInTime found),
      replay-answered PointInTime version logs ∙ ap (answer_of PointInTime version) some.2
          ∙ ok-answered (whys PointInTime version found) (amount PointInTime version found) no_why
          ∙ ap (λ x. Ok x) (amount-whole PointInTime version found (sound-whole found sound)),
    )
