-- What a run that was fed has come to, and what it answers.
use Rattle.std.proofs.Common.{◌≡◌, ℕ, true, false, not, List, [], ◌∷◌, ◌++◌, fold, filter, Option, Some, None, Result, Ok, Err, inl, inr, refl, sym, ◌∙◌, ap, subst}
use Rattle.std.specs.Prelude.{map, is_some}
use Rattle.std.proofs.lemmas.Bool.{false≢true}
use Rattle.std.proofs.lemmas.List.{append-nil, map-append}
use Rattle.std.proofs.lemmas.List.Sums.{fold-append}
use Rattle.std.proofs.lemmas.List.Elements.{filter-append}
use Rattle.rk_bytes.specs.declared.model.manifest.Version.{Version}
use Rattle.rk_bytes.specs.declared.model.wal.Mode.{Mode}
use Rattle.rk_bytes.specs.declared.model.wal.WalErr.{WalErr}
use Rattle.rk_bytes.specs.declared.model.wal.WalErr.TheVariants.{Corrupt, FamilyAhead, UnsupportedLog, Memory}
use Rattle.rk_bytes.specs.Model.LogItems.{Item, log_items}
use Rattle.rk_bytes.specs.Model.Replay.{Log, Findings, finding, findings, replay}
use Rattle.rk_log.specs.declared.feed.LogFeed.{LogFeed}
use Rattle.rk_log.specs.Left.{left}
use Rattle.rk_log.specs.Steps.{IsFileEnd}
use Rattle.rk_walmode.specs.declared.progress.Progress.{Progress}
use Rattle.rk_walmode.specs.declared.run.ReplayRun.{ReplayRun}
use Rattle.rk_walmode.specs.Fed.{Fed, is_file_end, items_so_far, found_so_far, refused_so_far, AnswersSoFar, gone_on, Refuses, lacks_memory}
use Rattle.rk_walmode.specs.Walks.{Walk, walk_on, log_ended, walk_log, walk_logs, first_walk}
use Rattle.rk_walmode.specs.Runs.{version_of, mode_of, HasCome, Follow, IsQuiet, IsBegun, IsFed, HasFed}
use Rattle.rk_walmode.proofs.CountLemmas.{passes_over, findings_in}
use Rattle.rk_walmode.proofs.WalkLemmas.{stands_at, walk_logs-push, stays_refused}
use Rattle.rk_walmode.proofs.ReplayLemmas.{replay_refused}

-- ---- items that change nothing

-- no item but the file's end is left
no_item : (items : List Item) → IsFileEnd items → filter (λ item. not (is_file_end item)) items ≡ []
no_item items (place, inl is) = ap (filter (λ item. not (is_file_end item))) is
no_item items (place, inr is) = ap (filter (λ item. not (is_file_end item))) is

-- a walk over items
abbrev pub walked : Mode → Version → ℕ → Walk → List Item → Walk
walked mode version log walk items = fold (walk_on mode version log) walk (map finding items)

pub walked-append : (mode : Mode) (version : Version) (log : ℕ) (walk : Walk) (some more : List Item) → walked mode version log walk (some ++ more) ≡ walked mode version log (walked mode version log walk some) more
walked-append mode version log walk some more =
    ap (fold (walk_on mode version log) walk) (map-append finding some more) ∙ fold-append (walk_on mode version log) walk (map finding some) (map finding more)

-- where the feed was given up
pub walked_up : (mode : Mode) (version : Version) (log : ℕ) (walk : Walk) (rest : List ℕ) (items : List Item) → Follow None walk rest items → walked mode version log walk items ≡ walk
walked_up mode version log walk rest items (inl over) = passes_over mode version log walk (map finding items) over
walked_up mode version log walk rest items (inr none) = ap (walked mode version log walk) none

-- of these items those count that are no end of a file
walked_quiet : (mode : Mode) (version : Version) (log : ℕ) (walk : Walk) (feed : Option LogFeed) (items : List Item) → IsQuiet false feed → Follow feed walk [] items
    → walked mode version log walk (filter (λ item. not (is_file_end item)) items) ≡ walk
walked_quiet mode version log walk None items quiet (inl over) = passes_over mode version log walk (map finding (filter (λ item. not (is_file_end item)) items)) over
walked_quiet mode version log walk None items quiet (inr none) = ap (λ (items : List Item). walked mode version log walk (filter (λ item. not (is_file_end item)) items)) none
walked_quiet mode version log walk (Some feed) items quiet follow =
    ap (walked mode version log walk) (ap (filter (λ item. not (is_file_end item))) follow.0 ∙ no_item (left feed []).items quiet)

-- ---- what is refused so far

-- The walk has come to the first refusal, if there is one.
record SoFar (mode : Mode) (version : Version) (progress : Progress) (outcome : Result (Unit {0}) WalErr) (fed : Fed) : Type 0 where
  walk : Walk
  come : HasCome progress outcome walk
  first : refused_so_far mode version fed ≡ walk.refused

refused_first : (mode : Mode) (version : Version) (fed : Fed) → refused_so_far mode version fed ≡ (walk_logs mode version (map findings fed.whole ++ found_so_far fed.begun)).refused
refused_first mode version fed = sym (stands_at mode version (map findings fed.whole ++ found_so_far fed.begun)).refused

so_far_whole : (mode : Mode) (version : Version) (run : ReplayRun) (whole : List Log) → IsFed mode version run false (walk_logs mode version (map findings whole)) None → SoFar mode version run.progress run.outcome (record { whole = whole; begun = None })
so_far_whole mode version run whole come = record {
  walk = walk_logs mode version (map findings whole);
  come = come;
  first = refused_first mode version (record { whole = whole; begun = None }) ∙ ap (λ (logs : List Findings). (walk_logs mode version logs).refused) (append-nil (map findings whole));
}

so_far_begun : (mode : Mode) (version : Version) (run : ReplayRun) (whole : List Log) (log : Log) → IsBegun mode version run false (walk_logs mode version (map findings whole)) log → SoFar mode version run.progress run.outcome (record { whole = whole; begun = Some log })
so_far_begun mode version run whole log b =
    let start : Walk = walk_logs mode version (map findings whole) in
    let here : Walk = walked mode version log.number start b.seen in
    let given = b.ahead [] (λ last. absurd (false≢true last)) in
    let items : log_items log.number log.bytes ≡ b.seen ++ given.0 = ap (log_items log.number) (sym (append-nil log.bytes)) ∙ given.1 in
    let known : items_so_far log ≡ b.seen ++ filter (λ item. not (is_file_end item)) given.0 =
    ap (filter (λ item. not (is_file_end item))) items ∙ filter-append (λ item. not (is_file_end item)) b.seen given.0 ∙ ap (λ (seen : List Item). seen ++ filter (λ item. not (is_file_end item)) given.0) (b.known refl) in
    let come : walked mode version log.number start (items_so_far log) ≡ here =
    ap (walked mode version log.number start) known ∙ walked-append mode version log.number start b.seen (filter (λ item. not (is_file_end item)) given.0) ∙ walked_quiet mode version log.number here run.feed given.0 b.quiet given.2 in
    record {
      walk = here;
      come = b.come;
      first = refused_first mode version (record { whole = whole; begun = Some log })
          ∙ ap (λ (walk : Walk). walk.refused) (walk_logs-push mode version (map findings whole) (findings_in log.number (map finding (items_so_far log))))
          ∙ ap (λ (walk : Walk). walk.refused) come;
    }

answers_so_far : (mode : Mode) (version : Version) (progress : Progress) (outcome : Result (Unit {0}) WalErr) (fed : Fed) → (lacks_memory outcome ≡ false → SoFar mode version progress outcome fed) → AnswersSoFar mode version fed outcome
answers_so_far mode version progress (Ok done) fed h = let s = h refl in s.first ∙ s.come.refused
answers_so_far mode version progress (Err (Corrupt log place why)) fed h = let s = h refl in s.first ∙ s.come.0
answers_so_far mode version progress (Err (FamilyAhead family log)) fed h = let s = h refl in s.first ∙ s.come.0
answers_so_far mode version progress (Err (UnsupportedLog log what)) fed h = let s = h refl in s.first ∙ s.come.0
answers_so_far mode version progress (Err Memory) fed h = tt

-- what the run answers so far
pub so_far : (run : ReplayRun) (fed : Fed) → HasFed run fed → AnswersSoFar (mode_of run) (version_of run) fed run.outcome
so_far run fed h = answers_so_far (mode_of run) (version_of run) run.progress run.outcome fed (λ known. by fed.begun h.come known)
  where
    by : (begun : Option Log) → IsFed (mode_of run) (version_of run) run false (walk_logs (mode_of run) (version_of run) (map findings fed.whole)) begun → lacks_memory run.outcome ≡ false
        → SoFar (mode_of run) (version_of run) run.progress run.outcome (record { whole = fed.whole; begun = begun })
    by None come known = so_far_whole (mode_of run) (version_of run) run fed.whole come
    by (Some log) come known = so_far_begun (mode_of run) (version_of run) run fed.whole log (come known)

-- ---- what is refused, whatever follows

-- Whatever follows in the log that is begun, the walk over it is refused so.
abbrev IsRefused : Mode → Version → Fed → WalErr → Type 0
IsRefused mode version fed why = (more : List ℕ) → (walk : Walk) × (walk_logs mode version (map findings (fed.whole ++ gone_on fed.begun more)) ≡ walk) × (walk.refused ≡ Some why) × (walk.passes ≡ true)

refused_whole : (mode : Mode) (version : Version) (whole : List Log) (why : WalErr) → let walk = walk_logs mode version (map findings whole) in (walk.refused ≡ Some why) × (walk.passes ≡ true)
    → IsRefused mode version (record { whole = whole; begun = None }) why
refused_whole mode version whole why come = λ more. (walk_logs mode version (map findings whole), ap (λ (logs : List Log). walk_logs mode version (map findings logs)) (append-nil whole), come.0, come.1)

refused_begun : (mode : Mode) (version : Version) (run : ReplayRun) (whole : List Log) (log : Log) (why : WalErr) (b : IsBegun mode version run false (walk_logs mode version (map findings whole)) log)
    → let walk = walked mode version log.number (walk_logs mode version (map findings whole)) b.seen in (walk.refused ≡ Some why) × (walk.passes ≡ true)
    → IsRefused mode version (record { whole = whole; begun = Some log }) why
refused_begun mode version run whole log why b come = λ more.
    let start : Walk = walk_logs mode version (map findings whole) in
    let here : Walk = walked mode version log.number start b.seen in
    let given = b.ahead more (λ last. absurd (false≢true last)) in
    let reached : walked mode version log.number start (log_items log.number (log.bytes ++ more)) ≡ here =
    ap (walked mode version log.number start) given.1 ∙ walked-append mode version log.number start b.seen given.0 ∙ passes_over mode version log.number here (map finding given.0) come.1 in (
      log_ended here,
      ap (walk_logs mode version) (map-append findings whole (record { number = log.number; bytes = log.bytes ++ more } ∷ []))
          ∙ walk_logs-push mode version (map findings whole) (findings (record { number = log.number; bytes = log.bytes ++ more }))
          ∙ ap log_ended reached,
      come.0,
      ap is_some come.0,
    )

refused_later : (mode : Mode) (version : Version) (fed : Fed) (why : WalErr) → IsRefused mode version fed why → (more : List ℕ) (later : List Log) → replay mode version (fed.whole ++ gone_on fed.begun more ++ later) ≡ Err why
refused_later mode version fed why refused more later =
    let before : List Log = fed.whole ++ gone_on fed.begun more in
    let r = refused more in
    let walks : walk_logs mode version (map findings (before ++ later)) ≡ fold (walk_log mode version) r.0 (map findings later) =
    ap (walk_logs mode version) (map-append findings before later) ∙ fold-append (walk_log mode version) (first_walk version) (map findings before) (map findings later)
    ∙ ap (λ (walk : Walk). fold (walk_log mode version) walk (map findings later)) r.1 in
    replay_refused mode version (before ++ later) why (ap (λ (walk : Walk). walk.refused) walks ∙ stays_refused mode version r.0 (map findings later) why r.2 r.3)

-- what the run has come to, where it was refused
refused_by : (mode : Mode) (version : Version) (run : ReplayRun) (whole : List Log) (begun : Option Log) (why : WalErr) → run.outcome ≡ Err why → lacks_memory {T = Unit {0}} (Err why) ≡ false
    → ((walk : Walk) → HasCome run.progress (Err why) walk → (walk.refused ≡ Some why) × (walk.passes ≡ true))
    → IsFed mode version run false (walk_logs mode version (map findings whole)) begun → IsRefused mode version (record { whole = whole; begun = begun }) why
refused_by mode version run whole None why is known tells come =
    refused_whole mode version whole why (tells (walk_logs mode version (map findings whole)) (subst (λ (outcome : Result (Unit {0}) WalErr). HasCome run.progress outcome (walk_logs mode version (map findings whole))) is come))
refused_by mode version run whole (Some log) why is known tells come =
    let b = come (ap lacks_memory is ∙ known) in
    let here : Walk = walked mode version log.number (walk_logs mode version (map findings whole)) b.seen in
    refused_begun mode version run whole log why b (tells here (subst (λ (outcome : Result (Unit {0}) WalErr). HasCome run.progress outcome here) is b.come))

refuses_by : (run : ReplayRun) (fed : Fed) (outcome : Result (Unit {0}) WalErr) → run.outcome ≡ outcome → HasFed run fed → Refuses (mode_of run) (version_of run) fed outcome
refuses_by run fed (Ok done) is h = tt
refuses_by run fed (Err (Corrupt log place why)) is h = refused_later (mode_of run) (version_of run) fed (Corrupt log place why) (refused_by (mode_of run) (version_of run) run fed.whole fed.begun (Corrupt log place why) is refl (λ walk come. come) h.come)
refuses_by run fed (Err (FamilyAhead family log)) is h = refused_later (mode_of run) (version_of run) fed (FamilyAhead family log) (refused_by (mode_of run) (version_of run) run fed.whole fed.begun (FamilyAhead family log) is refl (λ walk come. come) h.come)
refuses_by run fed (Err (UnsupportedLog log what)) is h = refused_later (mode_of run) (version_of run) fed (UnsupportedLog log what) (refused_by (mode_of run) (version_of run) run fed.whole fed.begun (UnsupportedLog log what) is refl (λ walk come. come) h.come)
refuses_by run fed (Err Memory) is h = tt

-- what the run refuses
pub refuses_later : (run : ReplayRun) (fed : Fed) → HasFed run fed → Refuses (mode_of run) (version_of run) fed run.outcome
refuses_later run fed h = refuses_by run fed run.outcome refl h
