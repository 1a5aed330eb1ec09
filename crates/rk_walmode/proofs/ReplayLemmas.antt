-- What replay comes to, by the walk over the logs.
use Rattle.std.proofs.Common.{◌≡◌, ℕ, Bool, true, false, List, [], ◌∷◌, ◌++◌, Option, Some, None, Result, Ok, Err, refl, sym, ◌∙◌, ap, subst}
use Rattle.std.specs.Prelude.{map, flat_map, filter, if◌then◌else◌, slice_get, option_map}
use Rattle.rk_bytes.specs.declared.model.manifest.FamilyState.{FamilyState}
use Rattle.rk_bytes.specs.declared.model.manifest.Version.{Version}
use Rattle.rk_bytes.specs.declared.model.wal.Mode.{Mode}
use Rattle.rk_bytes.specs.declared.model.wal.WalErr.{WalErr}
use Rattle.rk_bytes.specs.declared.model.wal.WalErr.TheVariants.{Corrupt, FamilyAhead, UnsupportedLog, Memory}
use Rattle.rk_bytes.specs.Model.Replay.{Log, Replayed, Finding, batch, damage, unsupported, stale_end, clean_end, Findings, Stop as StopAt, findings, stop_after, expected_in, counted, refusals, admitted, is_ahead, ahead, ahead_after, replay}
use Rattle.rk_walmode.specs.declared.progress.Stop.{Stop}
use Rattle.rk_walmode.specs.declared.progress.Progress.{Progress}
use Rattle.rk_walmode.specs.declared.outcome.Replayed.{Replayed as Given}
use Rattle.rk_walmode.specs.Fed.{replayed_of, Replays, lacks_memory}
use Rattle.rk_walmode.specs.Walks.{Walk, stop_of, walk_logs, ahead_of}
use Rattle.rk_walmode.specs.Runs.{IsAt, HasCome}
use Rattle.rk_walmode.specs.Ends.{replayed_by, Finishes}
use Rattle.rk_walmode.proofs.WalkLemmas.{Stands, first_stays, none_first, stands_at}

-- the first reason for a refusal, or what was replayed
abbrev answered : Option WalErr → Replayed → Result Replayed WalErr
answered (Some why) replayed = Err why
answered None replayed = Ok replayed

-- what logs that count add
abbrev added_by : Mode → Version → List Findings → Replayed
added_by mode version logs = record { records = flat_map (admitted mode version) logs; expected = expected_in mode version logs; stopped = option_map (λ (stop : StopAt). stop.log) (stop_after mode logs) }

-- what a walk has come to
abbrev pub replayed_at : Walk → Replayed
replayed_at walk = record { records = walk.records; expected = walk.expected; stopped = option_map (λ (stop : Stop). stop.log) walk.stopped }

chosen : (first : Option WalErr) (added : Replayed) → elim first as (λ _. Result Replayed WalErr) [ Some why ↦ Err why | None ↦ Ok added ] ≡ answered first added
chosen (Some why) added = refl
chosen None added = refl

replay_is : (mode : Mode) (version : Version) (logs : List Log) (first : Option WalErr)
    → let counting = counted mode version (map findings logs) in slice_get (flat_map (refusals mode) counting ++ ahead_after version (stop_after mode counting)) 0 ≡ first
    → replay mode version logs ≡ answered first (added_by mode version counting)
unfolding replay
replay_is mode version logs first is =
    let added : Replayed = added_by mode version (counted mode version (map findings logs)) in
    ap (λ (first : Option WalErr). elim first as (λ _. Result Replayed WalErr) [ Some why ↦ Err why | None ↦ Ok added ]) is ∙ chosen first added

-- a walk that was refused
pub replay_refused : (mode : Mode) (version : Version) (logs : List Log) (why : WalErr) → (walk_logs mode version (map findings logs)).refused ≡ Some why → replay mode version logs ≡ Err why
replay_refused mode version logs why refused =
    let counting = counted mode version (map findings logs) in
    let stands = stands_at mode version (map findings logs) in
    replay_is mode version logs (Some why) (first_stays (flat_map (refusals mode) counting) (ahead_after version (stop_after mode counting)) why (sym stands.refused ∙ refused))

ahead-at : (version : Version) (log : ℕ) (at : Finding) → ahead version log at ≡ ahead_of version (Some (stop_of (record { log = log; at = at })))
ahead-at version log (batch read) = refl
ahead-at version log (damage why place) = refl
ahead-at version log (unsupported what) = refl
ahead-at version log stale_end = refl
ahead-at version log clean_end = refl

ahead-stop : (version : Version) (stop : Option StopAt) → ahead_after version stop ≡ ahead_of version (option_map stop_of stop)
ahead-stop version None = refl
ahead-stop version (Some stop) = ahead-at version stop.log stop.at

stop_log : (stop : Option StopAt) → option_map (λ (stop : StopAt). stop.log) stop ≡ option_map (λ (stop : Stop). stop.log) (option_map stop_of stop)
stop_log None = refl
stop_log (Some stop) = refl

-- a walk that was not refused
pub replay_ends : (mode : Mode) (version : Version) (logs : List Log) (walk : Walk) (first : Option WalErr) → walk_logs mode version (map findings logs) ≡ walk → walk.refused ≡ None
    → slice_get (ahead_of version walk.stopped) 0 ≡ first → replay mode version logs ≡ answered first (replayed_at walk)
replay_ends mode version logs walk first come fine is =
    let counting = counted mode version (map findings logs) in
    let stands = subst (λ (walk : Walk). Stands mode version walk counting) come (stands_at mode version (map findings logs)) in
    let none : flat_map (refusals mode) counting ≡ [] = none_first (flat_map (refusals mode) counting) (sym stands.refused ∙ fine) in
    let same : replayed_at walk ≡ added_by mode version counting =
    (λ i. record { records = stands.records fine i; expected = stands.expected fine i; stopped = (ap (option_map (λ (stop : Stop). stop.log)) (stands.stopped fine) ∙ sym (stop_log (stop_after mode counting))) i }) in
    replay_is mode version logs first (
    ap (λ (rs : List WalErr). slice_get (rs ++ ahead_after version (stop_after mode counting)) 0) none
    ∙ ap (λ (rs : List WalErr). slice_get rs 0) (ahead-stop version (stop_after mode counting))
    ∙ ap (λ (stop : Option Stop). slice_get (ahead_of version stop) 0) (sym (stands.stopped fine))
    ∙ is
    )
    ∙ ap (answered first) (sym same)

-- ---- a run that is finished

-- the progress answers where no log follows
pub answers_progress : (mode : Mode) (version : Version) (logs : List Log) (progress : Progress) (result : Result Given WalErr) → version ≡ progress.version.now
    → IsAt progress (walk_logs mode version (map findings logs)) → Finishes progress result → Replays (replay mode version logs) result
answers_progress mode version logs progress result same at finishes = by result finishes
  where
    walk : Walk
    walk = walk_logs mode version (map findings logs)

    first : (why : Option WalErr) → slice_get (ahead_of progress.version.now progress.stopped) 0 ≡ why → slice_get (ahead_of version walk.stopped) 0 ≡ why
    first why is =
        ap (λ (version : Version). slice_get (ahead_of version walk.stopped) 0) same
        ∙ ap (λ (stopped : Option Stop). slice_get (ahead_of progress.version.now stopped) 0) (sym at.stopped)
        ∙ is

    added : (given : Given) → given ≡ replayed_by progress → replayed_at walk ≡ replayed_of given
    added given is =
        (λ i. record { records = sym at.records i; expected = sym at.expected i; stopped = option_map (λ (stop : Stop). stop.log) (sym at.stopped i) }) ∙ ap replayed_of (sym is)

    by : (result : Result Given WalErr) → Finishes progress result → Replays (replay mode version logs) result
    by (Ok given) finishes = replay_ends mode version logs walk None refl at.refused (first None finishes.0) ∙ ap Ok (added given finishes.1)
    by (Err (Corrupt log place why)) finishes = replay_ends mode version logs walk (Some (Corrupt log place why)) refl at.refused (first (Some (Corrupt log place why)) finishes)
    by (Err (FamilyAhead family log)) finishes = replay_ends mode version logs walk (Some (FamilyAhead family log)) refl at.refused (first (Some (FamilyAhead family log)) finishes)
    by (Err (UnsupportedLog log what)) finishes = replay_ends mode version logs walk (Some (UnsupportedLog log what)) refl at.refused (first (Some (UnsupportedLog log what)) finishes)
    by (Err Memory) finishes = tt

-- the refusal that was kept
pub refused_kept : (mode : Mode) (version : Version) (logs : List Log) (progress : Progress) (why : WalErr) → HasCome progress (Err why) (walk_logs mode version (map findings logs)) → Replays (replay mode version logs) (Err why)
refused_kept mode version logs progress (Corrupt log place why) come = replay_refused mode version logs (Corrupt log place why) come.0
refused_kept mode version logs progress (FamilyAhead family log) come = replay_refused mode version logs (FamilyAhead family log) come.0
refused_kept mode version logs progress (UnsupportedLog log what) come = replay_refused mode version logs (UnsupportedLog log what) come.0
refused_kept mode version logs progress Memory come = tt

-- a family that is ahead is no want of memory
pub ahead_is_known : (version : Version) (stop : Option Stop) (why : WalErr) → slice_get (ahead_of version stop) 0 ≡ Some why → lacks_memory {T = Given} (Err why) ≡ false
ahead_is_known version None why is = absurd cc
ahead_is_known version (Some stop) why is = by stop.damaged is
  where
    named : (log : ℕ) (families : List FamilyState) → slice_get (map (λ (live : FamilyState). FamilyAhead live.id log) families) 0 ≡ Some why → lacks_memory {T = Given} (Err why) ≡ false
    named log [] is = absurd cc
    named log (live ∷ families) is = let same : FamilyAhead live.id log ≡ why = cc in ap (λ (why : WalErr). lacks_memory {T = Given} (Err why)) (sym same)

    by : (damaged : Bool) → slice_get (if damaged then map (λ (live : FamilyState). FamilyAhead live.id stop.log) (filter (is_ahead stop.log) version.families) else []) 0 ≡ Some why → lacks_memory {T = Given} (Err why) ≡ false
    by true is = named stop.log (filter (is_ahead stop.log) version.families) is
    by false is = absurd cc
