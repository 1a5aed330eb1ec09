use Rattle.std.proofs.Common.{◌+◌, ◌++◌, drop, ap, ◌∙◌}
use Rattle.rk_bytes.specs.declared.model.manifest.Tracked.{Tracked}
use Rattle.rk_version.specs.Keyed.{found_all}
use Rattle.rk_version.proofs.Keyed.{more_found, none_more}
use Rattle.rk_version.proofs.PlaceLemmas.{found_at, not_found}
use Rattle.rk_version.proofs.logs.keep_logs.Goals as goal
use Rattle.rk_version.proofs.logs.keep_logs.Goals.{in-Ok+in_ok-push, in_default}

pub loop-log-preserved : goal.loop-log-preserved
loop-log-preserved c =
    elim c.match-place_of_log.branch [
      | in-Ok+in_ok-push w ↦
          more_found (λ (tracked : Tracked). tracked.log) c.args.logs.now c.args.tracks.now c.loop-log.log-index c.loop-log-test.true c.loop-log.kept c.match-place_of_log.kept _ _ (w.kept-is ∙ w.in_ok-push.ensures.ok)
          (found_at (λ (tracked : Tracked). tracked.log) _ w.in-Ok.place c.args.logs.now _ w.in-Ok.ensures) c.loop-log.invariant
      | in_default w ↦
          ap (λ kept. kept ++ found_all (λ (tracked : Tracked). tracked.log) c.args.logs.now (drop (c.loop-log.log-index + 1) c.args.tracks.now)) w.kept-is ∙ none_more (λ (tracked : Tracked). tracked.log) c.args.logs.now c.args.tracks.now c.loop-log.log-index c.loop-log-test.true c.loop-log.kept _
          (not_found (λ (tracked : Tracked). tracked.log) _ w.in_default.field-0 c.args.logs.now w.in_default.ensures) c.loop-log.invariant
    ]
