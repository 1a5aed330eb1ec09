use Rattle.rk_bytes.specs.declared.model.manifest.Tracked.{Tracked}
use Rattle.rk_version.proofs.Keyed.{put_more}
use Rattle.rk_version.proofs.logs.put_logs.Goals as goal

pub loop-tracked-preserved : goal.loop-tracked-preserved
loop-tracked-preserved c =
    put_more (λ (tracked : Tracked). tracked.log) c.args.kept.now c.loop-tracked.tracked-index _ c.loop-tracked-test.true c.loop-tracked.logs.items c.put_log.new.logs.items _ c.in_ok-put_log.ensures c.loop-tracked.invariant
