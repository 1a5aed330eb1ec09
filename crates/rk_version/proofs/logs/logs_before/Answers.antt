use Rattle.std.proofs.Common.{◌≡◌, List, sym, subst, IfOk}
use Rattle.rk_bytes.specs.declared.model.manifest.Tracked.{Tracked}
use Rattle.rk_version.specs.Keyed.{put_all}
use Rattle.rk_version.specs.Places.{Rises}
use Rattle.rk_version.proofs.Keyed.{gone_more, all_gone}
use Rattle.rk_version.proofs.Rising.{rises_filter}
use Rattle.rk_version.proofs.logs.logs_before.Goals as goal

pub loop-log-preserved : goal.loop-log-preserved
loop-log-preserved c = (
  subst (Rises (λ (tracked : Tracked). tracked.log)) (sym c.remove_log.ensures) (rises_filter (λ (tracked : Tracked). tracked.log) _ c.loop-log.logs.items c.loop-log.invariant.0),
  gone_more (λ (tracked : Tracked). tracked.log) c.args.tracks.now c.loop-log.log-index c.loop-log-test.true c.loop-log.logs.items c.remove_log.new.logs.items _ c.remove_log.ensures c.loop-log.invariant.1,
)

pub returns : goal.returns
returns c =
    let left = all_gone (λ (tracked : Tracked). tracked.log) c.args.tracks.now c.loop-log.log-index c.loop-log-test.false c.loop-log.logs.items _ c.loop-log.invariant.1 in
    subst (λ (logs : List Tracked). IfOk c.put_logs.result (λ before. before ≡ put_all (λ (tracked : Tracked). tracked.log) c.args.kept.now logs)) left c.put_logs.ensures
