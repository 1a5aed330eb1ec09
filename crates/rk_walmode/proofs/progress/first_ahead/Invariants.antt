use Rattle.std.proofs.Common.{◌≡◌, filter, take, []}
use Rattle.rk_bytes.specs.Model.Replay.{is_ahead}
use Rattle.rk_walmode.proofs.progress.first_ahead.Given as goal

abbrev pub invariant-loop-live : goal.invariant-loop-live
invariant-loop-live l = filter (is_ahead l.log) (take l.live-index l.families) ≡ []
