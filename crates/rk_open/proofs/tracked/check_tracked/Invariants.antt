use Rattle.std.proofs.Common.{◌≡◌, length}
use Rattle.std.specs.Prelude.{IfSome, Result}
use Rattle.std.specs.FinMap.{get}
use Rattle.rk_bytes.specs.declared.model.open.OpenErr.{OpenErr}
use Rattle.rk_bytes.specs.Model.BlockEntries.{collected}
use Rattle.rk_bytes.specs.Model.DiskImages.{IsLeft, contents_told}
use Rattle.rk_bytes.specs.Model.Opening.{tracked_log}
use Rattle.rk_open.specs.Answers.{Passes}
use Rattle.rk_open.proofs.tracked.check_tracked.Given as goal

-- what the logs that are left come to is what all come to
abbrev pub invariant-loop-tracked : goal.invariant-loop-tracked
invariant-loop-tracked g l = record {
  left : IsLeft (g.D.Disk.told l.fn.disk) (g.D.Disk.told l.disk);
  faults : g.D.Disk.faults l.disk ≡ g.D.Disk.faults l.fn.disk;
  logs : IfSome (contents_told (g.D.Disk.told l.fn.disk)) (λ d. (result : Result (Unit {0}) OpenErr)
      → Passes (collected (tracked_log (get d) l.first) l.rest) result → Passes (collected (tracked_log (get d) l.first) l.version.wals) result);
}

abbrev pub decreases-loop-tracked : goal.decreases-loop-tracked
decreases-loop-tracked g l = length l.rest
