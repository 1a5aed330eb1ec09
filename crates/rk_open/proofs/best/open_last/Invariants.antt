use Rattle.std.proofs.Common.{◌≡◌, ◌≤◌, length}
use Rattle.rk_bytes.specs.Model.DiskImages.{IsLeft, contents_told}
use Rattle.rk_open.proofs.BestLemmas.{NoneBehind}
use Rattle.rk_open.proofs.best.open_last.Given as goal

-- the manifests behind those that are left aren't complete, and no call failed
abbrev pub invariant-loop-left : goal.invariant-loop-left
invariant-loop-left g l =
    let told = g.D.Disk.told l.fn.disk in
    record {
      within : l.left ≤ length l.numbers;
      left : IsLeft told (g.D.Disk.told l.disk);
      faults : g.D.Disk.faults l.disk ≡ g.D.Disk.faults l.fn.disk;
      behind : NoneBehind (contents_told told) l.numbers l.left;
    }

abbrev pub decreases-loop-left : goal.decreases-loop-left
decreases-loop-left g l = l.left
