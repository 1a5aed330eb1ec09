use Rattle.std.proofs.Common.{◌≡◌, ◌-◌, ◌≤◌, length, IfSome}
use Rattle.rk_bytes.specs.Model.DiskImages.{IsLeft, contents_told}
use Rattle.rk_disk.proofs.Pieces.{IsFilled}
use Rattle.rk_disk.proofs.read.read_piece.Given as goal

abbrev pub invariant-loop-filled : goal.invariant-loop-filled
invariant-loop-filled g l =
    record {
      within : l.filled ≤ length l.buf;
      room : length l.buf ≡ length l.fn.buf;
      part : IfSome (contents_told (g.D.Disk.told l.fn.disk)) (IsFilled l.name l.at l.fn.buf l.buf l.filled);
      left : IsLeft (g.D.Disk.told l.fn.disk) (g.D.Disk.told l.disk);
      faults : g.D.Disk.faults l.disk ≡ g.D.Disk.faults l.fn.disk;
    }

abbrev pub decreases-loop-filled : goal.decreases-loop-filled
decreases-loop-filled g l = length l.buf - l.filled
