use Rattle.std.proofs.Common.{◌≡◌, ◌-◌, ◌≤◌, length, take, IfSome}
use Rattle.rk_bytes.specs.Model.DiskImages.{IsLeft, contents_told}
use Rattle.rk_disk.proofs.Pieces.{bytes_of}
use Rattle.rk_disk.proofs.read.read_front.Given as goal

abbrev pub invariant-loop-bytes : goal.invariant-loop-bytes
invariant-loop-bytes g l =
    record {
      within : length l.bytes.items ≤ l.len;
      front : IfSome (contents_told (g.D.Disk.told l.fn.disk)) (λ files. l.bytes.items ≡ take (length l.bytes.items) (bytes_of l.name files));
      left : IsLeft (g.D.Disk.told l.fn.disk) (g.D.Disk.told l.disk);
      faults : g.D.Disk.faults l.disk ≡ g.D.Disk.faults l.fn.disk;
    }

abbrev pub decreases-loop-bytes : goal.decreases-loop-bytes
decreases-loop-bytes g l = l.len - length l.bytes.items
