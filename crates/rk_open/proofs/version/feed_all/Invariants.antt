use Rattle.std.proofs.Common.{◌≡◌, ℕ, ◌≤◌, ◌-◌, false, List, length, take}
use Rattle.rk_bytes.specs.Model.DiskImages.{IsLeft}
use Rattle.rk_disk.specs.Parts.{OfFile}
use Rattle.rk_manifest.specs.Folds.{HasFed, bytes_read}
use Rattle.rk_open.proofs.version.feed_all.Given as goal

-- the blocks before this one were fed, and no call failed
abbrev pub invariant-loop-len : goal.invariant-loop-len
invariant-loop-len g l =
    record {
      within : l.at ≤ l.size;
      room : length l.buffer ≡ 32768;
      read : bytes_read l.fold ≤ l.at;
      left : IsLeft (g.D.Disk.told l.fn.disk) (g.D.Disk.told l.disk);
      faults : g.D.Disk.faults l.disk ≡ g.D.Disk.faults l.fn.disk;
      fed : OfFile (g.D.Disk.told l.fn.disk) l.name l.size (λ bytes. HasFed l.fold false (take l.at bytes));
      bytes : (bytes : List ℕ) × HasFed l.fold false bytes;
    }

abbrev pub decreases-loop-len : goal.decreases-loop-len
decreases-loop-len g l = l.size - l.at
