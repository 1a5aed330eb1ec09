use Rattle.std.proofs.Common.{◌≡◌, IfSome}
use Rattle.rk_bytes.specs.Model.DiskImages.{IsLeft, contents_told}
use Rattle.rk_table.specs.Runs.{left, Follows}
use Rattle.rk_cache.specs.Answers.{table_in, HoldsFor}
use Rattle.rk_cache.proofs.cache.BlockCache.read_status.Given as goal

abbrev pub invariant-loop-len : goal.invariant-loop-len
invariant-loop-len g l =
    record {
      follows : IfSome (contents_told (g.D.Disk.told l.fn.disk)) (λ files. Follows l.run (table_in files l.number));
      holds : IfSome (contents_told (g.D.Disk.told l.fn.disk)) (HoldsFor l.self.kept);
      capacity : l.self.capacity ≡ l.fn.self.capacity;
      left : IsLeft (g.D.Disk.told l.fn.disk) (g.D.Disk.told l.disk);
      faults : g.D.Disk.faults l.disk ≡ g.D.Disk.faults l.fn.disk;
    }

abbrev pub decreases-loop-len : goal.decreases-loop-len
decreases-loop-len g l = left l.run
