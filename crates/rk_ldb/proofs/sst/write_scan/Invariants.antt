use Rattle.std.proofs.Common.{◌≡◌, ◌-◌, length}
use Rattle.std.specs.Prelude.{IfSome}
use Rattle.rk_bytes.specs.Model.DiskImages.{IsLeft, contents_told}
use Rattle.rk_sst.specs.Opened.{IsOpen}
use Rattle.rk_ldb.proofs.Scans.{Scanned}
use Rattle.rk_ldb.proofs.sst.write_scan.Given as goal

-- the blocks before the next one have their lines in the output, and no call failed
abbrev pub invariant-loop-records : goal.invariant-loop-records
invariant-loop-records g l =
    let told = g.D.Disk.told l.fn.disk in
    record {
      left : IsLeft told (g.D.Disk.told l.disk);
      disk_faults : g.D.Disk.faults l.disk ≡ g.D.Disk.faults l.fn.disk;
      output_faults : g.S.Sink.faults l.out ≡ g.S.Sink.faults l.fn.out;
      opened : IfSome (contents_told told) (IsOpen l.table);
      scanned : Scanned (contents_told told) (g.S.Sink.taken l.fn.out) (g.S.Sink.taken l.out) l.hex l.fn.table l.table;
    }

abbrev pub decreases-loop-records : goal.decreases-loop-records
decreases-loop-records g l = length l.table.table.index - l.table.block
