use Rattle.std.proofs.Common.{◌≡◌, ◌-◌, ◌++◌, length}
use Rattle.std.specs.Prelude.{IfSome, true}
use Rattle.rk_bytes.specs.Model.DiskImages.{IsLeft, contents_told}
use Rattle.rk_bytes.specs.Model.Opening.{are_within}
use Rattle.rk_sst.specs.Opened.{IsOpen, records_left}
use Rattle.rk_sst.specs.Rising.{RiseFrom, last_given}
use Rattle.rk_open.proofs.run.read_run.Given as goal

-- the records of the blocks before the next one are there, and no call failed
abbrev pub invariant-loop-records : goal.invariant-loop-records
invariant-loop-records g l =
    let told = g.D.Disk.told l.fn.disk in
    record {
      left : IsLeft told (g.D.Disk.told l.disk);
      faults : g.D.Disk.faults l.disk ≡ g.D.Disk.faults l.fn.disk;
      table : l.table.table ≡ l.fn.table.table;
      opened : IfSome (contents_told told) (IsOpen l.table);
      run : IfSome (contents_told told) (λ d. records_left l.fn.table d ≡ l.run.items ++ records_left l.table d);
      within : are_within l.file l.run.items ≡ true;
      rising : RiseFrom l.fn.table.table.family l.fn.table.last l.run.items;
      last : l.table.last ≡ last_given l.fn.table.last l.run.items;
    }

abbrev pub decreases-loop-records : goal.decreases-loop-records
decreases-loop-records g l = length l.table.table.index - l.table.block
