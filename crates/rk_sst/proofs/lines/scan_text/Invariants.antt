use Rattle.std.proofs.Common.{◌≡◌, ◌-◌, length}
use Rattle.std.specs.Prelude.{IfSome}
use Rattle.rk_bytes.specs.Model.DiskImages.{IsLeft, contents_told}
use Rattle.rk_sst.specs.Opened.{IsOpen}
use Rattle.rk_sst.proofs.LineLemmas.{IsTold}
use Rattle.rk_sst.proofs.lines.scan_text.Given as goal

-- the lines of the blocks before the next one are in the text, and no call failed
abbrev pub invariant-loop-line : goal.invariant-loop-line
invariant-loop-line g l =
    let told = g.D.Disk.told l.fn.disk in
    record {
      left : IsLeft told (g.D.Disk.told l.disk);
      faults : g.D.Disk.faults l.disk ≡ g.D.Disk.faults l.fn.disk;
      opened : IfSome (contents_told told) (IsOpen l.table);
      put : IsTold (contents_told told) l.hex l.fn.table l.table l.text;
    }

abbrev pub decreases-loop-line : goal.decreases-loop-line
decreases-loop-line g l = length l.table.table.index - l.table.block
