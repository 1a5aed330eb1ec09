use Rattle.std.proofs.Common.{◌≡◌, map, take}
use Rattle.rk_bytes.specs.Model.DiskImages.{IsLeft, contents_told}
use Rattle.rk_open.specs.Reads.{AreKept}
use Rattle.rk_open.specs.Tables.{listed_of, AddsTables}
use Rattle.rk_open.proofs.tables.add_each.Given as goal

-- the tables so far are added, and no call failed
abbrev pub invariant-loop-table : goal.invariant-loop-table
invariant-loop-table g l =
    let told = g.D.Disk.told l.fn.disk in
    record {
      left : IsLeft told (g.D.Disk.told l.disk);
      faults : g.D.Disk.faults l.disk ≡ g.D.Disk.faults l.fn.disk;
      added : AddsTables (contents_told told) (map listed_of (take l.table-index l.tables)) l.fn.state.state l.state.state l.top;
      kept : AreKept (contents_told told) l.kept;
    }
