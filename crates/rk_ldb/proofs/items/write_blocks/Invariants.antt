use Rattle.std.proofs.Common.{◌≡◌, ◌≤◌, ◌-◌, length}
use Rattle.rk_bytes.specs.Model.DiskImages.{IsLeft}
use Rattle.rk_log.specs.Left.{bytes_before}
use Rattle.rk_disk.specs.Parts.{OfFile}
use Rattle.rk_ldb.proofs.Blocks.{InLog}
use Rattle.rk_ldb.proofs.items.write_blocks.Given as goal

-- the blocks before this one have their lines in the output, and no call failed
abbrev pub invariant-loop-len : goal.invariant-loop-len
invariant-loop-len g l =
    (l.at ≤ l.size) × (bytes_before l.feed ≡ l.at) × (length l.buffer ≡ 32768)
    × IsLeft (g.D.Disk.told l.initial.disk) (g.D.Disk.told l.disk)
    × (g.D.Disk.faults l.disk ≡ g.D.Disk.faults l.initial.disk) × (g.S.Sink.faults l.out ≡ g.S.Sink.faults l.initial.out)
    × OfFile (g.D.Disk.told l.initial.disk) l.name l.size (InLog (g.S.Sink.taken l.initial.out) (g.S.Sink.taken l.out) l.form l.initial.feed l.feed)

abbrev pub decreases-loop-len : goal.decreases-loop-len
decreases-loop-len g l = l.size - l.at
