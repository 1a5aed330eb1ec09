use Rattle.std.proofs.Common.{◌≡◌, length, map}
use Rattle.rk_bytes.specs.Model.Lines.{part_line}
use Rattle.rk_ldb.specs.Wrote.{Wrote}
use Rattle.rk_ldb.proofs.batch.write_parts.Given as goal

-- the parts that were handed out so far have their lines in the output, and no write failed
abbrev pub invariant-loop-part : goal.invariant-loop-part
invariant-loop-part g l =
    Wrote (g.S.Sink.taken l.initial.out) (g.S.Sink.taken l.out) (map (part_line l.hex) l.initial.view.left) (map (part_line l.hex) l.view.left)
    × (g.S.Sink.faults l.out ≡ g.S.Sink.faults l.initial.out)

abbrev pub decreases-loop-part : goal.decreases-loop-part
decreases-loop-part g l = length l.view.left
