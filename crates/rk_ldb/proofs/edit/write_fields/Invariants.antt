use Rattle.std.proofs.Common.{◌≡◌, length, map}
use Rattle.rk_ldb.specs.Wrote.{Wrote, field_line}
use Rattle.rk_ldb.proofs.edit.write_fields.Given as goal

-- the fields that were handed out so far have their lines in the output, and no write failed
abbrev pub invariant-loop-field : goal.invariant-loop-field
invariant-loop-field g l =
    Wrote (g.S.Sink.taken l.initial.out) (g.S.Sink.taken l.out) (map (field_line l.hex) l.initial.view) (map (field_line l.hex) l.view)
    × (g.S.Sink.faults l.out ≡ g.S.Sink.faults l.initial.out)

abbrev pub decreases-loop-field : goal.decreases-loop-field
decreases-loop-field g l = length l.view
