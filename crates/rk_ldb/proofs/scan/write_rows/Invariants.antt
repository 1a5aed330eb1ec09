use Rattle.std.proofs.Common.{◌≡◌, length, map}
use Rattle.rk_bytes.specs.Model.Lines.{row_line}
use Rattle.rk_ldb.specs.Wrote.{Wrote}
use Rattle.rk_ldb.proofs.scan.write_rows.Given as goal

-- the rows that were handed out so far have their lines in the output, and no write failed
abbrev pub invariant-loop-row : goal.invariant-loop-row
invariant-loop-row g l =
    Wrote (g.S.Sink.taken l.initial.out) (g.S.Sink.taken l.out) (map (row_line l.hex) l.initial.rows) (map (row_line l.hex) l.rows)
    × (g.S.Sink.faults l.out ≡ g.S.Sink.faults l.initial.out)

abbrev pub decreases-loop-row : goal.decreases-loop-row
decreases-loop-row g l = length l.rows
