use Rattle.std.proofs.Common.{length}
use Rattle.bench_view.proofs.count_rows.Given as goal

abbrev pub invariant-loop-row : goal.invariant-loop-row
invariant-loop-row l = Unit

-- the rows that are left
abbrev pub decreases-loop-row : goal.decreases-loop-row
decreases-loop-row l = length l.rows
