use Rattle.std.proofs.Common.{◌≡◌, ◌+◌, ◌-◌, ◌^◌, ◌≤◌, min, length}
use Rattle.rk_ldb.proofs.counts.left_count.Given as goal

-- the rows so far and those that are left are all
abbrev pub invariant-loop-row : goal.invariant-loop-row
invariant-loop-row l = (min (l.count + length l.rows) (2 ^ 64 - 1) ≡ min (length l.initial.rows) (2 ^ 64 - 1)) × (l.count ≤ 2 ^ 64 - 1)

abbrev pub decreases-loop-row : goal.decreases-loop-row
decreases-loop-row l = length l.rows
