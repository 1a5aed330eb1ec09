use Rattle.rk_table.specs.Runs.{left, Follows}
use Rattle.rk_table.proofs.whole.table_status.Given as goal

abbrev pub invariant-loop-len : goal.invariant-loop-len
invariant-loop-len l = Follows l.run l.bytes

abbrev pub decreases-loop-len : goal.decreases-loop-len
decreases-loop-len l = left l.run
