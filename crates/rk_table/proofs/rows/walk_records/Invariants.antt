use Rattle.rk_table.proofs.RowLemmas.{Gathering}
use Rattle.rk_table.proofs.rows.walk_records.Given as goal

abbrev pub invariant-loop-records : goal.invariant-loop-records
invariant-loop-records l = Gathering l.family l.initial.walk l.walk l.records

abbrev pub decreases-loop-records : goal.decreases-loop-records
decreases-loop-records l = l.walk.entries.rest
