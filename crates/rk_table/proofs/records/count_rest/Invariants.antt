use Rattle.rk_table.proofs.WalkLemmas.{Counting}
use Rattle.rk_table.proofs.records.count_rest.Given as goal

abbrev pub invariant-loop-record : goal.invariant-loop-record
invariant-loop-record l = Counting l.initial.walk l.initial.entries l.initial.top l.walk l.entries l.top

abbrev pub decreases-loop-record : goal.decreases-loop-record
decreases-loop-record l = l.walk.entries.rest
