use Rattle.rk_bytes.specs.Model.TableStatus.{end_key, greater}
use Rattle.rk_table.proofs.BoundLemmas.{Reducing}
use Rattle.rk_table.proofs.bounds.greatest.Given as goal

abbrev pub invariant-loop-range : goal.invariant-loop-range
invariant-loop-range l = Reducing greater end_key l.initial.greatest l.ranges l.greatest l.range-index
