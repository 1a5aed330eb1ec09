use Rattle.rk_bytes.specs.Model.TableStatus.{start_key, lesser}
use Rattle.rk_table.proofs.BoundLemmas.{Reducing}
use Rattle.rk_table.proofs.bounds.least.Given as goal

abbrev pub invariant-loop-range : goal.invariant-loop-range
invariant-loop-range l = Reducing lesser start_key l.initial.least l.ranges l.least l.range-index
