use Rattle.std.proofs.Common.{◌∙◌, ap, arith, rules}
use Rattle.rk_view.specs.Maps.{map_of}
use Rattle.rk_view.proofs.RunsLemmas.{counted_none, map_of-none}
use Rattle.rk_view.proofs.FamilyLemmas.{rising-none}
use Rattle.rk_view.proofs.state.State.new.Goals as goal

pub invariant_of-result : goal.invariant_of-result
invariant_of-result c = record {
  counted = counted_none c.new-3.result.items c.new-3.ensures.items;
  rising = rising-none c.new.result.items c.new.ensures.items;
  few = omega arith;
  space = omega arith;
  ready_for = omega arith;
  rooms_are = search rules;
}

pub returns-clause-state : goal.returns-clause-state
returns-clause-state c = λ i. record { families = c.new.ensures.items i; records = (ap map_of c.new-3.ensures.items ∙ map_of-none) i; tombs = c.new-2.ensures i }
