use Rattle.rk_block.proofs.TestedLemmas.{IsRest}
use Rattle.rk_block.proofs.tested.TestedEntries.test_rest.Given as goal

abbrev pub invariant-rest : goal.invariant-rest
invariant-rest l = IsRest l.initial.self.left l.self.left

abbrev pub decreases-rest : goal.decreases-rest
decreases-rest l = l.self.rest
