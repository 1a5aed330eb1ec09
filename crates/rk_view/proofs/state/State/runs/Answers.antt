use Rattle.std.proofs.Common.{subst}
use Rattle.std.specs.FinMap.{values}
use Rattle.rk_view.specs.Maps.{IsRun}
use Rattle.rk_view.specs.Kept.{Kept}
use Rattle.rk_view.proofs.ValuesLemmas.{values-run}
use Rattle.rk_view.proofs.state.State.runs.Goals as goal

pub returns-clause-values : goal.returns-clause-values
returns-clause-values c = subst (λ (k : Kept). IsRun (values k.state.records)) c.self.view_is (values-run c.self.inside.runs.items c.self.invariant.counted.each)
