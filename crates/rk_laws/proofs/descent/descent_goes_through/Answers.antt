use Rattle.rk_laws.proofs.DescentLemmas.{Descends-through}
use Rattle.rk_laws.proofs.descent.descent_goes_through.Goals as goal

pub returns : goal.returns
returns c = Descends-through
