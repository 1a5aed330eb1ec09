use Rattle.rk_laws.proofs.DescentLemmas.{Descends-itself}
use Rattle.rk_laws.proofs.descent.descends_from_itself.Goals as goal

pub returns : goal.returns
returns c = Descends-itself
