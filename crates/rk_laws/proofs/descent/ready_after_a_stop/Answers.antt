use Rattle.rk_laws.proofs.DescentLemmas.{IsReady-resting}
use Rattle.rk_laws.proofs.descent.ready_after_a_stop.Goals as goal

pub returns : goal.returns
returns c = IsReady-resting
