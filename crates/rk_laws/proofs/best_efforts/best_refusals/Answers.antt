use Rattle.rk_laws.proofs.BestRefusals.{best_refused}
use Rattle.rk_laws.proofs.best_efforts.best_refusals.Goals as goal

pub returns : goal.returns
returns c = best_refused
