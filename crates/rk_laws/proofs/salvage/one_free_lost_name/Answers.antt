use Rattle.rk_laws.proofs.LostNames.{free_lost_name-IsFreeLostName, one_free_name}
use Rattle.rk_laws.proofs.salvage.one_free_lost_name.Goals as goal

pub returns-clause-exists : goal.returns-clause-exists
returns-clause-exists c = free_lost_name-IsFreeLostName

pub returns-clause-unique : goal.returns-clause-unique
returns-clause-unique c = one_free_name
