use Rattle.rk_laws.proofs.UsableUnits.{usable-front, usable-apply, usable-refused}
use Rattle.rk_laws.proofs.best_efforts.usable_units.Goals as goal

pub returns-clause-front : goal.returns-clause-front
returns-clause-front c = usable-front

pub returns-clause-apply : goal.returns-clause-apply
returns-clause-apply c = usable-apply

pub returns-clause-refused : goal.returns-clause-refused
returns-clause-refused c = usable-refused
