use Rattle.rk_laws.proofs.ManifestUnits.{IsUnits-units_of_items, same_units}
use Rattle.rk_laws.proofs.manifest.one_list_of_units.Goals as goal

pub returns-clause-exists : goal.returns-clause-exists
returns-clause-exists c = IsUnits-units_of_items

pub returns-clause-unique : goal.returns-clause-unique
returns-clause-unique c = same_units
