use Rattle.rk_laws.proofs.SalvageLemmas.{records-tables_alone}
use Rattle.rk_laws.proofs.salvage.nothing_to_add.Goals as goal

pub returns : goal.returns
returns c = records-tables_alone
