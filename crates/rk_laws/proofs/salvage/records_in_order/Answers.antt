use Rattle.rk_laws.proofs.SalvageLemmas.{last_placed-entries}
use Rattle.rk_laws.proofs.salvage.records_in_order.Goals as goal

pub returns : goal.returns
returns c = last_placed-entries
