use Rattle.rk_laws.proofs.KeyViewLemmas.{rows_rising}
use Rattle.rk_laws.proofs.key_view.rows_rise.Goals as goal

pub returns : goal.returns
returns c = rows_rising
