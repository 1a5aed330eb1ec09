use Rattle.rk_laws.proofs.KeyViewRows.{rows-each, rows-every}
use Rattle.rk_laws.proofs.key_view.rows_are_what_is_shown.Goals as goal

pub returns : goal.returns
returns c = record { each = rows-each; every = rows-every }
