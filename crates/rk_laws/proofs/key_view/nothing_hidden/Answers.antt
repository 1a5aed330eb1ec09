use Rattle.rk_laws.proofs.KeyViewLemmas.{shown_alike}
use Rattle.rk_laws.proofs.key_view.nothing_hidden.Goals as goal

pub returns : goal.returns
returns c = shown_alike
