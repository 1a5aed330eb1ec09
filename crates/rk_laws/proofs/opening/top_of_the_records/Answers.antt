use Rattle.rk_laws.proofs.OpeningLemmas.{top-greatest}
use Rattle.rk_laws.proofs.opening.top_of_the_records.Goals as goal

pub returns : goal.returns
returns c = top-greatest
