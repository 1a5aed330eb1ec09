use Rattle.std.proofs.lemmas.List.{take-replicate}
use Rattle.rk_tablew.proofs.stored.zeros.Goals as goal

pub returns : goal.returns
returns c = take-replicate c.args.len 40 0 c.requires
