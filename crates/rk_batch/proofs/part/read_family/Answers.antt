use Rattle.rk_batch.proofs.PartLemmas.{IsFurther-same}
use Rattle.rk_batch.proofs.part.read_family.Goals as goal

pub returns-else-named-clause-after : goal.returns-else-named-clause-after
returns-else-named-clause-after c = IsFurther-same c.args.cursor.now
