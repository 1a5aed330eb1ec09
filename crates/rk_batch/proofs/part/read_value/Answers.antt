use Rattle.rk_batch.proofs.PartLemmas.{IsFurther-same}
use Rattle.rk_batch.proofs.part.read_value.Goals as goal

pub returns-in-Deletion-clause-after : goal.returns-in-Deletion-clause-after
returns-in-Deletion-clause-after c = IsFurther-same c.args.cursor.now
