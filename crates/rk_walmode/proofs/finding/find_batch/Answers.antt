use Rattle.rk_walmode.proofs.SequenceLemmas.{unread_as}
use Rattle.rk_walmode.proofs.finding.find_batch.Goals as goal

pub returns-in-Ok-clause-whole : goal.returns-in-Ok-clause-whole
returns-in-Ok-clause-whole c = unread_as c.args.payload.now c.in-Ok.batch c.in-Ok.ensures
