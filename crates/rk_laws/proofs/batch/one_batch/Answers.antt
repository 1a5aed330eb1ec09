use Rattle.rk_laws.proofs.BatchLaw.{batch_of_ok, batch_of-batch}
use Rattle.rk_laws.proofs.batch.one_batch.Goals as goal

pub returns-clause-read : goal.returns-clause-read
returns-clause-read c = λ bytes batch are. (batch_of_ok bytes batch are, batch_of-batch bytes batch)

pub returns-clause-unique : goal.returns-clause-unique
returns-clause-unique c = λ bytes batch other is also.
    let first = batch_of-batch bytes batch is in
    let second = batch_of-batch bytes other also in
    cc
