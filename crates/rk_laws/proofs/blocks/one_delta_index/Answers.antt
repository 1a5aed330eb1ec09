use Rattle.rk_laws.proofs.BlockLaw.{delta_handles_ok, delta_handles-block}
use Rattle.rk_laws.proofs.blocks.one_delta_index.Goals as goal

pub returns-clause-read : goal.returns-clause-read
returns-clause-read c = λ block entries are. (delta_handles_ok block entries are, delta_handles-block block entries)

pub returns-clause-unique : goal.returns-clause-unique
returns-clause-unique c = λ block entries others is also.
    let first = delta_handles-block block entries is in
    let second = delta_handles-block block others also in
    cc
