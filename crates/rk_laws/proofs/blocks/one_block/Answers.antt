use Rattle.rk_laws.proofs.BlockLaw.{block_entries_ok, block_entries-block}
use Rattle.rk_laws.proofs.blocks.one_block.Goals as goal

pub returns-clause-read : goal.returns-clause-read
returns-clause-read c = λ block entries are. (block_entries_ok block entries are, block_entries-block block entries)

pub returns-clause-unique : goal.returns-clause-unique
returns-clause-unique c = λ block entries others is also.
    let first = block_entries-block block entries is in
    let second = block_entries-block block others also in
    cc
