use Rattle.rk_laws.proofs.IndexLaw.{whole_handles_ok, whole_handles-block, index_entries_ok, index_entries-index}
use Rattle.rk_laws.proofs.blocks.one_index.Goals as goal

pub returns-clause-whole : goal.returns-clause-whole
returns-clause-whole c = λ block entries are. (whole_handles_ok block entries are, whole_handles-block block entries)

pub returns-clause-read : goal.returns-clause-read
returns-clause-read c = λ is_delta block index are. (index_entries_ok is_delta block index are, index_entries-index is_delta block index)

pub returns-clause-unique : goal.returns-clause-unique
returns-clause-unique c = λ is_delta block index other is also.
    let first = index_entries-index is_delta block index is in
    let second = index_entries-index is_delta block other also in
    cc
