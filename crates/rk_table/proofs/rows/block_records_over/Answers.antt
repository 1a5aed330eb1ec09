use Rattle.std.proofs.Common.{◌≡◌, List, get_or, subst, ap, ◌∙◌}
use Rattle.rk_bytes.specs.declared.model.block.IndexEntry.{IndexEntry}
use Rattle.rk_table.specs.Told.{value_of}
use Rattle.rk_table.specs.Rows.{GivesRecords}
use Rattle.rk_table.proofs.LeftLemmas.{same_at, takes_block}
use Rattle.rk_table.proofs.rows.block_records_over.Goals as goal

pub returns-clause-good : goal.returns-clause-good
returns-clause-good c = λ bytes at entries there handed read.
    let table = c.args.table.now in
    let found = c.index-as_slice-number.result in
    let same : get_or c.as_slice.result.now c.args.number found ≡ at = ap (λ (index : List IndexEntry). get_or index c.args.number found) c.as_slice.ensures ∙ same_at c.args.number table.index at found there in
    let gives = subst (λ (at : IndexEntry). GivesRecords table.family at.block.offset (value_of c.args.after) c.args.block.now c.walk_records.result) same c.walk_records.ensures in
    takes_block bytes table c.args.number (value_of c.args.after) at c.args.block.now entries c.walk_records.result there handed read gives
