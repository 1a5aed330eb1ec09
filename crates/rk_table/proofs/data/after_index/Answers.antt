use Rattle.std.proofs.Common.{◌≡◌, ◌≤◌, false, length, List, Ok, sym, subst}
use Rattle.std.specs.List.{AllByRecursion}
use Rattle.rk_bytes.specs.declared.model.block.IndexEntry.{IndexEntry}
use Rattle.rk_bytes.specs.declared.model.block.Property.{Property}
use Rattle.rk_bytes.specs.declared.model.table.TableRef.{TableRef}
use Rattle.rk_table.specs.Data.{index_told}
use Rattle.rk_table.proofs.DataLemmas.{index_long}
use Rattle.rk_table.proofs.data.after_index.Goals as goal

pub with_index-requires-clause-long : goal.with_index-requires-clause-long
with_index-requires-clause-long c =
    let told = subst (λ (properties : List Property). index_told c.args.footer.index.offset properties c.args.block.now ≡ Ok c.in-Ok.index) c.as_slice.ensures c.in-Ok.ensures in
    subst (λ (table : TableRef). table.user_keys ≡ false → AllByRecursion (λ (at : IndexEntry). 8 ≤ length at.separator) table.index) (sym c.new_table-table.ensures)
    (index_long c.args.footer.index.offset c.args.properties c.args.block.now c.in-Ok.index told)
