use Rattle.std.proofs.Common.{◌≡◌, None, Ok, sym, subst, ap, ◌∙◌}
use Rattle.rk_bytes.specs.declared.model.table.TableRef.{TableRef}
use Rattle.rk_bytes.specs.Model.TableStatus.{Good}
use Rattle.rk_table.specs.Left.{from_block, records_told}
use Rattle.rk_table.proofs.Callers.GoodTables.{good_entries}
use Rattle.rk_table.proofs.iter.TableIter.new.Goals as goal

pub invariant_of-result : goal.invariant_of-result
invariant_of-result c =
    let (good, told, same) = c.requires in
    let (entries, read, are) = good_entries c.args.bytes.now good told in
    record { running = λ _. record { entries = entries; told = subst (λ (table : TableRef). from_block c.args.bytes.now table 0 None ≡ Ok entries) same read; walks = tt } }

pub returns-clause-records : goal.returns-clause-records
returns-clause-records c = λ good told.
    let (other, told', same) = c.requires in
    let one : other ≡ good = cc in
    let table_is : good.table ≡ c.args.table.now = ap (λ (good : Good). good.table) (sym one) ∙ same in
    let (entries, read, are) = good_entries c.args.bytes.now good told in
    subst (λ (table : TableRef). records_told table.family (from_block c.args.bytes.now table 0 None) ≡ good.records) table_is (ap (records_told good.table.family) read ∙ sym are)
