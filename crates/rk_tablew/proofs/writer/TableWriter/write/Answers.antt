use Rattle.std.specs.Prelude.{Ok, Option, map}
use Rattle.std.proofs.Common.{◌≡◌, ◌+◌, ◌^◌, ◌<◌, length, subst, sym, ap, ◌∙◌, arith}
use Rattle.std.proofs.lemmas.Result.{IfOk-weaker}
use Rattle.rk_bytes.specs.Model.TableStatus.{Good, table_status}
use Rattle.rk_bytes.specs.Model.Writers.{table_bytes}
use Rattle.rk_laws.specs.WritableTables.{Holds, IsWritableTable}
use Rattle.rk_tablew.specs.declared.properties.Sizes.{Sizes}
use Rattle.rk_tablew.specs.Writing.{TableDone, Writing, contents_of, noted_range, noted_record, table_weight}
use Rattle.rk_tablew.proofs.OrderLemmas.{writable}
use Rattle.rk_tablew.proofs.TableLemmas.{table-done}
use Rattle.rk_tablew.proofs.WritingLemmas.{fitting, index_room}
use Rattle.rk_tablew.proofs.writer.TableWriter.write.Goals as goal

pub write_table-requires-clause-index : goal.write_table-requires-clause-index
write_table-requires-clause-index c =
    let b = c.self.inside in
    index_room (map noted_record b.record_notes.items) (map noted_range b.range_notes.items) b.out b.index b.block b.ranges b.record_count b.range_count b.sizes.keys b.sizes.values (c.self.invariant c.if-self.false).0

pub write_table-requires-clause-counts : goal.write_table-requires-clause-counts
write_table-requires-clause-counts c =
    let b = c.self.inside in
    let f = fitting (map noted_record b.record_notes.items) (map noted_range b.range_notes.items) b.out b.index b.block b.ranges b.record_count b.range_count b.sizes.keys b.sizes.values (c.self.invariant c.if-self.false).0 in
    omega (arith, f.records_fit, f.ranges_fit)

pub returns-clause-table : goal.returns-clause-table
returns-clause-table c =
    let b = c.self.inside in
    let name = c.args.name.now in
    IfOk-weaker c.write_table.result (λ table. TableDone b.out b.index b.block b.ranges b.record_count b.range_count c.args.family name c.sizes_if.result table)
    (λ table. table ≡ table_bytes c.args.states_sizes (contents_of c.args.family name c.args.self))
    (λ table done.
    table-done c.args.states_sizes (map noted_record b.record_notes.items) (map noted_range b.range_notes.items) b.failed b.out b.index b.block b.ranges b.record_count b.range_count c.args.family name b.sizes table
    (c.self.invariant c.if-self.false).0 (subst (λ (sizes : Option Sizes). TableDone b.out b.index b.block b.ranges b.record_count b.range_count c.args.family name sizes table) c.sizes_if.ensures done)
    ∙ ap (λ (w : Writing). table_bytes c.args.states_sizes (contents_of c.args.family name w)) c.self.view_is)
    c.write_table.ensures

pub returns-clause-good : goal.returns-clause-good
returns-clause-good c =
    let b = c.self.inside in
    let name = c.args.name.now in
    let contents = contents_of c.args.family name c.args.self in
    let room = subst (λ (w : Writing). table_weight w + length name < 2 ^ 31) (sym c.self.view_is) c.requires.room in
    let can : IsWritableTable contents =
    subst (λ (w : Writing). IsWritableTable (contents_of c.args.family name w)) c.self.view_is
    (writable c.args.family name (map noted_record b.record_notes.items) (map noted_range b.range_notes.items) b.failed (c.self.invariant c.if-self.false).1 c.ranges.family.fits c.requires.name room) in
    let (good, reads, holds) = c.written_table.ensures.good c.args.states_sizes contents can in
    IfOk-weaker c.write_table.result (λ table. table ≡ table_bytes c.args.states_sizes contents)
    (λ table. (good : Good) × (table_status table ≡ Ok good) × Holds contents good)
    (λ table is. (good, ap table_status is ∙ reads, holds))
    (returns-clause-table c)
