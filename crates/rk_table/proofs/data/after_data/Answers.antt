use Rattle.std.proofs.Common.{◌+◌, ◌<◌, ◌≤◌, List, Ok, length, sym, subst, ap, ◌∙◌}
use Rattle.rk_bytes.specs.declared.model.table.TableRef.{TableRef}
use Rattle.rk_bytes.specs.Model.TableStatus.{reader_of}
use Rattle.rk_table.specs.Stages.{after_blocks}
use Rattle.rk_table.specs.Steps.{IsBefore}
use Rattle.rk_table.specs.Data.{closed}
use Rattle.rk_table.proofs.DataLemmas.{goes_on, records_of, before_next, ends}
use Rattle.rk_table.proofs.data.after_data.Goals as goal

pub returns-then-number-as_slice-clause-ok : goal.returns-then-number-as_slice-clause-ok
returns-then-number-as_slice-clause-ok c = λ len bytes hands.
    ap (λ (table : TableRef). after_blocks (reader_of bytes c.args.footer) table (c.args.number + 1)) c.advanced.ensures
    ∙ goes_on c.args.footer c.args.table c.args.number c.args.block.now c.in-Ok.records c.requires c.in-Ok.ensures bytes hands

pub returns-then-number-as_slice-clause-sound : goal.returns-then-number-as_slice-clause-sound
returns-then-number-as_slice-clause-sound c =
    let within : c.args.number + 1 < length c.args.table.index = subst (λ (index : List _). c.args.number + 1 < length index) c.as_slice.ensures c.if-number-as_slice.true in
    subst (λ (table : TableRef). IsBefore table (c.args.number + 1)) (sym c.advanced.ensures)
    (before_next c.args.table c.args.number c.args.block.now c.in-Ok.records c.requires c.in-Ok.ensures within)

pub bounds_after-requires-clause-first_long : goal.bounds_after-requires-clause-first_long
bounds_after-requires-clause-first_long c = (records_of c.args.table c.args.number c.args.block.now c.in-Ok.records c.requires c.in-Ok.ensures).0

pub bounds_after-requires-clause-last_long : goal.bounds_after-requires-clause-last_long
bounds_after-requires-clause-last_long c = (records_of c.args.table c.args.number c.args.block.now c.in-Ok.records c.requires c.in-Ok.ensures).1

pub returns-in-Ok-bounds_after-clause-ok : goal.returns-in-Ok-bounds_after-clause-ok
returns-in-Ok-bounds_after-clause-ok c = λ len bytes hands.
    let all : length c.args.table.index ≤ c.args.number + 1 = subst (λ (index : List _). length index ≤ c.args.number + 1) c.as_slice.ensures c.if-number-as_slice.false in
    ap Ok (c.closed-table.ensures ∙ ap (λ (table : TableRef). closed table c.in-Ok-bounds_after.bounds) c.advanced-in-Ok-bounds_after.ensures)
    ∙ sym (ends c.args.footer c.args.table c.args.number c.args.block.now c.in-Ok.records c.in-Ok-bounds_after.bounds c.requires c.in-Ok.ensures all c.in-Ok-bounds_after.ensures bytes hands)
