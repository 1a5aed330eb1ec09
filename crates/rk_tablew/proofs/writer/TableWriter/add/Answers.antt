use Rattle.std.specs.Prelude.{map}
use Rattle.std.proofs.Common.{◌+◌, ◌^◌, ◌<◌, [], ◌∷◌, ◌++◌, length, subst, sym, ap, ◌∙◌, arith}
use Rattle.rk_bytes.specs.Model.InternalKey.{internal_key}
use Rattle.rk_tablew.specs.Writing.{ComesNext, Writing, noted_range, noted_record, record_with, table_weight}
use Rattle.rk_tablew.proofs.OrderLemmas.{AreInOrder-record-noted}
use Rattle.rk_tablew.proofs.WritingLemmas.{IsWriting-record-noted, fitting, index_room, noted_records-push}
use Rattle.rk_tablew.proofs.writer.TableWriter.add.Goals as goal

pub put_record-requires-clause-index : goal.put_record-requires-clause-index
put_record-requires-clause-index c =
    let b = c.self.inside in
    index_room (map noted_record b.record_notes.items) (map noted_range b.range_notes.items) b.out b.index b.block b.ranges b.record_count b.range_count b.sizes.keys b.sizes.values (c.self.invariant c.if-self.false).0

pub overflow_add-self : goal.overflow_add-self
overflow_add-self c =
    let b = c.self.inside in
    let f = fitting (map noted_record b.record_notes.items) (map noted_range b.range_notes.items) b.out b.index b.block b.ranges b.record_count b.range_count b.sizes.keys b.sizes.values (c.self.invariant c.if-self.false).0 in
    omega (arith, f.records_fit)

pub overflow_add-self-in-Ok-2 : goal.overflow_add-self-in-Ok-2
overflow_add-self-in-Ok-2 c =
    let b = c.self.inside in
    let f = fitting (map noted_record b.record_notes.items) (map noted_range b.range_notes.items) b.out b.index b.block b.ranges b.record_count b.range_count b.sizes.keys b.sizes.values (c.self.invariant c.if-self.false).0 in
    omega (arith, f.keys_fit, c.requires.user)

pub overflow_add-self-in-Ok-3 : goal.overflow_add-self-in-Ok-3
overflow_add-self-in-Ok-3 c =
    let b = c.self.inside in
    let f = fitting (map noted_record b.record_notes.items) (map noted_range b.range_notes.items) b.out b.index b.block b.ranges b.record_count b.range_count b.sizes.keys b.sizes.values (c.self.invariant c.if-self.false).0 in
    omega (arith, f.values_fit, c.requires.value)

pub invariant_of-self : goal.invariant_of-self
invariant_of-self c = λ fine.
    let b = c.self.inside in
    let key = c.args.key.now in
    let room = subst (λ (writing : Writing). table_weight writing + length key.user.now + 64 < 2 ^ 31) (sym c.self.view_is) c.requires.room in
    let next = subst (λ (writing : Writing). ComesNext writing.records (internal_key key.user.now key.sequence key.kind)) (sym c.self.view_is) c.requires.order in
    let before = c.self.invariant c.if-self.false in (
      IsWriting-record-noted b.record_notes.items c.note_record.new.notes.items (map noted_range b.range_notes.items) b.out c.put_record.new.out b.index b.block b.ranges c.put_record.new.index c.put_record.new.block b.record_count b.range_count b.sizes.keys b.sizes.values
          key.user.now c.args.value.now key.sequence key.kind before.0 c.in-Ok.ensures c.requires.value room c.note_record.ensures,
      AreInOrder-record-noted b.record_notes.items c.note_record.new.notes.items (map noted_range b.range_notes.items) key.user.now c.args.value.now key.sequence key.kind
          before.1 c.requires.kind next c.requires.sequence c.requires.user c.requires.value c.note_record.ensures,
    )

pub returns-in-Ok-clause-ok : goal.returns-in-Ok-clause-ok
returns-in-Ok-clause-ok c =
    let b = c.self.inside in
    let key = c.args.key.now in
    let records = noted_records-push b.record_notes.items c.note_record.new.notes.items key.user.now c.args.value.now key.sequence key.kind c.note_record.ensures in
    (λ i. record { records = records i; ranges = map noted_range b.range_notes.items; failed = b.failed })
    ∙ ap (λ (w : Writing). record w { records = w.records ++ record_with key.user.now key.sequence key.kind c.args.value.now ∷ [] }) c.self.view_is
