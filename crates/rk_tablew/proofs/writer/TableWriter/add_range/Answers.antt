use Rattle.std.specs.Prelude.{map}
use Rattle.std.proofs.Common.{◌+◌, ◌^◌, ◌<◌, length, subst, sym, arith}
use Rattle.rk_tablew.specs.Writing.{Writing, noted_range, noted_record, table_weight}
use Rattle.rk_tablew.proofs.OrderLemmas.{AreInOrder-range-noted}
use Rattle.rk_tablew.proofs.WritingLemmas.{IsWriting-range-noted, fitting}
use Rattle.rk_tablew.proofs.writer.TableWriter.add_range.Goals as goal

pub overflow_add-self : goal.overflow_add-self
overflow_add-self c =
    let b = c.self.inside in
    let f = fitting (map noted_record b.record_notes.items) (map noted_range b.range_notes.items) b.out b.index b.block b.ranges b.record_count b.range_count b.sizes.keys b.sizes.values (c.self.invariant c.if-self.false).0 in
    omega (arith, f.ranges_fit)

pub overflow_add-self-in-Ok-2 : goal.overflow_add-self-in-Ok-2
overflow_add-self-in-Ok-2 c =
    let b = c.self.inside in
    let f = fitting (map noted_record b.record_notes.items) (map noted_range b.range_notes.items) b.out b.index b.block b.ranges b.record_count b.range_count b.sizes.keys b.sizes.values (c.self.invariant c.if-self.false).0 in
    omega (arith, f.keys_fit, c.requires.start)

pub overflow_add-self-in-Ok-3 : goal.overflow_add-self-in-Ok-3
overflow_add-self-in-Ok-3 c =
    let b = c.self.inside in
    let f = fitting (map noted_record b.record_notes.items) (map noted_range b.range_notes.items) b.out b.index b.block b.ranges b.record_count b.range_count b.sizes.keys b.sizes.values (c.self.invariant c.if-self.false).0 in
    omega (arith, f.values_fit, c.requires.end)

pub invariant_of-self : goal.invariant_of-self
invariant_of-self c = λ fine.
    let b = c.self.inside in
    let room = subst (λ (writing : Writing). table_weight writing + length c.args.start.now + length c.args.end.now + 64 < 2 ^ 31) (sym c.self.view_is) c.requires.room in
    let before = c.self.invariant c.if-self.false in (
      IsWriting-range-noted (map noted_record b.record_notes.items) b.range_notes.items c.note_range.new.notes.items b.out b.index b.block b.ranges c.put_range.new.ranges b.record_count b.range_count b.sizes.keys b.sizes.values
          c.args.start.now c.args.end.now c.args.sequence before.0 c.in-Ok.ensures.ok c.in-Ok.ensures.grows c.requires.end room c.note_range.ensures,
      AreInOrder-range-noted (map noted_record b.record_notes.items) b.range_notes.items c.note_range.new.notes.items c.args.start.now c.args.end.now c.args.sequence
          before.1 c.requires.sequence c.requires.start c.requires.end c.note_range.ensures,
    )
