use Rattle.std.proofs.Common.{◌+◌, ◌∷◌, [], length, sym, ap, ◌∙◌}
use Rattle.rk_bytes.specs.Model.WriteBatch.{change_count}
use Rattle.rk_bytes.specs.Reading.{rest_of}
use Rattle.rk_batch.specs.Parts.{part_at}
use Rattle.rk_batch.specs.Seen.{BatchSeen, parts_left, parts_or_none}
use Rattle.rk_bytes.proofs.Callers.Cursors.{some_left, none_left}
use Rattle.rk_batch.proofs.ReadLemmas.{IsRead-more, IsRead-never, nothing_left}
use Rattle.rk_batch.proofs.view.BatchView.next_record.Goals as goal

pub returns-then-is_empty-clause-none : goal.returns-then-is_empty-clause-none
returns-then-is_empty-clause-none c =
    let v = c.self.inside in
    let none = none_left c.rest.result.now (rest_of v.cursor) c.is_empty.result c.rest.ensures c.is_empty.ensures c.if-is_empty.true in
    let left = sym (ap (λ (seen : BatchSeen). seen.left) c.self.view_is) ∙ nothing_left v.bytes.now v.cursor v.next none in
    (left, left)

pub invariant_of-self : goal.invariant_of-self
invariant_of-self c =
    let v = c.self.inside in
    let some = some_left c.rest.result.now (rest_of v.cursor) c.is_empty.result c.rest.ensures c.is_empty.ensures c.if-is_empty.false in
    let next = c.numbered-next.ensures.next ∙ ap (λ place. v.next + change_count (part_at place v.next c.in-Ok.raw ∷ [])) c.place-place.ensures.value in
    let more = IsRead-more v.bytes.now v.cursor c.read_part.new.cursor v.next v.sequence v.count c.numbered-next.result.1 (part_at v.cursor.place v.next c.in-Ok.raw)
    c.self.invariant c.in-Ok.ensures.after some (c.in-Ok.ensures.part v.next) next in
    more.0

pub unreachable-requires : goal.unreachable-requires
unreachable-requires c =
    let v = c.self.inside in
    let some = some_left c.rest.result.now (rest_of v.cursor) c.is_empty.result c.rest.ensures c.is_empty.ensures c.if-is_empty.false in
    IsRead-never v.bytes.now v.cursor v.next v.sequence v.count c.in-Err.field-0 c.self.invariant some (c.in-Err.ensures.part v.next)

pub returns-clause-given : goal.returns-clause-given
returns-clause-given c =
    let v = c.self.inside in
    let some = some_left c.rest.result.now (rest_of v.cursor) c.is_empty.result c.rest.ensures c.is_empty.ensures c.if-is_empty.false in
    let place = c.place-place.ensures.value in
    let next = c.numbered-next.ensures.next ∙ ap (λ place. v.next + change_count (part_at place v.next c.in-Ok.raw ∷ [])) place in
    let more = IsRead-more v.bytes.now v.cursor c.read_part.new.cursor v.next v.sequence v.count c.numbered-next.result.1 (part_at v.cursor.place v.next c.in-Ok.raw)
    c.self.invariant c.in-Ok.ensures.after some (c.in-Ok.ensures.part v.next) next in
    let others = parts_or_none (parts_left (length v.bytes.now) c.numbered-next.result.1 (rest_of c.read_part.new.cursor)) in
    sym (ap (λ (seen : BatchSeen). seen.left) c.self.view_is) ∙ more.1
    ∙ ap (λ part. part ∷ others) (ap (λ place. part_at place v.next c.in-Ok.raw) (sym place) ∙ sym c.numbered-next.ensures.part)
