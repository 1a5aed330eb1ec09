use Rattle.std.proofs.Common.{◌≡◌, [], length, Ok, Err, refl, sym, ◌∙◌, subst}
use Rattle.rk_bytes.specs.Model.VersionEdit.{field_at}
use Rattle.rk_bytes.specs.Reading.{Reading, rest_of}
use Rattle.rk_edit.specs.Fields.{field_of}
use Rattle.rk_bytes.proofs.Callers.Cursors.{some_left, none_left}
use Rattle.rk_edit.proofs.Views.{HandsOut, hands_out, never_fails, nothing_left}
use Rattle.rk_edit.proofs.WholeKeys.{whole_keys}
use Rattle.rk_edit.proofs.view.EditView.next_field.Goals as goal

pub returns-then-is_empty-clause-none : goal.returns-then-is_empty-clause-none
returns-then-is_empty-clause-none c =
    let bytes = c.self.inside.rest.now in
    let left = sym c.self.view_is ∙ nothing_left bytes (none_left bytes bytes c.is_empty.result refl c.is_empty.ensures c.if-is_empty.true) in
    (left, left)

first_read : (c : goal.After-self-1) → field_at (length c.self.inside.rest.now) [] c.self.inside.rest.now ≡ Ok (field_of c.in-Ok.field, rest_of c.read_field.new.cursor)
first_read c = sym (subst (λ (cursor : Reading). ◌≡◌ (Ok (field_of c.in-Ok.field, rest_of c.read_field.new.cursor)) (field_at (length cursor.bytes) [] (rest_of cursor))) c.new-cursor.ensures (c.in-Ok.ensures.field [] (record { adds = refl; drops = refl })))

handed : (c : goal.After-self-1) → HandsOut c.self.inside.rest.now (field_of c.in-Ok.field) c.rest-self-inside.result.now
handed c =
    let bytes = c.self.inside.rest.now in
    let some = some_left bytes bytes c.is_empty.result refl c.is_empty.ensures c.if-is_empty.false in
    subst (λ rest. HandsOut bytes (field_of c.in-Ok.field) rest) (sym c.rest-self-inside.ensures) (hands_out bytes (field_of c.in-Ok.field) (rest_of c.read_field.new.cursor) some c.self.invariant (first_read c))

pub invariant_of-self : goal.invariant_of-self
invariant_of-self c = (handed c).reads

pub unreachable-requires : goal.unreachable-requires
unreachable-requires c =
    let bytes = c.self.inside.rest.now in
    let some = some_left bytes bytes c.is_empty.result refl c.is_empty.ensures c.if-is_empty.false in
    let read = subst (λ (cursor : Reading). ◌≡◌ (Err c.in-Err.field-0) (field_at (length cursor.bytes) [] (rest_of cursor))) c.new-cursor.ensures (c.in-Err.ensures.field [] (record { adds = refl; drops = refl })) in
    never_fails bytes c.in-Err.field-0 some c.self.invariant (sym read)

pub returns-clause-given : goal.returns-clause-given
returns-clause-given c = sym c.self.view_is ∙ (handed c).first

pub returns-clause-whole : goal.returns-clause-whole
returns-clause-whole c = let bytes = c.self.inside.rest.now in whole_keys (length bytes) [] bytes (field_of c.in-Ok.field) (rest_of c.read_field.new.cursor) (first_read c)
