use Rattle.std.proofs.Common.{◌≤◌, length, sym, ap, ◌∙◌, subst}
use Rattle.rk_bytes.specs.Reading.{rest_of}
use Rattle.rk_bytes.specs.Model.VersionEdit.{field_of_tag}
use Rattle.rk_edit.proofs.Steps.{field_at-tagged}
use Rattle.rk_edit.proofs.view.read_field.Goals as goal

pub returns-clause-field : goal.returns-clause-field
returns-clause-field c = λ fields tells.
    let cursor = c.args.cursor.now in
    let within = subst (λ place. place ≤ length cursor.bytes) c.place-place.ensures.value c.place-place.ensures.within in
    c.read_value.ensures.value
    ∙ ap (λ place. field_of_tag place c.in_ok-tag.tag (rest_of c.read_tag.new.cursor)) c.place-place.ensures.value
    ∙ sym (field_at-tagged cursor c.read_tag.new.cursor fields c.in_ok-tag.tag within c.in_ok-tag.ensures.value (sym (c.clash_with.ensures fields tells) ∙ c.if-clash_with.false))
