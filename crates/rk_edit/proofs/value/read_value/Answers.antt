use Rattle.std.proofs.Common.{sym, ap, ◌∙◌}
use Rattle.rk_bytes.specs.Reading.{rest_of}
use Rattle.rk_edit.proofs.Values.{settled, settled-known}
use Rattle.rk_edit.proofs.value.read_value.Goals as goal

pub returns-in-Ok-Some-clause-value : goal.returns-in-Ok-Some-clause-value
returns-in-Ok-Some-clause-value c =
    ap (settled c.args.place c.args.tag) (rw c.in-Ok-Some.field-0-is at c.in-Ok-Some.ensures.value)
    ∙ settled-known c.args.place c.args.tag (rest_of c.args.cursor.now) c.if-tag-eq-CUSTOM_FILE.false (sym c.is_unsupported.ensures ∙ c.if-is_unsupported.false)

pub returns-in-Ok-None-clause-value : goal.returns-in-Ok-None-clause-value
returns-in-Ok-None-clause-value c =
    ap (settled c.args.place c.args.tag) (rw c.in-Ok-None.field-0-is at c.in-Ok-None.ensures.value)
    ∙ settled-known c.args.place c.args.tag (rest_of c.args.cursor.now) c.if-tag-eq-CUSTOM_FILE.false (sym c.is_unsupported.ensures ∙ c.if-is_unsupported.false)

pub returns-in-Err-clause-value : goal.returns-in-Err-clause-value
returns-in-Err-clause-value c =
    ap (settled c.args.place c.args.tag) c.in-Err.ensures.value
    ∙ settled-known c.args.place c.args.tag (rest_of c.args.cursor.now) c.if-tag-eq-CUSTOM_FILE.false (sym c.is_unsupported.ensures ∙ c.if-is_unsupported.false)
