use Rattle.std.proofs.Common.{◌<◌, length, refl}
use Rattle.std.proofs.lemmas.Result.{err_from_is_err_and}
use Rattle.rk_bytes.specs.Reading.{rest_of}
use Rattle.rk_edit.specs.Fields.{field_of}
use Rattle.rk_bytes.proofs.Callers.Cursors.{some_left, none_left}
use Rattle.rk_edit.proofs.Steps.{Checks, Checks-start, Checks-end, Checks-fault, Checks-more}
use Rattle.rk_edit.proofs.view.check_fields.Goals as goal

pub loop-cursor-init : goal.loop-cursor-init
loop-cursor-init c = Checks-start c.args.bytes.now c.new-cursor.result (record { added = _; dropped = _ }) c.new-cursor.ensures refl

pub returns-in_err-field : goal.returns-in_err-field
returns-in_err-field c =
    let now = c.loop-cursor.cursor in
    let some = some_left c.rest.result.now (rest_of now) c.is_empty.result c.rest.ensures c.is_empty.ensures c.loop-cursor-test.true in
    let told = err_from_is_err_and c.from_residual.result c.from_residual.ensures.1 in
    rw (told.1, told.2) (Checks-fault c.args.bytes.now now c.loop-cursor.before c.loop-cursor.invariant c.in_err-field.field-0.0 some (c.in_err-field.ensures.field c.loop-cursor.invariant.before c.loop-cursor.invariant.tells))

further : (c : goal.After-and-before) → Checks c.args.bytes.now c.read_field.new.cursor c.and-before.result × (length (rest_of c.read_field.new.cursor) < length (rest_of c.loop-cursor.cursor))
further c =
    let now = c.loop-cursor.cursor in
    let before = c.loop-cursor.invariant.before in
    let tells = c.loop-cursor.invariant.tells in
    let some = some_left c.rest.result.now (rest_of now) c.is_empty.result c.rest.ensures c.is_empty.ensures c.loop-cursor-test.true in
    Checks-more c.args.bytes.now now c.loop-cursor.before c.loop-cursor.invariant c.read_field.new.cursor (field_of c.in_ok-field.field) c.and-before.result some c.in_ok-field.ensures.after
    (c.in_ok-field.ensures.field before tells) (c.and-before.ensures before tells)

pub loop-cursor-smaller : goal.loop-cursor-smaller
loop-cursor-smaller c = (further c).1

pub loop-cursor-preserved : goal.loop-cursor-preserved
loop-cursor-preserved c = (further c).0

pub returns : goal.returns
returns c =
    let now = c.loop-cursor.cursor in
    Checks-end c.args.bytes.now now c.loop-cursor.before c.loop-cursor.invariant (none_left c.rest.result.now (rest_of now) c.is_empty.result c.rest.ensures c.is_empty.ensures c.loop-cursor-test.false)
