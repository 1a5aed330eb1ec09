use Rattle.std.proofs.lemmas.Result.{err_from_is_err_and}
use Rattle.rk_edit.proofs.Customs.{Skips-start, Skips-bad_tag, Skips-end, Skips-bad_custom, Skips-more}
use Rattle.rk_edit.proofs.file.skip_customs.Goals as goal

pub loop-tag-init : goal.loop-tag-init
loop-tag-init c = Skips-start c.args.place c.args.cursor.now

pub returns-in_err-tag-clause-value : goal.returns-in_err-tag-clause-value
returns-in_err-tag-clause-value c =
    let told = err_from_is_err_and c.from_residual.result c.from_residual.ensures.1 in
    rw (told.1, told.2) (Skips-bad_tag c.args.place c.args.cursor.now c.loop-tag.cursor c.in_err-tag.field-0.0 c.loop-tag.invariant c.in_err-tag.ensures.value)

pub returns-then-tag-eq-END-clause-value : goal.returns-then-tag-eq-END-clause-value
returns-then-tag-eq-END-clause-value c = Skips-end c.args.place c.args.cursor.now c.loop-tag.cursor c.read_custom_tag.new.cursor c.in_ok-tag.tag c.loop-tag.invariant c.in_ok-tag.ensures.value c.if-tag-eq-END.true

pub loop-tag-preserved : goal.loop-tag-preserved
loop-tag-preserved c =
    (Skips-more c.args.place c.args.cursor.now c.loop-tag.cursor c.read_custom_tag.new.cursor c.in_ok-tag.tag c.loop-tag.invariant c.in_ok-tag.ensures.value
    c.skip_custom.new.cursor c.if-tag-eq-END.false c.in_ok-skip_custom.ensures.value c.in_ok-tag.ensures.after c.in_ok-skip_custom.ensures.after).0

pub loop-tag-smaller : goal.loop-tag-smaller
loop-tag-smaller c =
    (Skips-more c.args.place c.args.cursor.now c.loop-tag.cursor c.read_custom_tag.new.cursor c.in_ok-tag.tag c.loop-tag.invariant c.in_ok-tag.ensures.value
    c.skip_custom.new.cursor c.if-tag-eq-END.false c.in_ok-skip_custom.ensures.value c.in_ok-tag.ensures.after c.in_ok-skip_custom.ensures.after).1

pub returns-in_err-skip_custom-clause-value : goal.returns-in_err-skip_custom-clause-value
returns-in_err-skip_custom-clause-value c =
    let told = err_from_is_err_and c.from_residual-in_err-skip_custom.result c.from_residual-in_err-skip_custom.ensures.1 in
    rw (told.1, told.2) (Skips-bad_custom c.args.place c.args.cursor.now c.loop-tag.cursor c.read_custom_tag.new.cursor c.in_ok-tag.tag c.loop-tag.invariant c.in_ok-tag.ensures.value
    c.in_err-skip_custom.field-0.0 c.if-tag-eq-END.false c.in_err-skip_custom.ensures.value)
