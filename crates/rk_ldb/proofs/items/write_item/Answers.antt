use Rattle.std.proofs.Common.{Bool, ◌∷◌, Err, sym, ap, ◌∙◌, subst}
use Rattle.std.proofs.lemmas.Result.{err_from_is_err_and}
use Rattle.rk_bytes.specs.Model.Lines.{item_line}
use Rattle.rk_log.specs.Items.{item_of}
use Rattle.rk_ldb.specs.Stops.{TookUpTo}
use Rattle.rk_ldb.specs.Wrote.{Wrote, record_word, record_lines, form_lines}
use Rattle.rk_ldb.proofs.ItemLines.{later_lines, first_line}
use Rattle.rk_ldb.proofs.Taken.{Wrote-nothing, Wrote-line-stopped, line_then, TookUpTo-stop}
use Rattle.rk_ldb.proofs.items.write_item.Goals as goal

pub returns-in_err-write_line-clause-lines : goal.returns-in_err-write_line-clause-lines
returns-in_err-write_line-clause-lines g c =
    let before = g.S.Sink.taken c.args.out.now in
    let after = g.S.Sink.taken c.write_line.new.out in
    let item = item_of c.args.item in
    let all = form_lines c.args.form item in
    let stopped = err_from_is_err_and c.from_residual-in_err-write_line.result c.from_residual-in_err-write_line.ensures.1 in
    subst (TookUpTo before after all) (sym (stopped.1 ∙ ap Err stopped.2))
    (Wrote-line-stopped Bool before before after all (later_lines c.args.form item) (item_line (record_word c.args.form.records) item) c.as_slice.result.now c.in_err-write_line.field-0.0
    (subst (Wrote before before all) (first_line c.args.form item) (Wrote-nothing before all)) (c.as_slice.ensures ∙ c.in_ok-set_item.ensures ∙ ap (λ word. item_line word item) c.word.ensures) c.in_err-write_line.ensures.line)

pub returns-in_err-write_record-in-Rec-clause-lines : goal.returns-in_err-write_record-in-Rec-clause-lines
returns-in_err-write_record-in-Rec-clause-lines g c =
    let before = g.S.Sink.taken c.args.out.now in
    let between = g.S.Sink.taken c.write_line.new.out in
    let after = g.S.Sink.taken c.write_record.new.out in
    let item = item_of c.args.item in
    let all = form_lines c.args.form item in
    let payload = c.as_slice-in-Rec.result.now in
    let stop = c.in_err-write_record-in-Rec.field-0.0 in
    let lines = first_line c.args.form item
    ∙ ap (λ lines. item_line (record_word c.args.form.records) item ∷ lines) (ap (λ item. later_lines c.args.form (item_of item)) c.in-Rec.is ∙ ap (record_lines c.args.form.records c.args.form.hex) (sym c.as_slice-in-Rec.ensures)) in
    let stopped = err_from_is_err_and c.from_residual-in_err-write_record-in-Rec.result c.from_residual-in_err-write_record-in-Rec.ensures.1 in
    subst (TookUpTo before after all) (sym (stopped.1 ∙ ap Err stopped.2))
    (TookUpTo-stop (Unit {0}) Bool before after all stop
    (line_then (Unit {0}) before between after all (record_lines c.args.form.records c.args.form.hex payload) (item_line (record_word c.args.form.records) item) c.as_slice.result.now (Err stop) lines
    (c.as_slice.ensures ∙ c.in_ok-set_item.ensures ∙ ap (λ word. item_line word item) c.word.ensures) c.in_ok-write_line.ensures.line c.in_err-write_record-in-Rec.ensures.lines))
