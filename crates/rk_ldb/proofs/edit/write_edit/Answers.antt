use Rattle.std.proofs.Common.{Ok, Err, sym, ◌∙◌, subst}
use Rattle.rk_bytes.specs.Model.Lines.{bad_line, edit_fault_words, edit_lines}
use Rattle.rk_ldb.specs.Stops.{TookUpTo}
use Rattle.rk_ldb.proofs.EditLines.{lines_of_edit}
use Rattle.rk_ldb.proofs.Taken.{only_line}
use Rattle.rk_ldb.proofs.edit.write_edit.Goals as goal

pub returns-in-Ok-clause-lines : goal.returns-in-Ok-clause-lines
returns-in-Ok-clause-lines g c =
    subst (λ lines. TookUpTo (g.S.Sink.taken c.args.out.now) (g.S.Sink.taken c.write_fields.new.out) lines c.write_fields.result)
    (sym (lines_of_edit c.args.hex c.args.payload.now (Ok c.in-Ok.view) c.in-Ok.ensures)) c.write_fields.ensures.lines

pub returns-in_ok-set_bad_edit-in-Err-clause-lines : goal.returns-in_ok-set_bad_edit-in-Err-clause-lines
returns-in_ok-set_bad_edit-in-Err-clause-lines g c =
    only_line (Unit {0}) (g.S.Sink.taken c.args.out.now) (g.S.Sink.taken c.write_line.new.out) (edit_lines c.args.hex c.args.payload.now) (bad_line (edit_fault_words c.in-Err.fault)) c.as_slice.result.now
    c.write_line.result (lines_of_edit c.args.hex c.args.payload.now (Err c.in-Err.fault) c.in-Err.ensures) (c.as_slice.ensures ∙ c.in_ok-set_bad_edit-in-Err.ensures) c.write_line.ensures.line
