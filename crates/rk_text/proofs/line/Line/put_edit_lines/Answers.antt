use Rattle.std.proofs.Common.{◌++◌, ap, ◌∙◌}
use Rattle.std.proofs.lemmas.Result.{on_ok_weaker}
use Rattle.rk_text.proofs.EditLemmas.{field_lines, bad_edit_lines}
use Rattle.rk_text.proofs.line.Line.put_edit_lines.Goals as goal

pub returns-in-Ok : goal.returns-in-Ok
returns-in-Ok c =
    on_ok_weaker c.put_fields.result (λ put. put ∙ ap (λ lines. c.args.self.now ++ lines) (field_lines c.args.hex c.args.bytes.now c.in-Ok.view c.in-Ok.ensures)) c.put_fields.ensures

pub returns-in-Err : goal.returns-in-Err
returns-in-Err c =
    on_ok_weaker c.put_bad_edit.result (λ put. put ∙ ap (λ lines. c.args.self.now ++ lines) (bad_edit_lines c.args.hex c.args.bytes.now c.in-Err.fault c.in-Err.ensures)) c.put_bad_edit.ensures
