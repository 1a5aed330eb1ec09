use Rattle.std.proofs.Common.{◌++◌, ap, ◌∙◌}
use Rattle.std.proofs.lemmas.Result.{on_ok_weaker}
use Rattle.rk_text.proofs.BatchLemmas.{whole_lines, bad_lines}
use Rattle.rk_text.proofs.line.Line.put_batch_lines.Goals as goal

pub returns-in-Ok : goal.returns-in-Ok
returns-in-Ok c =
    on_ok_weaker c.put_view.result (λ put. put ∙ ap (λ lines. c.args.self.now ++ lines) (whole_lines c.args.hex c.args.bytes.now c.in-Ok.view c.in-Ok.ensures)) c.put_view.ensures

pub returns-in-Err : goal.returns-in-Err
returns-in-Err c =
    on_ok_weaker c.put_bad_batch.result (λ put. put ∙ ap (λ lines. c.args.self.now ++ lines) (bad_lines c.args.hex c.args.bytes.now c.in-Err.fault c.in-Err.ensures)) c.put_bad_batch.ensures
