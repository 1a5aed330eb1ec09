use Rattle.std.proofs.Common.{map, Err, sym, ap, ◌∙◌, subst}
use Rattle.std.proofs.lemmas.Result.{err_from_is_err_and}
use Rattle.rk_bytes.specs.Model.Lines.{batch_line, part_line, bad_line, batch_fault_words, batch_lines}
use Rattle.rk_ldb.specs.Stops.{TookUpTo}
use Rattle.rk_ldb.specs.Wrote.{Wrote}
use Rattle.rk_ldb.proofs.BatchLines.{good_lines, bad_lines}
use Rattle.rk_ldb.proofs.Taken.{Wrote-nothing, Wrote-line-stopped, line_then, only_line}
use Rattle.rk_ldb.proofs.batch.write_batch.Goals as goal

pub returns-in_err-write_line-in-Ok-clause-lines : goal.returns-in_err-write_line-in-Ok-clause-lines
returns-in_err-write_line-in-Ok-clause-lines g c =
    let before = g.S.Sink.taken c.args.out.now in
    let after = g.S.Sink.taken c.write_line.new.out in
    let all = batch_lines c.args.hex c.args.payload.now in
    let lines = good_lines c.args.hex c.args.payload.now c.in-Ok.view c.in-Ok.ensures in
    let stopped = err_from_is_err_and c.from_residual-in_err-write_line-in-Ok.result c.from_residual-in_err-write_line-in-Ok.ensures.1 in
    subst (TookUpTo before after all) (sym (stopped.1 ∙ ap Err stopped.2))
    (Wrote-line-stopped (Unit {0}) before before after all (map (part_line c.args.hex) c.in-Ok.view.left) (batch_line c.in-Ok.view.batch) c.as_slice.result.now c.in_err-write_line-in-Ok.field-0.0
    (subst (Wrote before before all) lines (Wrote-nothing before all)) (c.as_slice.ensures ∙ c.in_ok-set_batch-in-Ok.ensures) c.in_err-write_line-in-Ok.ensures.line)

pub returns-in_ok-write_line-in-Ok-clause-lines : goal.returns-in_ok-write_line-in-Ok-clause-lines
returns-in_ok-write_line-in-Ok-clause-lines g c =
    line_then (Unit {0}) (g.S.Sink.taken c.args.out.now) (g.S.Sink.taken c.write_line.new.out) (g.S.Sink.taken c.write_parts.new.out) (batch_lines c.args.hex c.args.payload.now)
    (map (part_line c.args.hex) c.in-Ok.view.left) (batch_line c.in-Ok.view.batch) c.as_slice.result.now c.write_parts.result (good_lines c.args.hex c.args.payload.now c.in-Ok.view c.in-Ok.ensures)
    (c.as_slice.ensures ∙ c.in_ok-set_batch-in-Ok.ensures) c.in_ok-write_line-in-Ok.ensures.line c.write_parts.ensures.lines

pub returns-in_ok-set_bad_batch-in-Err-clause-lines : goal.returns-in_ok-set_bad_batch-in-Err-clause-lines
returns-in_ok-set_bad_batch-in-Err-clause-lines g c =
    only_line (Unit {0}) (g.S.Sink.taken c.args.out.now) (g.S.Sink.taken c.write_line-in-Err.new.out) (batch_lines c.args.hex c.args.payload.now) (bad_line (batch_fault_words c.in-Err.fault)) c.as_slice-in-Err.result.now
    c.write_line-in-Err.result (bad_lines c.args.hex c.args.payload.now c.in-Err.fault c.in-Err.ensures) (c.as_slice-in-Err.ensures ∙ c.in_ok-set_bad_batch-in-Err.ensures) c.write_line-in-Err.ensures.line
