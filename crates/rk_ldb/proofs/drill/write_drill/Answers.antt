use Rattle.std.proofs.Common.{drop, Err, refl, sym, ap, ◌∙◌, subst}
use Rattle.std.proofs.lemmas.Result.{err_from_is_err_and}
use Rattle.rk_bytes.specs.declared.model.status.Status.{Status}
use Rattle.rk_bytes.specs.Model.Lines.{drill_line}
use Rattle.rk_ldb.specs.Drills.{drill_lines}
use Rattle.rk_ldb.specs.Stops.{TookUpTo}
use Rattle.rk_ldb.proofs.Taken.{Wrote-nothing, Wrote-line-stopped, line_then}
use Rattle.rk_ldb.proofs.drill.write_drill.Goals as goal

pub returns-in_err-write_line-clause-lines : goal.returns-in_err-write_line-clause-lines
returns-in_err-write_line-clause-lines g c =
    let before = g.S.Sink.taken c.args.out.now in
    let after = g.S.Sink.taken c.write_line.new.out in
    let all = drill_lines c.args.number c.args.disk.now in
    let stopped = err_from_is_err_and c.from_residual-in_err-write_line.result c.from_residual-in_err-write_line.ensures.1 in
    subst (TookUpTo before after all) (sym (stopped.1 ∙ ap Err stopped.2))
    (Wrote-line-stopped Status before before after all (drop 1 all) (drill_line c.args.number) c.as_slice.result.now c.in_err-write_line.field-0.0
    (Wrote-nothing before all) (c.as_slice.ensures ∙ c.in_ok-set_drill.ensures) c.in_err-write_line.ensures.line)

pub returns-clause-lines : goal.returns-clause-lines
returns-clause-lines g c =
    let all = drill_lines c.args.number c.args.disk.now in
    line_then Status (g.S.Sink.taken c.args.out.now) (g.S.Sink.taken c.write_line.new.out) (g.S.Sink.taken c.write_openings.new.out) all (drop 1 all)
    (drill_line c.args.number) c.as_slice.result.now c.write_openings.result refl (c.as_slice.ensures ∙ c.in_ok-set_drill.ensures) c.in_ok-write_line.ensures.line c.write_openings.ensures.lines
