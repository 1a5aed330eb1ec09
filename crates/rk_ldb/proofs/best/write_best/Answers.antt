use Rattle.std.proofs.Common.{Err, refl, sym, ap, ◌∙◌, subst}
use Rattle.std.proofs.lemmas.Result.{err_from_is_err_and}
use Rattle.rk_bytes.specs.declared.model.status.Status.{Status}
use Rattle.rk_bytes.specs.Model.Lines.{manifest_line}
use Rattle.rk_open.specs.Best.{best_of}
use Rattle.rk_ldb.specs.Stops.{TookUpTo}
use Rattle.rk_ldb.specs.Views.{best_lines, best_rest}
use Rattle.rk_ldb.proofs.Taken.{Wrote-nothing, Wrote-line-stopped, line_then}
use Rattle.rk_ldb.proofs.best.write_best.Goals as goal

pub returns-in_err-write_line-clause-lines : goal.returns-in_err-write_line-clause-lines
returns-in_err-write_line-clause-lines g c =
    let before = g.S.Sink.taken c.args.out.now in
    let after = g.S.Sink.taken c.write_line.new.out in
    let best = best_of c.args.best.now in
    let stopped = err_from_is_err_and c.from_residual-in_err-write_line.result c.from_residual-in_err-write_line.ensures.1 in
    subst (TookUpTo before after (best_lines best)) (sym (stopped.1 ∙ ap Err stopped.2))
    (Wrote-line-stopped Status before before after (best_lines best) (best_rest best) (manifest_line best.manifest best.units) c.as_slice.result.now c.in_err-write_line.field-0.0
    (Wrote-nothing before (best_lines best)) (c.as_slice.ensures ∙ c.in_ok-set_manifest.ensures) c.in_err-write_line.ensures.line)

pub returns-clause-lines : goal.returns-clause-lines
returns-clause-lines g c =
    let best = best_of c.args.best.now in
    line_then Status (g.S.Sink.taken c.args.out.now) (g.S.Sink.taken c.write_line.new.out) (g.S.Sink.taken c.write_points.new.out) (best_lines best) (best_rest best)
    (manifest_line best.manifest best.units) c.as_slice.result.now c.write_points.result refl (c.as_slice.ensures ∙ c.in_ok-set_manifest.ensures) c.in_ok-write_line.ensures.line c.write_points.ensures.lines
