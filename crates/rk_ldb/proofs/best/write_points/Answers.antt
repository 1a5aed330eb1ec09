use Rattle.std.proofs.Common.{List, [], ◌∷◌, map, Err, sym, ap, ◌∙◌, subst}
use Rattle.std.proofs.lemmas.Result.{err_from_is_err_and}
use Rattle.rk_bytes.specs.declared.model.status.Status.{Status}
use Rattle.rk_bytes.specs.declared.model.view.Point.{Point}
use Rattle.rk_bytes.specs.Model.Lines.{point_line}
use Rattle.rk_bytes.specs.Model.Output.{Took, joined, counts_line}
use Rattle.rk_open.specs.Best.{best_of}
use Rattle.rk_ldb.specs.Stops.{TookUpTo}
use Rattle.rk_ldb.specs.Views.{best_rest}
use Rattle.rk_ldb.proofs.Taken.{lines_then, lines_stopped}
use Rattle.rk_ldb.proofs.best.write_points.Goals as goal

pub returns-in_err-write_shown-clause-lines : goal.returns-in_err-write_shown-clause-lines
returns-in_err-write_shown-clause-lines g c =
    let before = g.S.Sink.taken c.args.out.now in
    let after = g.S.Sink.taken c.write_shown.new.out in
    let best = best_of c.args.best.now in
    let stop = c.in_err-write_shown.field-0.0 in
    let stopped = err_from_is_err_and c.from_residual.result c.from_residual.ensures.1 in
    let took = subst (λ (points : List Point). TookUpTo {T = Unit {0}} before after (map point_line points) (Err stop)) c.as_slice.ensures c.in_err-write_shown.ensures.lines in
    subst (TookUpTo before after (best_rest best)) (sym (stopped.1 ∙ ap Err stopped.2))
    (lines_stopped (Unit {0}) Status before after (map point_line best.points) (counts_line best.state ∷ []) stop took)

pub returns-clause-lines : goal.returns-clause-lines
returns-clause-lines g c =
    let before = g.S.Sink.taken c.args.out.now in
    let between = g.S.Sink.taken c.write_shown.new.out in
    let best = best_of c.args.best.now in
    lines_then Status before between (g.S.Sink.taken c.write_counts.new.out) (map point_line best.points) (counts_line best.state ∷ []) c.write_counts.result
    (subst (λ (points : List Point). Took before between (joined (map point_line points))) c.as_slice.ensures c.in_ok-write_shown.ensures.lines) c.write_counts.ensures.lines
