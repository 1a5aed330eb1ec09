use Rattle.std.proofs.Common.{Err, refl, sym, ap, ◌∙◌, subst}
use Rattle.std.proofs.lemmas.Result.{err_from_is_err_and}
use Rattle.rk_ldb.specs.Stops.{TookLine}
use Rattle.rk_ldb.proofs.Taken.{TookLine-stopped}
use Rattle.rk_ldb.proofs.lines.write_line.Goals as goal

pub returns-in_err-write-clause-line : goal.returns-in_err-write-clause-line
returns-in_err-write-clause-line g c =
    let before = g.S.Sink.taken c.args.out.now in
    let after = g.S.Sink.taken c.write.new.self in
    let stopped = err_from_is_err_and c.from_residual.result c.from_residual.ensures.1 in
    let error = c.in_err-write.ensures in
    subst (TookLine before after c.args.line.now) (sym (stopped.1 ∙ ap Err stopped.2))
    (TookLine-stopped (Unit {0}) before after c.args.line.now _ c.in_err-write.field-0.0 error.failed error.memory refl)
