use Rattle.std.proofs.Common.{◌+◌, map, drop, get_or, Err, sym, ap, ◌∙◌, subst, arith}
use Rattle.std.proofs.lemmas.List.{get_or_default}
use Rattle.std.proofs.lemmas.Result.{err_from_is_err_and}
use Rattle.rk_bytes.specs.Model.DiskImages.{Directory}
use Rattle.rk_ldb.specs.Drills.{opened_line}
use Rattle.rk_ldb.specs.Stops.{TookUpTo}
use Rattle.rk_ldb.specs.Wrote.{Wrote}
use Rattle.rk_ldb.proofs.ShownLemmas.{next_shown}
use Rattle.rk_ldb.proofs.Taken.{Wrote-line, Wrote-line-stopped}
use Rattle.rk_ldb.proofs.drill.write_openings.Goals as goal

pub returns-in_err-write_opening-clause-lines : goal.returns-in_err-write_opening-clause-lines
returns-in_err-write_opening-clause-lines g c =
    let before = g.S.Sink.taken c.args.out.now in
    let between = g.S.Sink.taken c.loop-how.out in
    let shown = opened_line c.args.disk.now in
    let ways = c.args.ways.now in
    let i = c.loop-how.how-index in
    let how = get_or ways i _ in
    let stopped = err_from_is_err_and c.from_residual.result c.from_residual.ensures.1 in
    subst (TookUpTo before (g.S.Sink.taken c.write_opening.new.out) (map shown ways)) (sym (stopped.1 ∙ ap Err stopped.2))
    (Wrote-line-stopped (Unit {0}) before between (g.S.Sink.taken c.write_opening.new.out) (map shown ways) (map shown (drop (i + 1) ways)) (shown how) (opened_line c.loop-how.disk how) c.in_err-write_opening.field-0.0
    (subst (Wrote before between (map shown ways)) (next_shown shown ways i how c.loop-how-test.true (get_or_default ways i _ how c.loop-how-test.true)) c.loop-how.invariant.0) (ap (λ (d : Directory). opened_line d how) c.loop-how.invariant.2) c.in_err-write_opening.ensures.line)

pub loop-how-preserved : goal.loop-how-preserved
loop-how-preserved g c =
    let before = g.S.Sink.taken c.args.out.now in
    let between = g.S.Sink.taken c.loop-how.out in
    let shown = opened_line c.args.disk.now in
    let ways = c.args.ways.now in
    let i = c.loop-how.how-index in
    let how = get_or ways i _ in (
      Wrote-line before between (g.S.Sink.taken c.write_opening.new.out) (map shown ways) (map shown (drop (i + 1) ways)) (shown how) (opened_line c.loop-how.disk how)
          (subst (Wrote before between (map shown ways)) (next_shown shown ways i how c.loop-how-test.true (get_or_default ways i _ how c.loop-how-test.true)) c.loop-how.invariant.0)
          (ap (λ (d : Directory). opened_line d how) c.loop-how.invariant.2) c.in_ok-write_opening.ensures.line,
      c.in_ok-write_opening.ensures.counts ∙ c.loop-how.invariant.1,
      c.in_ok-write_opening.ensures.same ∙ c.loop-how.invariant.2,
      omega (arith, c.loop-how-test.true),
    )
