use Rattle.std.proofs.Common.{◌+◌, map, drop, Err, refl, sym, ap, ◌∙◌, subst, arith}
use Rattle.std.proofs.lemmas.List.{drop_all}
use Rattle.std.proofs.lemmas.Result.{err_from_is_err_and}
use Rattle.rk_ldb.specs.Stops.{TookUpTo}
use Rattle.rk_ldb.specs.Wrote.{Wrote}
use Rattle.rk_ldb.proofs.ShownLemmas.{next_shown}
use Rattle.rk_ldb.proofs.Taken.{Wrote-nothing, Wrote-all, Wrote-no_memory, Wrote-line, Wrote-line-stopped}
use Rattle.rk_ldb.proofs.shown.write_shown.Goals as goal

pub loop-thing-init : goal.loop-thing-init
loop-thing-init g c = (Wrote-nothing (g.S.Sink.taken c.args.out.now) (map (g.T.Shown.shown c.args.hex) c.args.things.now), refl, omega arith)

pub returns-in_err-set_in-clause-lines : goal.returns-in_err-set_in-clause-lines
returns-in_err-set_in-clause-lines g c =
    let before = g.S.Sink.taken c.args.out.now in
    let shown = g.T.Shown.shown c.args.hex in
    let all = map shown c.args.things.now in
    let stopped = err_from_is_err_and c.from_residual.result c.from_residual.ensures.1 in
    subst (TookUpTo before (g.S.Sink.taken c.loop-thing.out) all) (sym stopped.1)
    (Wrote-no_memory (Unit {0}) before (g.S.Sink.taken c.loop-thing.out) all (map shown (drop c.loop-thing.thing-index c.args.things.now)) _ stopped.2 c.loop-thing.invariant.0)

pub returns-in_err-write_line-clause-lines : goal.returns-in_err-write_line-clause-lines
returns-in_err-write_line-clause-lines g c =
    let before = g.S.Sink.taken c.args.out.now in
    let between = g.S.Sink.taken c.loop-thing.out in
    let things = c.args.things.now in
    let shown = g.T.Shown.shown c.args.hex in
    let i = c.loop-thing.thing-index in
    let thing = c.thing-item.result in
    let stopped = err_from_is_err_and c.from_residual-in_err-write_line.result c.from_residual-in_err-write_line.ensures.1 in
    subst (TookUpTo before (g.S.Sink.taken c.write_line.new.out) (map shown things)) (sym (stopped.1 ∙ ap Err stopped.2))
    (Wrote-line-stopped (Unit {0}) before between (g.S.Sink.taken c.write_line.new.out) (map shown things) (map shown (drop (i + 1) things)) (shown thing) c.as_slice.result.now c.in_err-write_line.field-0.0
    (subst (Wrote before between (map shown things)) (next_shown shown things i thing c.loop-thing-test.true c.thing-item.is) c.loop-thing.invariant.0) (c.as_slice.ensures ∙ c.in_ok-set_in.ensures) c.in_err-write_line.ensures.line)

pub loop-thing-preserved : goal.loop-thing-preserved
loop-thing-preserved g c =
    let before = g.S.Sink.taken c.args.out.now in
    let between = g.S.Sink.taken c.loop-thing.out in
    let things = c.args.things.now in
    let shown = g.T.Shown.shown c.args.hex in
    let i = c.loop-thing.thing-index in
    let thing = c.thing-item.result in (
      Wrote-line before between (g.S.Sink.taken c.write_line.new.out) (map shown things) (map shown (drop (i + 1) things)) (shown thing) c.as_slice.result.now
          (subst (Wrote before between (map shown things)) (next_shown shown things i thing c.loop-thing-test.true c.thing-item.is) c.loop-thing.invariant.0) (c.as_slice.ensures ∙ c.in_ok-set_in.ensures) c.in_ok-write_line.ensures.line,
      c.in_ok-write_line.ensures.counts ∙ c.loop-thing.invariant.1,
      omega (arith, c.loop-thing-test.true),
    )

pub returns-clause-lines : goal.returns-clause-lines
returns-clause-lines g c =
    let before = g.S.Sink.taken c.args.out.now in
    let things = c.args.things.now in
    let shown = g.T.Shown.shown c.args.hex in
    Wrote-all before (g.S.Sink.taken c.loop-thing.out) (map shown things)
    (subst (Wrote before (g.S.Sink.taken c.loop-thing.out) (map shown things)) (ap (map shown) (drop_all c.loop-thing.thing-index things (omega (arith, c.loop-thing-test.false)))) c.loop-thing.invariant.0)
