use Rattle.std.proofs.Common.{map, Err, sym, ap, ◌∙◌, subst}
use Rattle.std.proofs.lemmas.Result.{err_from_is_err_and}
use Rattle.rk_bytes.specs.Model.Lines.{part_line}
use Rattle.rk_batch.specs.Seen.{part_of}
use Rattle.rk_ldb.specs.Stops.{TookUpTo}
use Rattle.rk_ldb.specs.Wrote.{Wrote}
use Rattle.rk_ldb.proofs.Taken.{Wrote-no_memory, Wrote-line, Wrote-line-stopped}
use Rattle.rk_ldb.proofs.batch.write_parts.Goals as goal

pub returns-in_err-set_part-clause-lines : goal.returns-in_err-set_part-clause-lines
returns-in_err-set_part-clause-lines g c =
    let before = g.S.Sink.taken c.args.out.now in
    let all = map (part_line c.args.hex) c.args.view.now.left in
    let stopped = err_from_is_err_and c.from_residual.result c.from_residual.ensures.1 in
    subst (TookUpTo before (g.S.Sink.taken c.loop-part.out) all) (sym stopped.1)
    (Wrote-no_memory (Unit {0}) before (g.S.Sink.taken c.loop-part.out) all (map (part_line c.args.hex) c.loop-part.view.left) _ stopped.2 c.loop-part.invariant.0)

pub loop-part-preserved : goal.loop-part-preserved
loop-part-preserved g c =
    let before = g.S.Sink.taken c.args.out.now in
    let between = g.S.Sink.taken c.loop-part.out in
    let all = map (part_line c.args.hex) c.args.view.now.left in
    let rest = map (part_line c.args.hex) c.next_record.new.self.left in
    let given = ap (map (part_line c.args.hex)) c.in-Some.ensures.given in (
      Wrote-line before between (g.S.Sink.taken c.write_line.new.out) all rest (part_line c.args.hex (part_of c.in-Some.part)) c.as_slice.result.now
          (subst (Wrote before between all) given c.loop-part.invariant.0) (c.as_slice.ensures ∙ c.in_ok-set_part.ensures) c.in_ok-write_line.ensures.line,
      c.in_ok-write_line.ensures.counts ∙ c.loop-part.invariant.1,
    )

pub returns-in_err-write_line-clause-lines : goal.returns-in_err-write_line-clause-lines
returns-in_err-write_line-clause-lines g c =
    let before = g.S.Sink.taken c.args.out.now in
    let between = g.S.Sink.taken c.loop-part.out in
    let all = map (part_line c.args.hex) c.args.view.now.left in
    let rest = map (part_line c.args.hex) c.next_record.new.self.left in
    let given = ap (map (part_line c.args.hex)) c.in-Some.ensures.given in
    let stopped = err_from_is_err_and c.from_residual-in_err-write_line.result c.from_residual-in_err-write_line.ensures.1 in
    subst (TookUpTo before (g.S.Sink.taken c.write_line.new.out) all) (sym (stopped.1 ∙ ap Err stopped.2))
    (Wrote-line-stopped (Unit {0}) before between (g.S.Sink.taken c.write_line.new.out) all rest (part_line c.args.hex (part_of c.in-Some.part)) c.as_slice.result.now c.in_err-write_line.field-0.0
    (subst (Wrote before between all) given c.loop-part.invariant.0) (c.as_slice.ensures ∙ c.in_ok-set_part.ensures) c.in_err-write_line.ensures.line)
