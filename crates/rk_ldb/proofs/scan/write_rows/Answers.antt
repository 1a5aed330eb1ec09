use Rattle.std.proofs.Common.{map, Option, Ok, Err, refl, sym, ap, ◌∙◌, subst}
use Rattle.std.proofs.lemmas.Result.{err_from_is_err_and}
use Rattle.rk_bytes.specs.Model.Lines.{row_line}
use Rattle.rk_view.specs.declared.walk.Row.{Row}
use Rattle.rk_view.specs.Shown.{row_shown, GivesRow}
use Rattle.rk_ldb.specs.Stops.{TookUpTo}
use Rattle.rk_ldb.specs.Wrote.{Wrote}
use Rattle.rk_ldb.proofs.Taken.{Wrote-no_memory, Wrote-line, Wrote-line-stopped}
use Rattle.rk_ldb.proofs.scan.write_rows.Goals as goal

pub returns-in_err-row-clause-lines : goal.returns-in_err-row-clause-lines
returns-in_err-row-clause-lines g c =
    let before = g.S.Sink.taken c.args.out.now in
    let all = map (row_line c.args.hex) c.args.rows.now in
    let stopped = err_from_is_err_and c.from_residual.result c.from_residual.ensures.1 in
    subst (TookUpTo before (g.S.Sink.taken c.loop-row.out) all) (sym stopped.1)
    (Wrote-no_memory (Unit {0}) before (g.S.Sink.taken c.loop-row.out) all (map (row_line c.args.hex) c.loop-row.rows) _ stopped.2 c.loop-row.invariant.0)

pub returns-in_err-write_row-clause-lines : goal.returns-in_err-write_row-clause-lines
returns-in_err-write_row-clause-lines g c =
    let before = g.S.Sink.taken c.args.out.now in
    let between = g.S.Sink.taken c.loop-row.out in
    let lines = map (row_line c.args.hex) in
    let all = lines c.args.rows.now in
    let rest = lines c.next_row.new.self in
    let line = row_line c.args.hex (row_shown c.in-Some.row) in
    let given = subst (λ (row : Option Row). GivesRow c.loop-row.rows (Ok row) c.next_row.new.self) c.in-Some.is c.in_ok-row.ensures in
    let so_far = subst (Wrote before between all) (ap lines given) c.loop-row.invariant.0 in
    let stopped = err_from_is_err_and c.from_residual-in_err-write_row.result c.from_residual-in_err-write_row.ensures.1 in
    subst (TookUpTo before (g.S.Sink.taken c.write_row.new.out) all) (sym (stopped.1 ∙ ap Err stopped.2))
    (Wrote-line-stopped (Unit {0}) before between (g.S.Sink.taken c.write_row.new.out) all rest line line c.in_err-write_row.field-0.0 so_far refl c.in_err-write_row.ensures.line)

pub loop-row-preserved-in_ok-write_row : goal.loop-row-preserved-in_ok-write_row
loop-row-preserved-in_ok-write_row g c =
    let before = g.S.Sink.taken c.args.out.now in
    let between = g.S.Sink.taken c.loop-row.out in
    let lines = map (row_line c.args.hex) in
    let all = lines c.args.rows.now in
    let rest = lines c.next_row.new.self in
    let line = row_line c.args.hex (row_shown c.in-Some.row) in
    let given = subst (λ (row : Option Row). GivesRow c.loop-row.rows (Ok row) c.next_row.new.self) c.in-Some.is c.in_ok-row.ensures in
    let so_far = subst (Wrote before between all) (ap lines given) c.loop-row.invariant.0 in
    (Wrote-line before between (g.S.Sink.taken c.write_row.new.out) all rest line line so_far refl c.in_ok-write_row.ensures.line, c.in_ok-write_row.ensures.counts ∙ c.loop-row.invariant.1)

pub loop-row-preserved-in_ok-write_row-2 : goal.loop-row-preserved-in_ok-write_row-2
loop-row-preserved-in_ok-write_row-2 g c =
    let before = g.S.Sink.taken c.args.out.now in
    let between = g.S.Sink.taken c.loop-row.out in
    let lines = map (row_line c.args.hex) in
    let all = lines c.args.rows.now in
    let rest = lines c.next_row.new.self in
    let line = row_line c.args.hex (row_shown c.in-Some.row) in
    let given = subst (λ (row : Option Row). GivesRow c.loop-row.rows (Ok row) c.next_row.new.self) c.in-Some.is c.in_ok-row.ensures in
    let so_far = subst (Wrote before between all) (ap lines given) c.loop-row.invariant.0 in
    (Wrote-line before between (g.S.Sink.taken c.write_row.new.out) all rest line line so_far refl c.in_ok-write_row.ensures.line, c.in_ok-write_row.ensures.counts ∙ c.loop-row.invariant.1)

pub loop-row-preserved : goal.loop-row-preserved
loop-row-preserved g c =
    let before = g.S.Sink.taken c.args.out.now in
    let between = g.S.Sink.taken c.loop-row.out in
    let lines = map (row_line c.args.hex) in
    let all = lines c.args.rows.now in
    let rest = lines c.next_row.new.self in
    let line = row_line c.args.hex (row_shown c.in-Some.row) in
    let given = subst (λ (row : Option Row). GivesRow c.loop-row.rows (Ok row) c.next_row.new.self) c.in-Some.is c.in_ok-row.ensures in
    let so_far = subst (Wrote before between all) (ap lines given) c.loop-row.invariant.0 in
    (Wrote-line before between (g.S.Sink.taken c.write_row.new.out) all rest line line so_far refl c.in_ok-write_row.ensures.line, c.in_ok-write_row.ensures.counts ∙ c.loop-row.invariant.1)
