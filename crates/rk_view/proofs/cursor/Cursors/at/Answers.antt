use Rattle.std.proofs.Common.{◌≡◌, ◌∙◌, ◌++◌, ◌<◌, ◌≤◌, ◌+◌, sym, ap, subst, map, take, get_or, length, arith, take_all, List, set, length-set}
use Rattle.std.specs.Prelude.{filter}
use Rattle.rk_bytes.specs.declared.model.key.Record.{Record}
use Rattle.rk_view.specs.declared.cursor.RunCursor.{RunCursor}
use Rattle.rk_view.specs.Places.{is_after}
use Rattle.rk_view.specs.Parts.{joined}
use Rattle.rk_view.specs.Sources.{AreRuns}
use Rattle.rk_view.proofs.SourceLemmas.{cursor_more, runs_kept}
use Rattle.rk_view.proofs.cursor.Cursors.at.Goals as goal

pub loop-run-preserved : goal.loop-run-preserved
loop-run-preserved c =
    let keep = filter (is_after c.args.place.now.family c.args.place.now.user.now c.args.place.now.below) in
    let i = c.loop-run.run-index in
    let runs : List (List Record) = c.args.runs.now in
    let so : map (λ (r : RunCursor). r.records.now ++ joined r.behind.now) (take i c.loop-run.cursors) ≡ map keep (take i runs) =
    ap (λ n. map (λ (r : RunCursor). r.records.now ++ joined r.behind.now) (take n c.loop-run.cursors)) (sym c.loop-run.invariant.count) ∙ c.loop-run.invariant.lefts in
    let here : c.at.result.records.now ++ joined c.at.result.behind.now ≡ keep (get_or runs i c.run-item.result) = c.at.ensures ∙ ap keep c.run-item.is in
    let few : length c.args.runs.now ≤ 32 = c.requires.few in
    let long : length c.loop-run.cursors ≡ 32 = c.loop-run.invariant.long in
    let inside : i < length c.loop-run.cursors = omega arith in
    record {
      long = length-set c.loop-run.cursors c.loop-run.count c.at.result ∙ c.loop-run.invariant.long;
      count = ap (λ n. n + 1) c.loop-run.invariant.count;
      lefts = ap (λ n. map (λ (r : RunCursor). r.records.now ++ joined r.behind.now) (take (n + 1) (set c.loop-run.cursors n c.at.result))) c.loop-run.invariant.count
          ∙ cursor_more (λ (r : RunCursor). r.records.now ++ joined r.behind.now) keep c.loop-run.cursors c.at.result runs i c.run-item.result inside c.loop-run-test.true so here;
    }

pub invariant_of-result : goal.invariant_of-result
invariant_of-result c =
    let keep = filter (is_after c.args.place.now.family c.args.place.now.user.now c.args.place.now.below) in
    let all : take c.loop-run.run-index c.args.runs.now ≡ c.args.runs.now = take_all c.loop-run.run-index c.args.runs.now c.loop-run-test.false in
    let few : length c.args.runs.now ≤ 32 = c.requires.few in
    let bound : c.loop-run.run-index ≤ length c.args.runs.now = omega arith in
    (omega (arith, c.loop-run.invariant.count), subst AreRuns (sym (c.loop-run.invariant.lefts ∙ ap (map keep) all)) (runs_kept (is_after c.args.place.now.family c.args.place.now.user.now c.args.place.now.below) c.args.runs.now c.requires.runs))
