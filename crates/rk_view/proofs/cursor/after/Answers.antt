use Rattle.std.proofs.Common.{◌∙◌, ◌-◌, ◌≤◌, rules, of_calls, drop, length, take_all, arith, length-drop, List}
use Rattle.std.specs.Prelude.{not}
use Rattle.std.proofs.lemmas.Fn.{always_returns_same}
use Rattle.rk_bytes.specs.declared.model.key.Record.{Record}
use Rattle.rk_view.specs.Places.{is_after}
use Rattle.rk_view.proofs.RunLemmas.{after_parts}
use Rattle.rk_view.proofs.SourceLemmas.{dropped_at}
use Rattle.rk_view.proofs.cursor.after.Goals as goal

pub returns : goal.returns
returns c =
    let p = is_after c.args.place.now.family c.args.place.now.user.now c.args.place.now.below in
    let run : List Record = c.args.run.now in
    let first = c.partition_point-first.result in
    let parts = c.partition_point-first.ensures.partitioned (λ r. not (p r)) (always_returns_same _ _ _ (λ a r f k. search (rules, of_calls))) (after_parts _ _ _ run c.requires.rises) in
    let long : length (drop first run) ≤ length run - first = omega (arith, length-drop first run) in
    take_all (length run - first) (drop first run) long ∙ dropped_at p run first c.partition_point-first.ensures.bound parts.0 parts.1
