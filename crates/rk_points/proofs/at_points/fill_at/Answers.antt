use Rattle.std.proofs.Common.{◌≡◌, ◌+◌, suc, length, get_or, set, flat_map, filter, ap, ◌∙◌, arith}
use Rattle.std.proofs.lemmas.List.{length-set}
use Rattle.rk_bytes.specs.declared.model.view.Point.{Point}
use Rattle.rk_bytes.specs.Model.Manifest.{has_id}
use Rattle.rk_points.specs.Lists.{files_before}
use Rattle.rk_points.proofs.AtLemmas.{partly, partly_set, partly_same, point_there, point_elsewhere}
use Rattle.rk_points.proofs.at_points.fill_at.Goals as goal
use Rattle.rk_points.proofs.at_points.fill_at.Goals.{then-point-at+in_ok-each, else-point-at}

pub loop-i-preserved : goal.loop-i-preserved
loop-i-preserved c =
    let at = c.args.at in
    let points = c.args.points.now in
    let i = c.loop-i.i in
    let none : Point = record { family = 0; at = 0 } in
    let point = get_or points i none in
    let next : suc i ≡ i + 1 = omega arith in
    elim c.if-point-at.branch [
      | then-point-at+in_ok-each w ↦ record {
        count = ap (λ each. length each.items) w.each-is ∙ length-set c.loop-i.each.items i w.in_ok-each.field-0 ∙ c.loop-i.invariant.count;
        filled = λ units there old.
            let f = files_before units (at + 1) in
            let g = files_before units at in
            let files : w.in_ok-each.field-0 ≡ f point = point_there units at point c.args.version.now w.in_ok-each.field-0 w.if-point-at.true there
            (w.in_ok-each.ensures ∙ ap (λ families. flat_map (λ live. live.files) (filter (has_id point.family) families)) w.as_slice.ensures) in
            ap (λ each. each.items) w.each-is ∙ (λ j. set (c.loop-i.invariant.filled units there old j) i (files j)) ∙ partly_set f g points i none c.loop-i-test.true ∙ ap (λ k. partly f g k points) next;
      }
      | else-point-at w ↦ record {
        count = ap (λ each. length each.items) w.each-is ∙ c.loop-i.invariant.count;
        filled = λ units there old.
            let f = files_before units (at + 1) in
            let g = files_before units at in
            ap (λ each. each.items) w.each-is ∙ c.loop-i.invariant.filled units there old ∙ partly_same f g points i none c.loop-i-test.true (point_elsewhere units at point w.if-point-at.false) ∙ ap (λ k. partly f g k points) next;
      }
    ]
