use Rattle.std.proofs.Common.{◌≡◌, ◌-◌, ◌≤◌, length, sym, subst, ◌∙◌, arith}
use Rattle.rk_points.specs.Descents.{last_whole}
use Rattle.rk_points.proofs.DescentTurns.{Parts, last_here, lowered, whole_before, whole_first}
use Rattle.rk_points.proofs.descent.last_whole.Goals as goal

pub loop-left-preserved : goal.loop-left-preserved
loop-left-preserved c =
    let bound : c.loop-left.left - 1 ≤ length c.args.turns.now = omega (arith, c.loop-left.invariant.0) in (
      bound,
      λ sound.
          let (parts, last) = c.loop-left.invariant.1 sound in
          let (less, fewer) = lowered c.args.turns.now sound c.loop-left.at c.loop-left.left _ c.loop-left-test.true c.loop-left.invariant.0 parts c.if-not-turns-left.true in
          (subst (λ at. Parts c.args.turns.now at (c.loop-left.left - 1) × (last_whole c.args.turns.now at ≡ last_whole c.args.turns.now c.args.point)) (sym c.saturating_sub-at.ensures) (fewer, sym less ∙ last)),
    )

pub returns-else-not-turns-left : goal.returns-else-not-turns-left
returns-else-not-turns-left c sound =
    let (parts, last) = c.loop-left.invariant.1 sound in
    sym (last_here c.args.turns.now c.loop-left.at (whole_before c.args.turns.now c.loop-left.at c.loop-left.left _ c.loop-left-test.true c.loop-left.invariant.0 parts ∙ c.if-not-turns-left.false)) ∙ last

pub returns-after-loop-left : goal.returns-after-loop-left
returns-after-loop-left c sound =
    let (parts, last) = c.loop-left.invariant.1 sound in
    let none : c.loop-left.left ≡ 0 = omega arith in
    sym (last_here c.args.turns.now c.loop-left.at (whole_first c.args.turns.now c.loop-left.at (subst (Parts c.args.turns.now c.loop-left.at) none parts))) ∙ last
