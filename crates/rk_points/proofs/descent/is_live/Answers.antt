use Rattle.std.proofs.Common.{◌≡◌, sym, arith, subst, ◌∙◌}
use Rattle.std.proofs.lemmas.Bool.{le-ltb}
use Rattle.rk_points.proofs.DescentTurns.{Parts, live_before, not_live}
use Rattle.rk_points.proofs.descent.is_live.Goals as goal

pub returns-then-left-gt0 : goal.returns-then-left-gt0
returns-then-left-gt0 c rises = sym (live_before c.args.turns.now c.args.point c.turns_until-left.result _ c.if-left-gt0.true c.turns_until-left.ensures.bound (c.turns_until-left.ensures.parts rises))

pub returns-else-left-gt0 : goal.returns-else-left-gt0
returns-else-left-gt0 c rises =
    let n = c.turns_until-left.result in
    let none : n ≡ 0 = omega arith in
    le-ltb 0 n c.if-left-gt0.false ∙ sym (not_live c.args.turns.now c.args.point (subst (Parts c.args.turns.now c.args.point) none (c.turns_until-left.ensures.parts rises)))
