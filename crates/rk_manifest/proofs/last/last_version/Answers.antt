use Rattle.std.proofs.Common.{◌≡◌, ◌+◌, ◌≤◌, suc, List, length, drop, Err, sym, ap, ◌∙◌, subst, arith}
use Rattle.std.specs.List.{AllZip}
use Rattle.std.proofs.lemmas.Result.{err_from_is_err_and}
use Rattle.rk_bytes.specs.Model.Manifest.{last_version as last_of_units}
use Rattle.rk_version.specs.declared.unit.Unit.{Unit as LentUnit}
use Rattle.rk_version.specs.Units.{IsUnit}
use Rattle.rk_manifest.specs.Last.{IsLast, last_after}
use Rattle.rk_manifest.proofs.LastLemmas.{UnitAt, unit_at, one_more, refused_last, last_one}
use Rattle.rk_manifest.proofs.last.last_version.Goals as goal

pub returns-in_err-apply : goal.returns-in_err-apply
returns-in_err-apply c = λ means are.
    let units = c.as_slice-unit-items.result.now in
    let i = c.loop-unit.unit-index in
    let each = subst (λ (units : List LentUnit). AllZip IsUnit units means.units) (sym c.as_slice-unit-items.ensures) are.units in
    let at = subst (UnitAt units means.units i) (sym c.unit-item.is) (unit_at units means.units i c.unit-item.result each c.loop-unit-test.true) in
    let told = err_from_is_err_and c.from_residual-in_err-apply.result c.from_residual-in_err-apply.ensures.1 in
    subst (IsLast (last_of_units means)) (sym (told.1 ∙ ap Err told.2))
    (refused_last (last_of_units means) c.loop-unit.applied c.apply.new.self units means.units means.fault i c.unit-item.result c.in_err-apply.field-0.0 at (c.loop-unit.invariant.1 means are) (c.in_err-apply.ensures.applies at.stated at.is))

pub loop-unit-preserved : goal.loop-unit-preserved
loop-unit-preserved c = (
  omega (arith, c.loop-unit.invariant.0, c.in_ok-apply.ensures.count),
  λ means are.
      let units = c.as_slice-unit-items.result.now in
      let i = c.loop-unit.unit-index in
      let each = subst (λ (units : List LentUnit). AllZip IsUnit units means.units) (sym c.as_slice-unit-items.ensures) are.units in
      let at = subst (UnitAt units means.units i) (sym c.unit-item.is) (unit_at units means.units i c.unit-item.result each c.loop-unit-test.true) in
      let next : suc i ≡ i + 1 = omega arith in
      one_more (last_of_units means) c.loop-unit.applied c.apply.new.self units means.units means.fault i c.unit-item.result at (c.loop-unit.invariant.1 means are) (c.in_ok-apply.ensures.applies at.stated at.is)
      ∙ ap (λ i. last_after c.apply.new.self (drop i means.units) means.fault) next,
)

pub returns-in_err-finish : goal.returns-in_err-finish
returns-in_err-finish c = λ means are.
    let all : length c.args.units.now.units ≤ c.loop-unit.unit-index = omega (arith, c.loop-unit-test.false, ap length c.as_slice-unit-items.ensures) in
    let last = last_one (last_of_units means) c.loop-unit.applied c.args.units.now means c.loop-unit.unit-index are all (c.loop-unit.invariant.1 means are) in
    let told = err_from_is_err_and c.from_residual-in_err-finish.result c.from_residual-in_err-finish.ensures.1 in
    subst (IsLast (last_of_units means)) (sym (told.1 ∙ ap Err told.2)) (last ∙ sym c.finish.ensures ∙ c.in_err-finish.was)

pub returns : goal.returns
returns c = λ means are.
    let all : length c.args.units.now.units ≤ c.loop-unit.unit-index = omega (arith, c.loop-unit-test.false, ap length c.as_slice-unit-items.ensures) in
    last_one (last_of_units means) c.loop-unit.applied c.args.units.now means c.loop-unit.unit-index are all (c.loop-unit.invariant.1 means are) ∙ sym c.finish.ensures ∙ c.in_ok-finish.was
