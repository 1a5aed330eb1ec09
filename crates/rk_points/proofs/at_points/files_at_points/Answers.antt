use Rattle.std.proofs.Common.{◌≡◌, ◌+◌, ◌≤◌, Ok, length, map, sym, ap, subst, ◌∙◌, arith}
use Rattle.std.specs.List.{All, AllByRecursion}
use Rattle.rk_bytes.specs.declared.model.view.Point.{Point}
use Rattle.rk_bytes.specs.Model.Manifest.{version_after, version_at}
use Rattle.rk_version.specs.declared.unit.Unit.{Unit as LentUnit}
use Rattle.rk_version.specs.Units.{meaning}
use Rattle.rk_points.proofs.AtLemmas.{none_before, all_before}
use Rattle.rk_points.proofs.FollowLemmas.{applied_next}
use Rattle.rk_points.proofs.ListLemmas.{Reads, own_unit}
use Rattle.rk_points.proofs.at_points.files_at_points.Goals as goal

pub loop-i-init : goal.loop-i-init
unfolding version_after
loop-i-init c =
    let means = map meaning c.args.units.now in
    let first : version_at means 0 ≡ Ok c.in_ok-builder.builder = ap Ok (sym c.in_ok-builder.ensures) in
    record {
      applied = first;
      each = c.in_ok-fill_at.ensures means (first ∙ ap Ok (sym c.version.ensures)) (c.in_ok-each.ensures ∙ none_before means c.args.points.now);
    }

pub loop-i-preserved : goal.loop-i-preserved
loop-i-preserved c =
    let means = map meaning c.args.units.now in
    let i = c.loop-i.i in
    let unit = c.index-units-i.result in
    let reads = subst (λ (unit : LentUnit). All Reads unit.pieces) (sym c.index-units-i.is) (c.requires.reads i unit c.loop-i-test.true) in
    let next : version_at means (i + 1) ≡ Ok c.apply.new.self =
    applied_next c.args.units.now i unit c.loop-i.builder c.apply.new.self c.loop-i-test.true c.index-units-i.is (c.in-Ok.ensures.applies (meaning unit) (own_unit unit reads)) c.loop-i.invariant.applied in
    record {
      applied = next;
      each = c.in_ok-fill_at-2.ensures means (next ∙ ap Ok (sym c.version-in-loop-i.ensures)) c.loop-i.invariant.each;
    }

pub returns : goal.returns
returns c =
    let means = map meaning c.args.units.now in
    let all : length c.args.units.now ≡ c.loop-i.i = omega (arith, c.loop-i-test.false, c.loop-i.auto.i-end) in
    c.from_vec.ensures
    ∙ c.loop-i.invariant.each
    ∙ all_before means c.loop-i.i c.args.points.now (subst (λ n. AllByRecursion (λ (point : Point). point.at ≤ n) c.args.points.now) all c.requires.within)
