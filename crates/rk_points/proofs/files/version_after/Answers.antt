use Rattle.std.proofs.Common.{Ok, sym, ap, subst, ◌∙◌}
use Rattle.std.specs.List.{All}
use Rattle.rk_version.specs.declared.unit.Unit.{Unit as LentUnit}
use Rattle.rk_version.specs.Units.{meaning}
use Rattle.rk_points.proofs.ListLemmas.{Reads, own_unit, applied_more, all_applied}
use Rattle.rk_points.proofs.files.version_after.Goals as goal

pub loop-unit-preserved : goal.loop-unit-preserved
loop-unit-preserved c =
    let unit = c.unit-item.result in
    let reads = subst (λ (unit : LentUnit). All Reads unit.pieces) (sym c.unit-item.is) (c.requires c.loop-unit.unit-index unit c.loop-unit-test.true) in
    applied_more c.args.units.now c.loop-unit.unit-index unit c.loop-unit.builder c.apply.new.self _ c.loop-unit-test.true c.unit-item.is (c.in-Ok.ensures.applies (meaning unit) (own_unit unit reads)) c.loop-unit.invariant

pub returns : goal.returns
returns c = all_applied c.args.units.now c.loop-unit.unit-index c.loop-unit.builder _ c.loop-unit-test.false c.loop-unit.invariant ∙ ap Ok (sym c.into_version.ensures)
