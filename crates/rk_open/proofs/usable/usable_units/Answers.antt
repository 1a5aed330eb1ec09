use Rattle.std.proofs.Common.{◌≡◌, rules, sym, subst}
use Rattle.std.specs.Prelude.{IfOk}
use Rattle.std.specs.List.{All}
use Rattle.rk_version.specs.declared.unit.Unit.{Unit as LentUnit}
use Rattle.rk_version.specs.Units.{meaning}
use Rattle.rk_points.proofs.ListLemmas.{Reads, own_unit}
use Rattle.rk_open.proofs.UsableLemmas.{Applied, applied_none, applied_more, stopped_within, stopped_units, stopped_version}
use Rattle.rk_open.proofs.usable.usable_units.Goals as goal

pub loop-unit-init : goal.loop-unit-init
loop-unit-init c = record {
  count = search rules;
  applied = subst (Applied c.args.units.now 0) (sym c.in_ok-builder.ensures) (applied_none c.args.units.now);
}

pub loop-unit-preserved : goal.loop-unit-preserved
loop-unit-preserved c =
    let unit = c.unit-item.result in
    let reads = subst (λ (unit : LentUnit). All Reads unit.pieces) (sym c.unit-item.is) (c.requires c.loop-unit.unit-index unit c.loop-unit-test.true) in record {
      count = search rules;
      applied = applied_more c.args.units.now c.loop-unit.unit-index unit c.loop-unit.builder c.apply.new.self c.loop-unit-test.true c.unit-item.is (c.in-Ok.ensures.applies (meaning unit) (own_unit unit reads)) c.loop-unit.invariant.applied;
    }

pub returns-in-Err : goal.returns-in-Err
returns-in-Err c =
    let unit = c.unit-item.result in
    let reads = subst (λ (unit : LentUnit). All Reads unit.pieces) (sym c.unit-item.is) (c.requires c.loop-unit.unit-index unit c.loop-unit-test.true) in
    let (left, step) = c.in-Err.ensures.applies (meaning unit) (own_unit unit reads) in
    let result = c.stopped.result in
    let count = subst (λ n. IfOk result (λ front. front.count ≡ n)) c.loop-unit.invariant.count c.stopped.ensures.count in record {
      within = stopped_within c.args.units.now c.loop-unit.unit-index unit c.loop-unit.builder c.apply.new.self c.in-Err.why c.loop-unit-test.true c.unit-item.is left step c.loop-unit.invariant.applied result count;
      units = stopped_units c.args.units.now c.loop-unit.unit-index unit c.loop-unit.builder c.apply.new.self c.in-Err.why c.loop-unit-test.true c.unit-item.is left step c.loop-unit.invariant.applied result c.stopped.ensures.refused count;
      version = stopped_version c.args.units.now c.loop-unit.unit-index unit c.loop-unit.builder c.apply.new.self c.in-Err.why c.loop-unit-test.true c.unit-item.is left step c.loop-unit.invariant.applied result count c.stopped.ensures.version;
    }
