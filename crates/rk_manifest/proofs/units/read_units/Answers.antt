use Rattle.std.proofs.Common.{Ok, subst}
use Rattle.rk_bytes.specs.Model.Manifest.{manifest_units}
use Rattle.rk_log.specs.Items.{item_of}
use Rattle.rk_manifest.specs.declared.reading.Reading.{Reading}
use Rattle.rk_manifest.specs.Units.{AreUnits}
use Rattle.rk_manifest.specs.Partings.{PartsInto, Parts}
use Rattle.rk_manifest.proofs.BlockLemmas.{first_item}
use Rattle.rk_manifest.proofs.UnitLemmas.{all_read}
use Rattle.rk_manifest.proofs.units.read_units.Goals as goal
use Rattle.rk_manifest.proofs.units.read_units.Goals.{Joined-reader-5}

-- the units and the fault are those of the manifest
are_units : (c : Joined-reader-5) → AreUnits (record { units = c.take.new.self.units; fault = c.in-Ended.fault }) (manifest_units c.args.bytes.now)
are_units c =
    let old = c.loop-parting.parting in
    let item = item_of c.in_ok-item.item in
    let all = manifest_units c.args.bytes.now in
    let ended = subst (λ (reading : Reading). Parts old item (Ok reading) c.take.new.self) c.in-Ended.is c.in_ok-fault.ensures.parts in
    let given = first_item c.loop-parting.reader c.next.new.self item c.in_ok-item.ensures in
    ended given.0 all (subst (λ items. PartsInto old items all) given.1 c.loop-parting.invariant)

pub returns-in-Ended-clause-units : goal.returns-in-Ended-clause-units
returns-in-Ended-clause-units c = are_units c

pub returns-in-Ended-clause-read : goal.returns-in-Ended-clause-read
returns-in-Ended-clause-read c = all_read _ _ (are_units c)
