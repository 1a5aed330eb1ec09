use Rattle.std.proofs.Common.{◌≡◌, ◌≤◌, drop}
use Rattle.rk_bytes.specs.Model.Manifest.{Units as StatedUnits, last_version as last_of_units}
use Rattle.rk_manifest.specs.Units.{AreUnits}
use Rattle.rk_manifest.specs.Last.{last_after}
use Rattle.rk_manifest.proofs.last.last_version.Given as goal

-- the units so far are applied, and the others lead to the last version
abbrev pub invariant-loop-unit : goal.invariant-loop-unit
invariant-loop-unit l =
    (l.applied.count ≤ l.unit-index)
    × ((means : StatedUnits) → AreUnits l.units means → last_of_units means ≡ last_after l.applied (drop l.unit-index means.units) means.fault)
