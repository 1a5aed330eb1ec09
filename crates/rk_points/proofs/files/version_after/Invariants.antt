use Rattle.std.proofs.Common.{◌≡◌, ◌+◌, map, drop}
use Rattle.rk_bytes.specs.Model.Manifest.{first_version, version_after}
use Rattle.rk_version.specs.Units.{meaning}
use Rattle.rk_points.proofs.files.version_after.Given as goal

-- what the units that are left make of the version so far is what all make of the first one
abbrev pub invariant-loop-unit : goal.invariant-loop-unit
invariant-loop-unit l = version_after (1 + l.unit-index) (map meaning (drop l.unit-index l.units)) l.builder ≡ version_after 1 (map meaning l.units) first_version
