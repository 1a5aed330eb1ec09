use Rattle.std.proofs.Common.{◌≡◌, ◌++◌, map, drop}
use Rattle.rk_bytes.specs.Model.BestEfforts.{listed}
use Rattle.rk_version.specs.Units.{meaning}
use Rattle.rk_points.proofs.lists.listed.Given as goal

-- the files so far, and those of the units that are left
abbrev pub invariant-loop-unit : goal.invariant-loop-unit
invariant-loop-unit l = l.files ++ listed (map meaning (drop l.unit-index l.units)) ≡ listed (map meaning l.units)
