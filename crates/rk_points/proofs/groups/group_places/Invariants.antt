use Rattle.std.proofs.Common.{◌≡◌, ◌+◌, ◌++◌, map, drop}
use Rattle.rk_bytes.specs.Model.BestEfforts.{group_places}
use Rattle.rk_version.specs.Units.{meaning}
use Rattle.rk_points.proofs.groups.group_places.Given as goal

-- the places so far, and those of the units that are left
abbrev pub invariant-loop-i : goal.invariant-loop-i
invariant-loop-i l = l.places ++ group_places (1 + l.i) (map meaning (drop l.i l.units)) ≡ group_places 1 (map meaning l.units)
