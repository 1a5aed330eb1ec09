use Rattle.std.proofs.Common.{◌≡◌, ◌+◌, Ok, map}
use Rattle.rk_bytes.specs.Model.Manifest.{version_at}
use Rattle.rk_version.specs.Units.{meaning}
use Rattle.rk_points.specs.Lists.{files_before}
use Rattle.rk_points.proofs.at_points.files_at_points.Given as goal

-- the units so far are applied, and the files of the points there and before are in their places
abbrev pub invariant-loop-i : goal.invariant-loop-i
invariant-loop-i l = record {
  applied : version_at (map meaning l.units) l.i ≡ Ok l.builder;
  each : l.each.items ≡ map (files_before (map meaning l.units) (l.i + 1)) l.points;
}
