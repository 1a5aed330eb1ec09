use Rattle.std.proofs.Common.{◌≡◌, ◌+◌, Ok, List, map, length}
use Rattle.rk_bytes.specs.Model.Manifest.{ManifestUnit, version_at}
use Rattle.rk_points.specs.Lists.{files_before}
use Rattle.rk_points.proofs.AtLemmas.{partly}
use Rattle.rk_points.proofs.at_points.fill_at.Given as goal

-- the points so far have their files, and the others what they had
abbrev pub invariant-loop-i : goal.invariant-loop-i
invariant-loop-i l = record {
  count : length l.each.items ≡ length l.points;
  filled : (units : List ManifestUnit) → version_at units l.at ≡ Ok l.version → l.initial.each.items ≡ map (files_before units l.at) l.points
      → l.each.items ≡ partly (files_before units (l.at + 1)) (files_before units l.at) l.i l.points;
}
