use Rattle.std.proofs.Common.{map, Ok, ◌≡◌, length}
use Rattle.rk_bytes.specs.declared.model.manifest.Version.{Version}
use Rattle.rk_bytes.specs.Model.Manifest.{version_at}
use Rattle.rk_version.specs.Units.{meaning}
use Rattle.rk_points.proofs.FollowLemmas.{Standing}
use Rattle.rk_points.proofs.walk.follow.Given as goal

-- the walk is at the version after the units so far
abbrev pub invariant-loop-i : goal.invariant-loop-i
invariant-loop-i l = (last : Version) → version_at (map meaning l.units) (length l.units) ≡ Ok last → Standing (map meaning l.units) l.whole last l.i l.walk
