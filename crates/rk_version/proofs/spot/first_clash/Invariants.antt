use Rattle.std.proofs.Common.{◌≡◌, drop, map}
use Rattle.rk_version.specs.Spots.{file_at, first_clash}
use Rattle.rk_version.proofs.spot.first_clash.Given as goal

-- no file so far overlaps the next one
abbrev pub invariant-loop-i : goal.invariant-loop-i
invariant-loop-i l = first_clash (map file_at (drop l.i l.spots)) ≡ first_clash (map file_at l.spots)
