use Rattle.std.proofs.Common.{◌≡◌, take, map}
use Rattle.std.specs.List.{All}
use Rattle.rk_version.specs.Spots.{file_at, IsSpot}
use Rattle.rk_version.proofs.overlap.overlapping_level.Given as goal

-- the files so far have their places
abbrev pub invariant-loop-file : goal.invariant-loop-file
invariant-loop-file l = (map file_at l.spots.items ≡ take l.file-index l.files) × All IsSpot l.spots.items
