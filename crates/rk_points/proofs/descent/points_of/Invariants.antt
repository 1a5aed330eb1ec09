use Rattle.std.proofs.Common.{◌≡◌, take}
use Rattle.rk_points.specs.Descents.{points_of}
use Rattle.rk_points.proofs.descent.points_of.Given as goal

abbrev pub invariant-loop-stand : goal.invariant-loop-stand
invariant-loop-stand l = l.points ≡ points_of (take l.stand-index l.stands)
