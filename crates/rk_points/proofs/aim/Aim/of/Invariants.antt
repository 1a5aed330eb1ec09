use Rattle.std.proofs.Common.{length}
use Rattle.rk_points.specs.Aims.{Continues}
use Rattle.rk_points.proofs.aim.Aim.of.Given as goal

-- what is known, and the fields that are left, make what the edit says
abbrev pub invariant-loop-field : goal.invariant-loop-field
invariant-loop-field l = Continues l.aim l.view l.fn.view

abbrev pub decreases-loop-field : goal.decreases-loop-field
decreases-loop-field l = length l.view
