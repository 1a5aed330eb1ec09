use Rattle.std.proofs.Common.{length}
use Rattle.rk_version.specs.Stated.{Continues}
use Rattle.rk_version.proofs.stated.Stated.of.Given as goal

-- what is kept, and the fields that are left, make what the edit states
abbrev pub invariant-loop-field : goal.invariant-loop-field
invariant-loop-field l = Continues l.stated l.view l.fn.view

abbrev pub decreases-loop-field : goal.decreases-loop-field
decreases-loop-field l = length l.view
