use Rattle.std.proofs.Common.{◌≡◌, length, max}
use Rattle.rk_version.specs.Keeping.{least_kept}
use Rattle.rk_version.proofs.logs.least_kept.Given as goal

-- the greatest number so far, and that of the fields that are left
abbrev pub invariant-loop-field : goal.invariant-loop-field
invariant-loop-field l = max l.least (least_kept l.view) ≡ least_kept l.fn.view

abbrev pub decreases-loop-field : goal.decreases-loop-field
decreases-loop-field l = length l.view
