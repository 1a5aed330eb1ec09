use Rattle.std.proofs.Common.{◌≡◌, length}
use Rattle.rk_bytes.specs.Model.Manifest.{tracked_after}
use Rattle.rk_version.specs.Places.{Rises}
use Rattle.rk_version.proofs.logs.tracked_after.Given as goal

-- the fields that are left make of these logs what all fields make of the first ones
abbrev pub invariant-loop-field : goal.invariant-loop-field
invariant-loop-field l = Rises (λ tracked. tracked.log) l.logs.items × (tracked_after l.view l.logs.items ≡ tracked_after l.fn.view l.fn.logs)

abbrev pub decreases-loop-field : goal.decreases-loop-field
decreases-loop-field l = length l.view
