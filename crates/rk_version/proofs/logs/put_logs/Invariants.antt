use Rattle.std.proofs.Common.{◌≡◌, drop}
use Rattle.rk_version.specs.Keyed.{put_all}
use Rattle.rk_version.specs.Places.{Rises}
use Rattle.rk_version.proofs.logs.put_logs.Given as goal

-- with the logs that are left, these are the first ones with all of them
abbrev pub invariant-loop-tracked : goal.invariant-loop-tracked
invariant-loop-tracked l =
    Rises (λ tracked. tracked.log) l.logs.items
    × (put_all (λ tracked. tracked.log) (drop l.tracked-index l.kept) l.logs.items ≡ put_all (λ tracked. tracked.log) l.kept l.fn.logs.items)
