use Rattle.std.proofs.Common.{◌≡◌, drop}
use Rattle.rk_version.specs.Keyed.{without_all}
use Rattle.rk_version.specs.Places.{Rises}
use Rattle.rk_version.proofs.logs.logs_before.Given as goal

-- without the logs that are left, these are the first ones without all of them
abbrev pub invariant-loop-log : goal.invariant-loop-log
invariant-loop-log l =
    Rises (λ tracked. tracked.log) l.logs.items
    × (without_all (λ tracked. tracked.log) (drop l.log-index l.tracks) l.logs.items ≡ without_all (λ tracked. tracked.log) l.tracks l.fn.logs)
