use Rattle.std.proofs.Common.{◌≡◌, ◌++◌, drop}
use Rattle.rk_version.specs.Keyed.{found_all}
use Rattle.rk_version.proofs.logs.keep_logs.Given as goal

-- the logs so far, and those of the numbers that are left
abbrev pub invariant-loop-log : goal.invariant-loop-log
invariant-loop-log l = l.kept ++ found_all (λ tracked. tracked.log) l.logs (drop l.log-index l.tracks) ≡ l.initial.kept ++ found_all (λ tracked. tracked.log) l.logs l.tracks
