use Rattle.std.proofs.Common.{◌≡◌, take, map, fold, min}
use Rattle.rk_version.proofs.least.first_log.Given as goal

-- the least log number of the families so far
abbrev pub invariant-loop-live : goal.invariant-loop-live
invariant-loop-live l = l.least ≡ fold min l.initial.least (map (λ live. live.log) (take l.live-index l.rest))
