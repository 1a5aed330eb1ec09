use Rattle.std.proofs.Common.{◌≡◌, take}
use Rattle.rk_version.proofs.rankings.copy_rankings.Given as goal

-- the rankings so far are copied
abbrev pub invariant-loop-ranking : goal.invariant-loop-ranking
invariant-loop-ranking l = l.copies ≡ take l.ranking-index l.rankings
