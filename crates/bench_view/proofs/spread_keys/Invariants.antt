use Rattle.std.proofs.Common.{length}
use Rattle.bench_view.proofs.spread_keys.Given as goal

abbrev pub invariant-loop-keys : goal.invariant-loop-keys
invariant-loop-keys l = Unit

-- the rows that are left
abbrev pub decreases-loop-keys : goal.decreases-loop-keys
decreases-loop-keys l = length l.walk
