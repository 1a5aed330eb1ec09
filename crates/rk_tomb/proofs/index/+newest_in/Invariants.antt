use Rattle.std.proofs.Common.{length}
use Rattle.rk_tomb.proofs.index.+newest_in.Given as goal

abbrev pub decreases-newest_in : goal.decreases-newest_in
decreases-newest_in l = length l.run.now
