use Rattle.std.proofs.Common.{length}
use Rattle.rk_tomb.proofs.index.+summarize.Given as goal

abbrev pub decreases-summarize : goal.decreases-summarize
decreases-summarize l = length l.run.now
