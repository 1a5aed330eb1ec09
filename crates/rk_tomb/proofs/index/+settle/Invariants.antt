use Rattle.std.proofs.Common.{length}
use Rattle.rk_tomb.proofs.index.+settle.Given as goal

abbrev pub decreases-settle : goal.decreases-settle
decreases-settle l = length l.nodes.now
