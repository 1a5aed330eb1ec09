use Rattle.std.proofs.Common.{◌-◌, length}
use Rattle.rk_log.proofs.FeedLemmas.{InBlock}
use Rattle.rk_log.proofs.feed.LogFeed.next_in.Given as goal

abbrev pub invariant-loop-mark : goal.invariant-loop-mark
invariant-loop-mark l = InBlock l.initial.self l.self l.recycled l.block

abbrev pub decreases-loop-mark : goal.decreases-loop-mark
decreases-loop-mark l = length l.block - l.self.at
