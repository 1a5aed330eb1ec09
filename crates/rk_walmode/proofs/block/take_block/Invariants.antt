use Rattle.std.proofs.Common.{length}
use Rattle.rk_log.specs.Left.{left}
use Rattle.rk_walmode.proofs.BlockLemmas.{InBlock}
use Rattle.rk_walmode.proofs.block.take_block.Given as goal

abbrev pub invariant-loop-item : goal.invariant-loop-item
invariant-loop-item l = InBlock l.initial.progress.mode l.initial.progress.version.now l.initial.feed l.initial.progress l.log l.block l.last l.feed l.progress

abbrev pub decreases-loop-item : goal.decreases-loop-item
decreases-loop-item l = length (left l.feed l.block).items
