use Rattle.std.proofs.Common.{◌≡◌, length}
use Rattle.rk_log.specs.Left.{left}
use Rattle.rk_ldb.proofs.Dumping.{InBlock}
use Rattle.rk_ldb.proofs.items.write_block.Given as goal

-- the items that the feed gave so far have their lines in the output, and no write failed
abbrev pub invariant-loop-item : goal.invariant-loop-item
invariant-loop-item g l =
    InBlock (g.S.Sink.taken l.initial.out) (g.S.Sink.taken l.out) l.form l.initial.feed l.feed l.block l.last
    × (g.S.Sink.faults l.out ≡ g.S.Sink.faults l.initial.out)

abbrev pub decreases-loop-item : goal.decreases-loop-item
decreases-loop-item g l = length (left l.feed l.block).items
