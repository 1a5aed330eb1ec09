use Rattle.rk_bytes.proofs.VarintWriting.{Spelled}
use Rattle.rk_bytes.proofs.varint.spell_varint.Given as goal

abbrev pub invariant-loop-left : goal.invariant-loop-left
invariant-loop-left l = Spelled l.value l.len l.left l.bytes

abbrev pub decreases-loop-left : goal.decreases-loop-left
decreases-loop-left l = l.left
