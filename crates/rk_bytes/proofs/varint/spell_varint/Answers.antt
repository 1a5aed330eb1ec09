use Rattle.std.proofs.Common.{refl, arith}
use Rattle.rk_bytes.proofs.VarintWriting.{Spelled-start, Spelled-more, Spelled-whole}
use Rattle.rk_bytes.proofs.varint.spell_varint.Goals as goal

pub loop-left-init : goal.loop-left-init
loop-left-init c = Spelled-start _ _ refl (omega arith)

pub loop-left-preserved : goal.loop-left-preserved
loop-left-preserved c = Spelled-more _ _ _ _ (omega arith) c.loop-left.invariant

pub returns-clause-spelled : goal.returns-clause-spelled
returns-clause-spelled c = Spelled-whole _ _ _ _ (omega arith) c.loop-left.invariant
