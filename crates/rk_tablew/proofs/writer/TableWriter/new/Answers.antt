use Rattle.rk_tablew.proofs.OrderLemmas.{AreInOrder-new}
use Rattle.rk_tablew.proofs.WritingLemmas.{IsWriting-new}
use Rattle.rk_tablew.proofs.writer.TableWriter.new.Goals as goal

pub invariant_of-result : goal.invariant_of-result
invariant_of-result c = λ fine. (
  IsWriting-new c.new-6.result.items c.new-7.result.items c.new.result c.new-2.result c.new-3.result c.new-4.result c.new-6.ensures c.new-7.ensures c.new.ensures c.new-2.ensures.empty c.new-2.ensures.small c.new-3.ensures.empty c.new-4.ensures.empty c.new-4.ensures.small,
  AreInOrder-new c.new-6.result.items c.new-7.result.items c.new-6.ensures c.new-7.ensures,
)
