use Rattle.rk_laws.proofs.Orders.{slot_cmp-total, slot_cmp-only_equal}
use Rattle.rk_laws.proofs.records.slot_order.Goals as goal

pub returns-clause-total : goal.returns-clause-total
returns-clause-total c = slot_cmp-total

pub returns-clause-only_equal : goal.returns-clause-only_equal
returns-clause-only_equal c = slot_cmp-only_equal
