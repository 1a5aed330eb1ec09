use Rattle.rk_laws.proofs.Orders.{key_cmp-total, key_cmp-only_equal}
use Rattle.rk_laws.proofs.internal_key.key_order.Goals as goal

pub returns-clause-total : goal.returns-clause-total
returns-clause-total c = key_cmp-total

pub returns-clause-only_equal : goal.returns-clause-only_equal
returns-clause-only_equal c = key_cmp-only_equal
