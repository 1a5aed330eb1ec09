use Rattle.rk_laws.proofs.NumberOrder.{in_order-same, in_order-rises}
use Rattle.rk_laws.proofs.opening.things_in_order.Goals as goal

pub returns : goal.returns
returns c = record { same = in_order-same; same_tables = in_order-same; rising = in_order-rises; rising_tables = in_order-rises }
