use Rattle.rk_version.proofs.EditBack.{led_back}
use Rattle.rk_version.proofs.undo.apply_and_keep.Goals as goal

pub returns-in_ok-next-in-Ok : goal.returns-in_ok-next-in-Ok
returns-in_ok-next-in-Ok c = (c.in_ok-next-in-Ok.ensures, led_back c.in-Ok.kept c.args.view c.args.draft c.in_ok-next-in-Ok.next c.in-Ok.ensures c.show_order.ensures c.show_order-in-Ok.ensures c.in_ok-next-in-Ok.ensures)
