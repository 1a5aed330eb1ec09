use Rattle.std.proofs.Common.{subst}
use Rattle.rk_version.specs.Bounds.{IsInOrder}
use Rattle.rk_version.proofs.draft.Draft.show_order.Goals as goal

pub returns : goal.returns
returns c = subst IsInOrder c.self.view_is c.self.invariant.order
