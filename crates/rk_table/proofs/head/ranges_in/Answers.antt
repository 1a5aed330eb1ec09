use Rattle.std.proofs.Common.{arith}
use Rattle.rk_table.proofs.Callers.KeyBytes.{are_bytes}
use Rattle.rk_table.proofs.RangeLemmas.{told_below_top}
use Rattle.rk_table.proofs.head.ranges_in.Goals as goal

pub returns-in-Ok-clause-top : goal.returns-in-Ok-clause-top
returns-in-Ok-clause-top c = told_below_top c.args.block.now c.read_ranges.result c.in-Ok.ranges (are_bytes c.args.block.now (λ i. let fits = c.type_inv.block i in omega arith)) c.read_ranges.ensures c.in-Ok.is
