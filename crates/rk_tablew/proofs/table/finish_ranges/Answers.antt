use Rattle.std.proofs.Common.{arith}
use Rattle.rk_tablew.proofs.TableLemmas.{RangesDone-none, RangesDone-some}
use Rattle.rk_tablew.proofs.table.finish_ranges.Goals as goal

pub returns-then-count-eq0 : goal.returns-then-count-eq0
returns-then-count-eq0 c = RangesDone-none c.args.ranges c.args.count c.if-count-eq0.true

pub returns : goal.returns
returns c = RangesDone-some c.args.ranges c.args.count c.in_ok-block.block (omega (arith, c.if-count-eq0.false)) c.in_ok-block.ensures.block
