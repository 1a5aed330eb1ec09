use Rattle.std.proofs.Common.{arith}
use Rattle.rk_ldb.proofs.CountLemmas.{more_files}
use Rattle.rk_ldb.proofs.check.file_count.Goals as goal

pub loop-line-preserved : goal.loop-line-preserved
loop-line-preserved c = (
  more_files c.args.families.now c.loop-line.line-index c.loop-line.count c.saturating_add-count.result c.line-item.result c.loop-line-test.true c.line-item.is c.loop-line.invariant.0 c.saturating_add-count.ensures,
  omega (arith, c.loop-line-test.true),
)
