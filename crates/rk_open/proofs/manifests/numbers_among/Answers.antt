use Rattle.std.proofs.Common.{rules}
use Rattle.rk_open.proofs.BestLemmas.{manifests_more}
use Rattle.rk_open.proofs.manifests.numbers_among.Goals as goal

pub loop-name-preserved : goal.loop-name-preserved
loop-name-preserved c =
    manifests_more c.args.names.now c.loop-name.name-index c.name-item.result c.loop-name.numbers.items c.push_number.new.numbers.items c.name-item.is c.loop-name-test.true c.loop-name.invariant (search rules)
