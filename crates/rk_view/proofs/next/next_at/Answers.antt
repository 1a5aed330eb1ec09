use Rattle.std.proofs.Common.{map}
use Rattle.rk_view.proofs.NextLemmas.{next_found}
use Rattle.rk_view.proofs.next.next_at.Goals as goal

pub returns-clause-next : goal.returns-clause-next
returns-clause-next g c =
    next_found c.args.family c.args.key.now c.args.below (map g.S.Source.left c.args.sources.now) (map g.S.Source.left c.skip.new.sources) c.requires c.in_ok-skip.ensures.ok c.least_at.result c.least_at.ensures
