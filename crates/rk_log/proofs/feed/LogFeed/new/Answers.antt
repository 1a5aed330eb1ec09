use Rattle.std.proofs.Common.{refl}
use Rattle.rk_log.proofs.LeftLemmas.{left-new}
use Rattle.rk_log.proofs.feed.LogFeed.new.Goals as goal

pub returns-clause-left : goal.returns-clause-left
returns-clause-left c = λ bytes. left-new _ c.args.number bytes refl refl refl refl c.new.ensures.marks
