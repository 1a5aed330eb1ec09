use Rattle.std.proofs.Common.{refl}
use Rattle.rk_walmode.proofs.RunLemmas.{fed_end}
use Rattle.rk_walmode.proofs.run.ReplayRun.end_if.Goals as goal

pub returns-then-last-clause-fed : goal.returns-then-last-clause-fed
returns-then-last-clause-fed c = λ whole log h. fed_end c.args.self.now _ c.args.last whole log c.if-last.true h refl refl refl
