use Rattle.std.proofs.Common.{sym, refl, ◌∙◌}
use Rattle.rk_walmode.specs.Founds.{finding_in}
use Rattle.rk_walmode.proofs.TakeLemmas.{takes_waiting, takes_going}
use Rattle.rk_walmode.proofs.progress.Progress.take.Goals as goal

pub returns-then-waits_at-clause-takes : goal.returns-then-waits_at-clause-takes
returns-then-waits_at-clause-takes c =
    takes_waiting c.args.self.now.mode c.args.self.now.version.now c.args.log c.args.self.now (finding_in c.args.found) (sym c.waits_at.ensures ∙ c.if-waits_at.true)

pub returns-clause-takes : goal.returns-clause-takes
returns-clause-takes c =
    takes_going c.args.self.now.mode c.args.self.now.version.now c.args.log c.args.self.now _ c.add.new.self (finding_in c.args.found) c.add.result (sym c.waits_at.ensures ∙ c.if-waits_at.false) refl refl refl c.add.ensures.adds
