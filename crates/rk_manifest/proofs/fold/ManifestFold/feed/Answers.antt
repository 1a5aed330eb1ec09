use Rattle.std.proofs.Common.{Ok, ap, ◌∙◌}
use Rattle.rk_manifest.proofs.FoldLemmas.{fed_over}
use Rattle.rk_manifest.proofs.fold.ManifestFold.feed.Goals as goal

pub returns-in-Ended-clause-fed : goal.returns-in-Ended-clause-fed
returns-in-Ended-clause-fed c = λ bytes fed. fed_over c.args.self.now bytes c.args.block.now c.args.last c.in-Ended.field-0 (c.in_ok-self.was ∙ ap Ok c.in-Ended.is) fed
