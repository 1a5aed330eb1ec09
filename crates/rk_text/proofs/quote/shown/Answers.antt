use Rattle.rk_text.proofs.Shown.{shown_alone, shown_escaped}
use Rattle.rk_text.proofs.quote.shown.Goals as goal

pub returns-then-text-eq0-clause-shown : goal.returns-then-text-eq0-clause-shown
returns-then-text-eq0-clause-shown c = shown_alone c.args.byte c.ranges.byte.fits c.if-text-eq0.true

pub returns-else-text-eq0-clause-shown : goal.returns-else-text-eq0-clause-shown
returns-else-text-eq0-clause-shown c = shown_escaped c.args.byte c.ranges.byte.fits c.if-text-eq0.false
