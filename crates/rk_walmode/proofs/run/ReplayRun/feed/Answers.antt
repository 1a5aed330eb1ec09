use Rattle.std.proofs.Common.{◌∙◌}
use Rattle.rk_walmode.specs.Fed.{with_block}
use Rattle.rk_walmode.specs.Runs.{version_of, mode_of}
use Rattle.rk_walmode.specs.Parts.{opened}
use Rattle.rk_walmode.proofs.RunLemmas.{fed_call, call_so_far, call_refused}
use Rattle.rk_walmode.proofs.run.ReplayRun.feed.Goals as goal

pub returns-clause-fed : goal.returns-clause-fed
returns-clause-fed c = λ fed h.
    fed_call c.end_if.new.self fed c.args.log c.args.block.now c.args.last (c.end_if.ensures.fed fed.whole _ (c.read.ensures.fed fed.whole (opened fed.begun c.args.log) (c.begin.ensures.fed fed h)))

pub returns-clause-refused : goal.returns-clause-refused
returns-clause-refused c = λ fed h.
    call_refused c.end_if.new.self (with_block fed c.args.log c.args.block.now c.args.last) (mode_of c.args.self.now) (version_of c.args.self.now)
    (c.end_if.ensures.mode ∙ c.read.ensures.mode ∙ c.begin.ensures.mode) (c.end_if.ensures.version ∙ c.read.ensures.version ∙ c.begin.ensures.version)
    (fed_call c.end_if.new.self fed c.args.log c.args.block.now c.args.last (c.end_if.ensures.fed fed.whole _ (c.read.ensures.fed fed.whole (opened fed.begun c.args.log) (c.begin.ensures.fed fed h))))

pub returns-clause-so_far : goal.returns-clause-so_far
returns-clause-so_far c = λ fed h.
    call_so_far c.end_if.new.self (with_block fed c.args.log c.args.block.now c.args.last) (mode_of c.args.self.now) (version_of c.args.self.now)
    (c.end_if.ensures.mode ∙ c.read.ensures.mode ∙ c.begin.ensures.mode) (c.end_if.ensures.version ∙ c.read.ensures.version ∙ c.begin.ensures.version)
    (fed_call c.end_if.new.self fed c.args.log c.args.block.now c.args.last (c.end_if.ensures.fed fed.whole _ (c.read.ensures.fed fed.whole (opened fed.begun c.args.log) (c.begin.ensures.fed fed h))))
