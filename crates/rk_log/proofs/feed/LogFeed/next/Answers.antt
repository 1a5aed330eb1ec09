use Rattle.std.proofs.Common.{sym, ◌∙◌}
use Rattle.rk_log.proofs.FeedLemmas.{GivesItem-again, looked_at, Feeds-looked, GoesOn-blank}
use Rattle.rk_log.proofs.feed.LogFeed.next.Goals as goal

pub returns-in-Some : goal.returns-in-Some
returns-in-Some c = GivesItem-again c.args.self.now c.args.block.now c.args.last _ c.in-Some.ensures.0 c.in-Some.ensures.1

pub returns-in-Some-look_at : goal.returns-in-Some-look_at
returns-in-Some-look_at c =
    let look = c.look_at.ensures in
    Feeds-looked c.args.self.now c.look_at.new.self c.next_in.new.self c.args.block.now c.args.last c.next_in.result
    (looked_at c.args.self.now c.look_at.new.self c.args.block.now c.args.last c.requires.within c.requires.full look.recycled look.number look.before look.at look.joining)
    c.next_in.ensures

pub returns-in-None : goal.returns-in-None
returns-in-None c =
    let look = c.look_at.ensures in
    let none = sym look.result ∙ c.in-None.is in
    GoesOn-blank c.args.self.now c.look_at.new.self c.go_on.new.self c.args.block.now c.args.last c.requires.full c.in_default.ensures c.args.self.now.undecided
    (sym look.recycled ∙ none) none look.at
    (looked_at c.args.self.now c.look_at.new.self c.args.block.now c.args.last c.requires.within c.requires.full look.recycled look.number look.before look.at look.joining)
    c.go_on.ensures.number c.go_on.ensures.recycled c.go_on.ensures.before c.go_on.ensures.at c.go_on.ensures.joining
