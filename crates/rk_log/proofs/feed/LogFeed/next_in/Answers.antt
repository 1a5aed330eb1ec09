use Rattle.std.proofs.Common.{◌+◌, Ok, sym, subst, refl}
use Rattle.std.proofs.lemmas.Result.{err_from_is_err_and}
use Rattle.rk_log.specs.Items.{item_of}
use Rattle.rk_log.specs.Fragments.{mark_at}
use Rattle.rk_log.specs.Steps.{Feeds, Advances}
use Rattle.rk_log.proofs.FeedLemmas.{InBlock-passes, GivesItem-found, Waits-found, GivesItem-end, GoesOn-none}
use Rattle.rk_log.proofs.feed.LogFeed.next_in.Goals as goal

pub returns-in_err-item : goal.returns-in_err-item
returns-in_err-item c =
    let now = c.loop-mark.self in
    let stopped = err_from_is_err_and c.from_residual.result c.from_residual.ensures.1 in
    subst (λ result. Feeds c.args.self.now c.args.block.now c.args.last result c.advance.new.self) (sym stopped.1)
    (Waits-found c.args.self.now now c.advance.new.self c.args.recycled c.args.last c.args.block.now (mark_at (now.before + now.at) c.in-Some.mark) c.in-Some.len c.in_err-item.field-0.0
    c.requires.recycled c.requires.within c.requires.full c.loop-mark.invariant c.in-Some.ensures.2 c.in_err-item.ensures)

pub returns-in-Some-2 : goal.returns-in-Some-2
returns-in-Some-2 c =
    let now = c.loop-mark.self in
    let mark = mark_at (now.before + now.at) c.in-Some.mark in
    GivesItem-found c.args.self.now now c.advance.new.self c.args.recycled c.args.last c.args.block.now mark c.in-Some.len c.in-Some-2.item
    c.requires.recycled c.requires.within c.requires.full c.loop-mark.invariant c.in-Some.ensures.2
    (subst (λ one. Advances now mark c.in-Some.len (Ok one) c.advance.new.self) c.in-Some-2.is c.in_ok-item.ensures)

pub loop-mark-preserved : goal.loop-mark-preserved
loop-mark-preserved c =
    let now = c.loop-mark.self in
    let mark = mark_at (now.before + now.at) c.in-Some.mark in
    InBlock-passes c.args.self.now now c.advance.new.self c.args.recycled c.args.block.now mark c.in-Some.len c.loop-mark.invariant c.in-Some.ensures.2
    (subst (λ one. Advances now mark c.in-Some.len (Ok one) c.advance.new.self) c.in_default-2.is c.in_ok-item.ensures)

pub returns-then-last : goal.returns-then-last
returns-then-last c =
    GivesItem-end c.args.self.now c.loop-mark.self _ c.args.recycled c.args.last c.args.block.now (item_of c.finish.result)
    c.requires.recycled c.requires.within c.if-last.true c.loop-mark.invariant c.in_default.ensures (record { number = refl; recycled = refl; before = refl }) refl
    c.finish.ensures.left c.finish.ensures.given c.finish.ensures.ends

pub returns : goal.returns
returns c =
    GoesOn-none c.args.self.now c.loop-mark.self c.go_on.new.self c.args.recycled c.args.last c.args.block.now
    c.requires.recycled c.requires.goes_on (c.requires.full c.if-last.false) c.if-last.false c.loop-mark.invariant c.in_default.ensures
    c.go_on.ensures.number c.go_on.ensures.recycled c.go_on.ensures.before c.go_on.ensures.at c.go_on.ensures.joining
