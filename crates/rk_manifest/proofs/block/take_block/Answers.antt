use Rattle.std.proofs.Common.{Ok, subst}
use Rattle.rk_log.specs.declared.item.FeedItem.{FeedItem}
use Rattle.rk_log.specs.Items.{item_of}
use Rattle.rk_log.specs.Steps.{Feeds}
use Rattle.rk_manifest.specs.declared.reading.Reading.{Reading}
use Rattle.rk_manifest.specs.Outcomes.{TakesItem}
use Rattle.rk_manifest.proofs.BlockLemmas.{counts_one, InBlock-more, InBlock-ended, fewer_left}
use Rattle.rk_manifest.proofs.block.take_block.Goals as goal

pub take-requires : goal.take-requires
take-requires c =
    let given = subst (λ (item : FeedItem). Feeds c.loop-item.feed c.args.block.now c.args.last (Ok item) c.next.new.self) c.in-Item.is c.in_ok-item.ensures in
    counts_one c.args.feed.now c.loop-item.feed c.next.new.self c.args.progress.now c.loop-item.progress c.args.block.now c.args.last (item_of c.in-Item.item) _ c.loop-item.invariant given c.requires.fits

pub returns-in-Ended-clause-taken : goal.returns-in-Ended-clause-taken
returns-in-Ended-clause-taken c =
    let given = subst (λ (item : FeedItem). Feeds c.loop-item.feed c.args.block.now c.args.last (Ok item) c.next.new.self) c.in-Item.is c.in_ok-item.ensures in
    let taken = subst (λ (reading : Reading). TakesItem c.loop-item.progress (item_of c.in-Item.item) (Ok reading) c.take.new.self) c.in-Ended.is c.in_ok-fault-in-Item.ensures.outcome in
    InBlock-ended c.args.feed.now c.loop-item.feed c.next.new.self c.args.progress.now c.loop-item.progress c.take.new.self c.args.block.now c.args.last (item_of c.in-Item.item) c.in-Ended.fault c.loop-item.invariant given taken

pub loop-item-smaller : goal.loop-item-smaller
loop-item-smaller c =
    let given = subst (λ (item : FeedItem). Feeds c.loop-item.feed c.args.block.now c.args.last (Ok item) c.next.new.self) c.in-Item.is c.in_ok-item.ensures in
    fewer_left c.loop-item.feed c.next.new.self c.args.block.now c.args.last (item_of c.in-Item.item) given (c.in_ok-fault-in-Item.ensures.more c.in_default.is)

pub loop-item-preserved : goal.loop-item-preserved
loop-item-preserved c =
    let given = subst (λ (item : FeedItem). Feeds c.loop-item.feed c.args.block.now c.args.last (Ok item) c.next.new.self) c.in-Item.is c.in_ok-item.ensures in
    let taken = subst (λ (reading : Reading). TakesItem c.loop-item.progress (item_of c.in-Item.item) (Ok reading) c.take.new.self) c.in_default.is c.in_ok-fault-in-Item.ensures.outcome in
    InBlock-more c.args.feed.now c.loop-item.feed c.next.new.self c.args.progress.now c.loop-item.progress c.take.new.self c.args.block.now c.args.last (item_of c.in-Item.item) c.loop-item.invariant given
    (c.in_ok-fault-in-Item.ensures.more c.in_default.is) taken c.in_ok-fault-in-Item.ensures.count
