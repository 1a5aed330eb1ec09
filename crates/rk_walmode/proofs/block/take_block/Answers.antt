use Rattle.std.proofs.Common.{Option, Result, Ok, Err, subst, sym, ap, ◌∙◌}
use Rattle.std.proofs.lemmas.Result.{err_from_is_err_and}
use Rattle.rk_bytes.specs.declared.model.wal.WalErr.{WalErr}
use Rattle.rk_bytes.specs.Model.Replay.{finding}
use Rattle.rk_log.specs.declared.item.Item.{Item}
use Rattle.rk_log.specs.Items.{item_of}
use Rattle.rk_walmode.specs.declared.progress.Reading.{Reading}
use Rattle.rk_walmode.specs.Founds.{Takes}
use Rattle.rk_walmode.specs.Blocks.{GivesNext, TakesBlock}
use Rattle.rk_walmode.proofs.BlockLemmas.{InBlock-more, more_from, fewer_left, block_over, block_refused, block_passed}
use Rattle.rk_walmode.proofs.block.take_block.Goals as goal

pub returns-in_default-clause-taken : goal.returns-in_default-clause-taken
returns-in_default-clause-taken c =
    let given = subst (λ (item : Option Item). GivesNext c.loop-item.feed c.args.block.now c.args.last (Ok item) c.next_item.new.feed) c.in_default.is c.in_ok-item.ensures in
    block_passed c.args.progress.now.mode c.args.progress.now.version.now c.args.feed.now c.loop-item.feed c.next_item.new.feed c.args.progress.now c.loop-item.progress c.args.log c.args.block.now c.args.last c.loop-item.invariant given

pub returns-in_err-take_item-clause-taken : goal.returns-in_err-take_item-clause-taken
returns-in_err-take_item-clause-taken c =
    let progress = c.args.progress.now in
    let given = subst (λ (item : Option Item). GivesNext c.loop-item.feed c.args.block.now c.args.last (Ok item) c.next_item.new.feed) c.in-Some.is c.in_ok-item.ensures in
    let told = err_from_is_err_and c.from_residual-in_err-take_item.result c.from_residual-in_err-take_item.ensures.1 in
    let taken = block_refused progress.mode progress.version.now c.args.feed.now c.loop-item.feed c.next_item.new.feed progress c.loop-item.progress c.take_item.new.progress c.args.log c.args.block.now c.args.last (item_of c.in-Some.item) c.in_err-take_item.field-0.0 c.loop-item.invariant given.0 given.1 c.in_err-take_item.ensures.takes in
    subst (λ (result : Result Reading WalErr). TakesBlock progress.mode progress.version.now c.args.feed.now progress c.args.log c.args.block.now c.args.last result c.next_item.new.feed c.take_item.new.progress) (sym (told.1 ∙ ap Err told.2)) taken

pub returns-in-Ended-clause-taken : goal.returns-in-Ended-clause-taken
returns-in-Ended-clause-taken c =
    let progress = c.args.progress.now in
    let given = subst (λ (item : Option Item). GivesNext c.loop-item.feed c.args.block.now c.args.last (Ok item) c.next_item.new.feed) c.in-Some.is c.in_ok-item.ensures in
    let takes = subst (λ (reading : Reading). Takes c.loop-item.progress.mode c.loop-item.progress.version.now c.loop-item.progress c.args.log (finding (item_of c.in-Some.item)) (Ok reading) c.take_item.new.progress) c.in-Ended.is c.in_ok-take_item.ensures.takes in
    block_over progress.mode progress.version.now c.args.feed.now c.loop-item.feed c.next_item.new.feed progress c.loop-item.progress c.take_item.new.progress c.args.log c.args.block.now c.args.last (item_of c.in-Some.item) c.loop-item.invariant given.0 given.1 takes

pub loop-item-smaller : goal.loop-item-smaller
loop-item-smaller c =
    let given = subst (λ (item : Option Item). GivesNext c.loop-item.feed c.args.block.now c.args.last (Ok item) c.next_item.new.feed) c.in-Some.is c.in_ok-item.ensures in
    let takes = subst (λ (reading : Reading). Takes c.loop-item.progress.mode c.loop-item.progress.version.now c.loop-item.progress c.args.log (finding (item_of c.in-Some.item)) (Ok reading) c.take_item.new.progress) c.in_default-2.is c.in_ok-take_item.ensures.takes in
    fewer_left c.loop-item.feed c.next_item.new.feed c.args.block.now c.args.last (item_of c.in-Some.item) given.0 (more_from c.loop-item.progress.mode c.loop-item.progress.version.now c.loop-item.progress c.take_item.new.progress c.args.log (item_of c.in-Some.item) takes)

pub loop-item-preserved : goal.loop-item-preserved
loop-item-preserved c =
    let progress = c.args.progress.now in
    let given = subst (λ (item : Option Item). GivesNext c.loop-item.feed c.args.block.now c.args.last (Ok item) c.next_item.new.feed) c.in-Some.is c.in_ok-item.ensures in
    let takes = subst (λ (reading : Reading). Takes c.loop-item.progress.mode c.loop-item.progress.version.now c.loop-item.progress c.args.log (finding (item_of c.in-Some.item)) (Ok reading) c.take_item.new.progress) c.in_default-2.is c.in_ok-take_item.ensures.takes in
    InBlock-more progress.mode progress.version.now c.args.feed.now c.loop-item.feed c.next_item.new.feed progress c.loop-item.progress c.take_item.new.progress c.args.log c.args.block.now c.args.last (item_of c.in-Some.item) c.loop-item.invariant given.0 given.1 takes c.take_item.ensures.mode c.take_item.ensures.version
