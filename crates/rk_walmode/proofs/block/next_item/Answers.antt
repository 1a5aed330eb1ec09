use Rattle.std.proofs.Common.{Ok, sym, ◌∙◌, subst}
use Rattle.rk_log.specs.declared.item.FeedItem.{FeedItem}
use Rattle.rk_log.specs.Items.{item_of}
use Rattle.rk_log.specs.Steps.{Feeds}
use Rattle.rk_walmode.proofs.NextLemmas.{passes_end}
use Rattle.rk_walmode.proofs.block.next_item.Goals as goal

pub returns-then-is_file_end : goal.returns-then-is_file_end
returns-then-is_file_end c =
    let given = subst (λ (item : FeedItem). Feeds c.args.feed.now c.args.block.now c.args.last (Ok item) c.next.new.self) c.in-Ok-Item.field-0-is c.in-Ok-Item.ensures in
    passes_end c.args.feed.now c.next.new.self c.args.block.now c.args.last (item_of c.in-Ok-Item.item) given c.if-not-last.true (sym c.is_file_end.ensures ∙ c.if-is_file_end.true)
