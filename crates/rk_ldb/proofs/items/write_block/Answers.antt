use Rattle.std.proofs.Common.{Ok, Err, sym, ap, ◌∙◌, subst}
use Rattle.std.proofs.lemmas.Result.{err_from_is_err_and}
use Rattle.rk_log.specs.Items.{item_of}
use Rattle.rk_log.specs.Steps.{Feeds}
use Rattle.rk_ldb.specs.Wrote.{WritesBlock}
use Rattle.rk_ldb.proofs.Dumping.{InBlock-more, InBlock-end, InBlock-stopped, InBlock-no_memory, InBlock-goes_on, fewer_left}
use Rattle.rk_ldb.proofs.items.write_block.Goals as goal

pub returns-in_err-item-clause-lines : goal.returns-in_err-item-clause-lines
returns-in_err-item-clause-lines g c =
    let before = g.S.Sink.taken c.args.out.now in
    let now = g.S.Sink.taken c.loop-item.out in
    let stopped = err_from_is_err_and c.from_residual.result c.from_residual.ensures.1 in
    subst (λ result. WritesBlock before now c.args.form c.args.feed.now c.args.block.now c.args.last result c.next.new.self) (sym stopped.1)
    (InBlock-no_memory before now c.args.form c.args.feed.now c.loop-item.feed c.next.new.self c.args.block.now c.args.last _ stopped.2 c.loop-item.invariant.0)

pub returns-in_err-write_item-in-Item-clause-lines : goal.returns-in_err-write_item-in-Item-clause-lines
returns-in_err-write_item-in-Item-clause-lines g c =
    let before = g.S.Sink.taken c.args.out.now in
    let now = g.S.Sink.taken c.write_item.new.out in
    let given = subst (λ item. Feeds c.loop-item.feed c.args.block.now c.args.last (Ok item) c.next.new.self) c.in-Item.is c.in_ok-item.ensures in
    let stopped = err_from_is_err_and c.from_residual-in_err-write_item-in-Item.result c.from_residual-in_err-write_item-in-Item.ensures.1 in
    subst (λ result. WritesBlock before now c.args.form c.args.feed.now c.args.block.now c.args.last result c.next.new.self) (sym (stopped.1 ∙ ap Err stopped.2))
    (InBlock-stopped before (g.S.Sink.taken c.loop-item.out) now c.args.form c.args.feed.now c.loop-item.feed c.next.new.self c.args.block.now c.args.last (item_of c.in-Item.item) c.in_err-write_item-in-Item.field-0.0
    c.loop-item.invariant.0 given c.in_err-write_item-in-Item.ensures.lines)

pub returns-then-branch-clause-lines : goal.returns-then-branch-clause-lines
returns-then-branch-clause-lines g c =
    let given = subst (λ item. Feeds c.loop-item.feed c.args.block.now c.args.last (Ok item) c.next.new.self) c.in-Item.is c.in_ok-item.ensures in
    let wrote = c.in_ok-write_item-in-Item.ensures in
    InBlock-end (g.S.Sink.taken c.args.out.now) (g.S.Sink.taken c.loop-item.out) (g.S.Sink.taken c.write_item.new.out) c.args.form c.args.feed.now c.loop-item.feed c.next.new.self c.args.block.now c.args.last
    (item_of c.in-Item.item) c.loop-item.invariant.0 given (sym wrote.last ∙ c.if-branch.true) wrote.lines

pub loop-item-smaller : goal.loop-item-smaller
loop-item-smaller g c =
    let given = subst (λ item. Feeds c.loop-item.feed c.args.block.now c.args.last (Ok item) c.next.new.self) c.in-Item.is c.in_ok-item.ensures in
    fewer_left c.loop-item.feed c.next.new.self c.args.block.now c.args.last (item_of c.in-Item.item) given (sym c.in_ok-write_item-in-Item.ensures.last ∙ c.if-branch.false)

pub loop-item-preserved : goal.loop-item-preserved
loop-item-preserved g c =
    let given = subst (λ item. Feeds c.loop-item.feed c.args.block.now c.args.last (Ok item) c.next.new.self) c.in-Item.is c.in_ok-item.ensures in
    let wrote = c.in_ok-write_item-in-Item.ensures in (
      InBlock-more (g.S.Sink.taken c.args.out.now) (g.S.Sink.taken c.loop-item.out) (g.S.Sink.taken c.write_item.new.out) c.args.form c.args.feed.now c.loop-item.feed c.next.new.self c.args.block.now c.args.last
          (item_of c.in-Item.item) c.loop-item.invariant.0 given (sym wrote.last ∙ c.if-branch.false) wrote.lines,
      wrote.counts ∙ c.loop-item.invariant.1,
    )

pub returns-in-More-clause-lines : goal.returns-in-More-clause-lines
returns-in-More-clause-lines g c =
    let goes = subst (λ item. Feeds c.loop-item.feed c.args.block.now c.args.last (Ok item) c.next.new.self) c.in-More.is c.in_ok-item.ensures in
    InBlock-goes_on (g.S.Sink.taken c.args.out.now) (g.S.Sink.taken c.loop-item.out) c.args.form c.args.feed.now c.loop-item.feed c.next.new.self c.args.block.now c.args.last c.loop-item.invariant.0 goes
