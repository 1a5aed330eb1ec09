use Rattle.std.proofs.Common.{◌≡◌, ◌+◌, length, take, drop, true, false, Ok, Err, sym, ap, ◌∙◌, subst, arith}
use Rattle.std.proofs.lemmas.List.{length-take}
use Rattle.std.proofs.lemmas.Result.{err_from_is_err_and}
use Rattle.rk_disk.specs.Parts.{IsPart}
use Rattle.rk_log.specs.Left.{left, bytes_before}
use Rattle.rk_ldb.specs.Stops.{TookUpTo}
use Rattle.rk_ldb.specs.Wrote.{dump_lines, WritesBlock}
use Rattle.rk_ldb.proofs.Taken.{Wrote-disk_failed}
use Rattle.rk_disk.specs.Parts.{OfFile}
use Rattle.rk_disk.proofs.Callers.{OfFile-with, OfFile-both}
use Rattle.rk_ldb.proofs.Blocks.{InLog, InLog-block, InLog-next}
use Rattle.rk_ldb.proofs.items.write_blocks.Goals as goal

pub returns-in_err-len-clause-lines : goal.returns-in_err-len-clause-lines
returns-in_err-len-clause-lines g c =
    let told = g.D.Disk.told c.args.disk.now in
    let from = g.S.Sink.taken c.args.out.now in
    let now = g.S.Sink.taken c.loop-len.out in
    let stopped = err_from_is_err_and c.from_residual.result c.from_residual.ensures.1 in
    OfFile-with told c.args.name.now c.args.size (InLog from now c.args.form c.args.feed.now c.loop-len.feed) (λ bytes. TookUpTo from now (dump_lines c.args.form (left c.args.feed.now bytes).items) c.from_residual.result)
    (λ bytes h. subst (TookUpTo from now (dump_lines c.args.form (left c.args.feed.now bytes).items)) (sym (stopped.1 ∙ ap Err stopped.2))
    (Wrote-disk_failed (Unit {0}) from now (dump_lines c.args.form (left c.args.feed.now bytes).items) (dump_lines c.args.form (left c.loop-len.feed (drop (bytes_before c.loop-len.feed) bytes)).items)
    c.in_err-len.field-0.0 h))
    c.loop-len.invariant.6

pub returns-in_err-write_block-clause-lines : goal.returns-in_err-write_block-clause-lines
returns-in_err-write_block-clause-lines g c =
    let told = g.D.Disk.told c.args.disk.now in
    let from = g.S.Sink.taken c.args.out.now in
    let between = g.S.Sink.taken c.loop-len.out in
    let now = g.S.Sink.taken c.write_block.new.out in
    let block = take c.in_ok-len.len c.read_part.new.buf in
    let inv = c.loop-len.invariant in
    let is = subst (λ told. OfFile told c.args.name.now c.args.size (λ bytes. IsPart c.loop-len.at bytes block c.in_ok-len.last)) inv.3 c.in_ok-len.ensures.part in
    let stopped = err_from_is_err_and c.from_residual-in_err-write_block.result c.from_residual-in_err-write_block.ensures.1 in
    OfFile-both told c.args.name.now c.args.size (InLog from between c.args.form c.args.feed.now c.loop-len.feed) (λ bytes. IsPart c.loop-len.at bytes block c.in_ok-len.last)
    (λ bytes. TookUpTo from now (dump_lines c.args.form (left c.args.feed.now bytes).items) c.from_residual-in_err-write_block.result)
    (λ bytes h is. subst (TookUpTo from now (dump_lines c.args.form (left c.args.feed.now bytes).items)) (sym (stopped.1 ∙ ap Err stopped.2))
    (InLog-block from between now c.args.form c.args.feed.now c.loop-len.feed c.write_block.new.feed c.loop-len.at block c.in_ok-len.last (Err c.in_err-write_block.field-0.0) inv.1 c.in_err-write_block.ensures.lines bytes h is))
    inv.6 is

pub returns-then-branch-clause-lines : goal.returns-then-branch-clause-lines
returns-then-branch-clause-lines g c =
    let told = g.D.Disk.told c.args.disk.now in
    let from = g.S.Sink.taken c.args.out.now in
    let between = g.S.Sink.taken c.loop-len.out in
    let now = g.S.Sink.taken c.write_block.new.out in
    let block = take c.in_ok-len.len c.read_part.new.buf in
    let inv = c.loop-len.invariant in
    let is = subst (λ told. OfFile told c.args.name.now c.args.size (λ bytes. IsPart c.loop-len.at bytes block c.in_ok-len.last)) inv.3 c.in_ok-len.ensures.part in
    let writes = subst (λ ended. WritesBlock between now c.args.form c.loop-len.feed block c.in_ok-len.last (Ok ended) c.write_block.new.feed) c.if-branch.true c.in_ok-write_block.ensures.lines in
    OfFile-both told c.args.name.now c.args.size (InLog from between c.args.form c.args.feed.now c.loop-len.feed) (λ bytes. IsPart c.loop-len.at bytes block c.in_ok-len.last)
    (λ bytes. TookUpTo {T = Unit {0}} from now (dump_lines c.args.form (left c.args.feed.now bytes).items) (Ok tt))
    (InLog-block from between now c.args.form c.args.feed.now c.loop-len.feed c.write_block.new.feed c.loop-len.at block c.in_ok-len.last (Ok true) inv.1 writes)
    inv.6 is

pub loop-len-preserved : goal.loop-len-preserved
loop-len-preserved g c =
    let told = g.D.Disk.told c.args.disk.now in
    let from = g.S.Sink.taken c.args.out.now in
    let between = g.S.Sink.taken c.loop-len.out in
    let now = g.S.Sink.taken c.write_block.new.out in
    let block = take c.in_ok-len.len c.read_part.new.buf in
    let inv = c.loop-len.invariant in
    let read = c.in_ok-len.ensures in
    let wrote = c.in_ok-write_block.ensures in
    let is = subst (λ told. OfFile told c.args.name.now c.args.size (λ bytes. IsPart c.loop-len.at bytes block c.in_ok-len.last)) inv.3 read.part in
    let writes = subst (λ ended. WritesBlock between now c.args.form c.loop-len.feed block c.in_ok-len.last (Ok ended) c.write_block.new.feed) c.if-branch.false wrote.lines in
    let full = read.full (wrote.more c.if-branch.false) in
    let before : bytes_before c.write_block.new.feed ≡ c.loop-len.at + length block = wrote.before c.if-branch.false ∙ ap (λ n. n + length block) inv.1 in
    let len : length block ≡ 32768 = length-take c.in_ok-len.len c.read_part.new.buf ∙ omega (arith, full.0, read.room, inv.2) in (
      omega (arith, full.1, inv.2),
      before ∙ ap (λ n. c.loop-len.at + n) len,
      read.room ∙ inv.2,
      read.left ∙ inv.3,
      read.faults ∙ inv.4,
      wrote.counts ∙ inv.5,
      OfFile-both told c.args.name.now c.args.size (InLog from between c.args.form c.args.feed.now c.loop-len.feed) (λ bytes. IsPart c.loop-len.at bytes block c.in_ok-len.last)
          (InLog from now c.args.form c.args.feed.now c.write_block.new.feed)
          (λ bytes h is. InLog-next from now c.args.form c.args.feed.now c.write_block.new.feed c.loop-len.at block bytes before
          (InLog-block from between now c.args.form c.args.feed.now c.loop-len.feed c.write_block.new.feed c.loop-len.at block c.in_ok-len.last (Ok false) inv.1 writes bytes h is))
          inv.6 is,
    )
