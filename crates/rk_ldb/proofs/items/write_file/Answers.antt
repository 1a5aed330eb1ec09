use Rattle.std.proofs.Common.{subst}
use Rattle.rk_bytes.specs.Model.LogItems.{log_items}
use Rattle.rk_log.specs.Left.{Left, left}
use Rattle.rk_ldb.specs.Stops.{TookUpTo}
use Rattle.rk_ldb.specs.Wrote.{dump_lines}
use Rattle.rk_disk.proofs.Callers.{OfFile-with}
use Rattle.rk_ldb.proofs.items.write_file.Goals as goal

pub returns-clause-lines : goal.returns-clause-lines
returns-clause-lines g c =
    let from = g.S.Sink.taken c.args.out.now in
    let now = g.S.Sink.taken c.write_blocks.new.out in
    OfFile-with (g.D.Disk.told c.args.disk.now) c.args.name.now c.args.size (λ bytes. TookUpTo from now (dump_lines c.args.form (left c.new-feed.result bytes).items) c.write_blocks.result)
    (λ bytes. TookUpTo from now (dump_lines c.args.form (log_items c.args.number bytes)) c.write_blocks.result)
    (λ bytes lines. subst (λ (left : Left). TookUpTo from now (dump_lines c.args.form left.items) c.write_blocks.result) (c.new-feed.ensures.left bytes) lines) c.write_blocks.ensures.lines
