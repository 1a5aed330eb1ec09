use Rattle.std.proofs.Common.{subst}
use Rattle.std.specs.Prelude.{IfSome}
use Rattle.rk_bytes.specs.Model.DiskImages.{contents_told}
use Rattle.rk_bytes.specs.Model.Output.{Output}
use Rattle.rk_ldb.specs.Stops.{TookUpTo}
use Rattle.rk_ldb.specs.Tables.{open_lines}
use Rattle.rk_ldb.proofs.Tables.{lines_of_table, lines_of_bad_table}
use Rattle.rk_ldb.proofs.sst.sst.Goals as goal

pub returns-in-Ok-clause-lines : goal.returns-in-Ok-clause-lines
returns-in-Ok-clause-lines g c =
    let o = contents_told (g.D.Disk.told c.args.disk.now) in
    let before = g.S.Sink.taken c.args.out.now in
    let now = g.S.Sink.taken c.write_table.new.out in
    lines_of_table o c.args.number c.args.part c.args.hex c.in-Ok.table (λ lines. TookUpTo before now lines c.write_table.result) c.in-Ok.ensures.table
    (subst (λ told. IfSome (contents_told told) (λ files. TookUpTo before now (open_lines c.args.part c.args.hex c.in-Ok.table files) c.write_table.result)) c.in-Ok.ensures.left c.write_table.ensures.lines)

pub returns-in_ok-table_refusal-in-Err-clause-lines : goal.returns-in_ok-table_refusal-in-Err-clause-lines
returns-in_ok-table_refusal-in-Err-clause-lines g c =
    let o = contents_told (g.D.Disk.told c.args.disk.now) in
    lines_of_bad_table o c.args.number c.args.part c.args.hex c.in-Err.why c.in_ok-table_refusal-in-Err.field-0 (λ (o : Output). TookUpTo (g.S.Sink.taken c.args.out.now) (g.S.Sink.taken c.refuse.new.out) o.lines c.refuse.result)
    c.in-Err.ensures.table c.in_ok-table_refusal-in-Err.ensures c.refuse.ensures.lines
