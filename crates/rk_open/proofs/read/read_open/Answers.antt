use Rattle.std.proofs.Common.{ap, ◌∙◌}
use Rattle.rk_bytes.specs.declared.model.table.TableRef.{TableRef}
use Rattle.rk_bytes.specs.Model.DiskImages.{contents_told}
use Rattle.rk_open.specs.Tables.{listed_of}
use Rattle.rk_open.proofs.TablesLemmas.{is_open, reads_table, run_refuses}
use Rattle.rk_open.proofs.read.read_open.Goals as goal

pub read_run-requires-clause-opened : goal.read_run-requires-clause-opened
read_run-requires-clause-opened g c = is_open (contents_told (g.D.Disk.told c.args.disk.now)) (listed_of c.args.listed.now) c.args.table.now c.requires.opened

pub returns-in-Ok-copy_ranges-clause-table : goal.returns-in-Ok-copy_ranges-clause-table
returns-in-Ok-copy_ranges-clause-table g c =
    let same = c.in-Ok-copy_ranges.ensures ∙ c.as_slice.ensures ∙ ap (λ (table : TableRef). table.ranges) (c.table.ensures ∙ c.in-Ok.ensures.table) in
    reads_table (contents_told (g.D.Disk.told c.args.disk.now)) (listed_of c.args.listed.now) c.args.table.now (record { run = c.in-Ok.run'; ranges = c.in-Ok-copy_ranges.ranges })
    c.requires.opened c.in-Ok.ensures.run c.in-Ok.ensures.rising same c.requires.sequences

pub returns-in-Err-clause-table : goal.returns-in-Err-clause-table
returns-in-Err-clause-table g c = run_refuses (contents_told (g.D.Disk.told c.args.disk.now)) (listed_of c.args.listed.now) c.args.table.now c.in-Err.why c.requires.opened c.in-Err.ensures.run
