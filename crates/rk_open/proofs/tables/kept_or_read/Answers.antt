use Rattle.rk_bytes.specs.Model.DiskImages.{contents_told}
use Rattle.rk_open.proofs.tables.kept_or_read.Goals as goal

pub returns-in-Some-clause-table : goal.returns-in-Some-clause-table
returns-in-Some-clause-table g c = c.in-Some.ensures.table (contents_told (g.D.Disk.told c.args.disk.now)) c.requires.kept
