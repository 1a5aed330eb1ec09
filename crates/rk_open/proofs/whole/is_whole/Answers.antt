use Rattle.rk_bytes.specs.Model.DiskImages.{contents_told}
use Rattle.rk_open.proofs.WholeLemmas.{whole_refused, whole_read}
use Rattle.rk_open.proofs.whole.is_whole.Goals as goal

pub returns-in-Ok-keep-clause-whole : goal.returns-in-Ok-keep-clause-whole
returns-in-Ok-keep-clause-whole g c = whole_read (contents_told (g.D.Disk.told c.args.disk.now)) c.args.file.now c.in-Ok.table c.in-Ok.ensures.table

pub returns-in-Ok-keep-clause-kept : goal.returns-in-Ok-keep-clause-kept
returns-in-Ok-keep-clause-kept g c = c.in-Ok-keep.ensures (contents_told (g.D.Disk.told c.args.disk.now)) c.requires.kept c.in-Ok.ensures.table

pub returns-in-Err-clause-whole : goal.returns-in-Err-clause-whole
returns-in-Err-clause-whole g c =
    whole_refused (contents_told (g.D.Disk.told c.args.disk.now)) c.args.file.now c.in-Err.why c.can_be_used.result c.can_be_used.ensures.used c.in-Err.ensures.table
