use Rattle.std.proofs.Common.{subst}
use Rattle.std.specs.Prelude.{IfSome}
use Rattle.rk_bytes.specs.Model.DiskImages.{contents_told}
use Rattle.rk_sst.specs.Lines.{TellsAsked}
use Rattle.rk_sst.proofs.LineLemmas.{lines_told}
use Rattle.rk_sst.proofs.lines.sst_lines.Goals as goal

pub returns-in-Ok-clause-lines : goal.returns-in-Ok-clause-lines
returns-in-Ok-clause-lines g c =
    let told = contents_told (g.D.Disk.told c.args.disk.now) in
    lines_told told c.args.number c.args.part c.args.hex c.in-Ok.table c.asked_text.result c.in-Ok.ensures.table
    (subst (λ told. IfSome (contents_told told) (λ files. TellsAsked c.args.part c.args.hex c.in-Ok.table files c.asked_text.result)) c.in-Ok.ensures.left c.asked_text.ensures.lines)
