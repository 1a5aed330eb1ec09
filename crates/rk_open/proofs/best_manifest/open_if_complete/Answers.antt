use Rattle.std.proofs.Common.{◌≡◌, None, ◌∙◌, subst}
use Rattle.std.specs.Prelude.{IfSome}
use Rattle.std.specs.FinMap.{get}
use Rattle.rk_bytes.specs.Model.DiskImages.{contents_told}
use Rattle.rk_open.proofs.BestLemmas.{no_units_in}
use Rattle.rk_open.proofs.best_manifest.open_if_complete.Goals as goal

pub returns-in-Ok-None-clause-best : goal.returns-in-Ok-None-clause-best
returns-in-Ok-None-clause-best g c =
    let o = contents_told (g.D.Disk.told c.args.disk.now) in
    let file = subst (λ file. IfSome o (λ d. file ≡ get d c.as_str.result.now)) c.in-Ok-None.field-0-is c.in-Ok-None.ensures.file in
    no_units_in o c.args.number (subst (λ name. IfSome o (λ d. None ≡ get d name)) (c.as_str.ensures ∙ c.in-Ok.ensures.printed) file)
