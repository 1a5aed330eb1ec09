use Rattle.std.proofs.Common.{subst}
use Rattle.std.specs.Prelude.{IfSome}
use Rattle.rk_bytes.specs.Model.DiskImages.{contents_told}
use Rattle.rk_open.specs.Answers.{AnswersBy}
use Rattle.rk_open.specs.Opened.{opened_of, opened_by}
use Rattle.rk_open.proofs.DirectoryLemmas.{opened_found, opened_refused}
use Rattle.rk_open.proofs.directory.open_full.Goals as goal

pub returns-in-Ok-clause-opened : goal.returns-in-Ok-clause-opened
returns-in-Ok-clause-opened g c =
    opened_found (contents_told (g.D.Disk.told c.args.disk.now)) c.args.mode c.in-Ok.manifest c.open_manifest.result c.in-Ok.ensures.named
    (subst (λ told. IfSome (contents_told told) (λ d. AnswersBy opened_of (opened_by c.args.mode d c.in-Ok.manifest) c.open_manifest.result)) c.named_manifest.ensures.left c.open_manifest.ensures.opened)

pub returns-in-Err-clause-opened : goal.returns-in-Err-clause-opened
returns-in-Err-clause-opened g c = opened_refused (contents_told (g.D.Disk.told c.args.disk.now)) c.args.mode c.in-Err.why c.in-Err.ensures.named
