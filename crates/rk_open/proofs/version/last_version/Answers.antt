use Rattle.std.proofs.Common.{true, rules}
use Rattle.rk_bytes.specs.Model.DiskImages.{contents_told}
use Rattle.rk_manifest.specs.Folds.{HasFed}
use Rattle.rk_open.proofs.LastLemmas.{version_told, is_last}
use Rattle.rk_open.proofs.version.last_version.Goals as goal

pub returns-in-Ok-fold_file-clause-version : goal.returns-in-Ok-fold_file-clause-version
returns-in-Ok-fold_file-clause-version g c =
    version_told (HasFed c.in-Ok-fold_file.fold true) c.finished.result c.finished.ensures.version (contents_told (g.D.Disk.told c.args.disk.now)) c.args.number c.in-Ok-Some.size (search rules) (search rules)

pub returns-in-Ok-fold_file-clause-last : goal.returns-in-Ok-fold_file-clause-last
returns-in-Ok-fold_file-clause-last g c = is_last (HasFed c.in-Ok-fold_file.fold true) c.finished.result c.finished.ensures.version c.in-Ok-fold_file.ensures.bytes
