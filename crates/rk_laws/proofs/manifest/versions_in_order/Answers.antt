use Rattle.rk_laws.proofs.VersionOrder.{families_in_order, files_in_order, logs_in_order}
use Rattle.rk_laws.proofs.manifest.versions_in_order.Goals as goal

pub returns-clause-families : goal.returns-clause-families
returns-clause-families c = families_in_order

pub returns-clause-files : goal.returns-clause-files
returns-clause-files c = files_in_order

pub returns-clause-logs : goal.returns-clause-logs
returns-clause-logs c = logs_in_order
