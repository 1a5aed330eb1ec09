use Rattle.rk_laws.proofs.SalvageSteps.{records-without_first_log, remainder-without_first_log}
use Rattle.rk_laws.proofs.salvage.lowest_log_may_go.Goals as goal

pub returns-clause-records : goal.returns-clause-records
returns-clause-records c = records-without_first_log

pub returns-clause-remainder : goal.returns-clause-remainder
returns-clause-remainder c = remainder-without_first_log
