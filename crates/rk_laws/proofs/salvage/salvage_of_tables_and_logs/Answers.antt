use Rattle.rk_laws.proofs.SalvageFiles.{refuses_file-agree, families-agree, records-agree, remainder-agree}
use Rattle.rk_laws.proofs.salvage.salvage_of_tables_and_logs.Goals as goal

pub returns-clause-refuses_file : goal.returns-clause-refuses_file
returns-clause-refuses_file c = refuses_file-agree

pub returns-clause-families : goal.returns-clause-families
returns-clause-families c = families-agree

pub returns-clause-records : goal.returns-clause-records
returns-clause-records c = records-agree

pub returns-clause-remainder : goal.returns-clause-remainder
returns-clause-remainder c = remainder-agree
