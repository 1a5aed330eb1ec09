use Rattle.rk_laws.proofs.WrittenTables.{table_read, own_records}
use Rattle.rk_laws.proofs.WrittenTableBytes.{table_is_bytes}
use Rattle.rk_laws.proofs.tables.written_table.Goals as goal

pub returns-clause-good : goal.returns-clause-good
returns-clause-good c = table_read

pub returns-clause-own : goal.returns-clause-own
returns-clause-own c = own_records

pub returns-clause-bytes : goal.returns-clause-bytes
returns-clause-bytes c = table_is_bytes
