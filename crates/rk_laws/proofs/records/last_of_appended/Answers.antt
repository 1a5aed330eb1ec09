use Rattle.rk_laws.proofs.RecordMaps.{last_records-append}
use Rattle.rk_laws.proofs.records.last_of_appended.Goals as goal

pub returns : goal.returns
returns c = last_records-append
