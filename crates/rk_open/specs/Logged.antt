-- What records of logs make of a state.
use Rattle.std.specs.Prelude.{◌++◌, List}
use Rattle.rk_bytes.specs.declared.model.key.Record.{Record}
use Rattle.rk_bytes.specs.Model.Records.{last_records, over}
use Rattle.rk_bytes.specs.Model.KeyView.{State}
use Rattle.rk_bytes.specs.Model.Opening.{log_tombs}

-- the records over those of a state, and their range deletions, uncut, behind its own
abbrev pub with_logged : List Record → State → State
with_logged records state = record {
  families = state.families;
  records = over state.records (last_records records);
  tombs = state.tombs ++ log_tombs records;
}
