-- What contracts see of a batch that is read.
use Rattle.std.specs.Prelude.{ℕ, List, [], length, Result, Ok, Err}
use Rattle.rk_bytes.specs.declared.model.batch.BatchFault.{BatchFault}
use Rattle.rk_bytes.specs.Model.Numbers.{in_turn}
use Rattle.rk_bytes.specs.Model.WriteBatch.{Part, change, log_bytes, noop, Batch, change_count, batch_part_at}
use Rattle.rk_batch.specs.declared.record.BatchRecord.{BatchRecord}
use Rattle.rk_batch.specs.declared.record.BatchRecord.TheVariants.{Change, LogBytes, Noop}

-- a batch, and its parts that weren't handed out yet
pub record BatchSeen : Type 0 where
  pub batch : Batch
  pub left : List Part

-- what is handed out of a batch, as a part
abbrev pub part_of : BatchRecord → Part
part_of (Change place family kind key value sequence) = change place (record { family = family; key = key.now; sequence = sequence; kind = kind; value = value.now })
part_of (LogBytes place bytes) = log_bytes place bytes.now
part_of (Noop place) = noop place

-- the parts of a batch's last bytes, of which the first change has this sequence number, or the first fault
unfoldable pub parts_left : ℕ → ℕ → List ℕ → Result (List Part) BatchFault
parts_left batch_len sequence bytes = in_turn (batch_part_at batch_len sequence) (length bytes) [] bytes

-- what was read, and nothing where it wasn't
abbrev pub parts_or_none : Result (List Part) BatchFault → List Part
parts_or_none (Ok parts) = parts
parts_or_none (Err fault) = []

abbrev pub batch_or_none : Result Batch BatchFault → Batch
batch_or_none (Ok batch) = batch
batch_or_none (Err fault) = record { sequence = 0; parts = [] }

-- how many changes the parts are, or the first fault
abbrev pub counted : Result (List Part) BatchFault → Result ℕ BatchFault
counted (Ok parts) = Ok (change_count parts)
counted (Err fault) = Err fault

-- all parts of the batch are to be handed out
abbrev pub seen_whole : Batch → BatchSeen
seen_whole batch = record { batch = batch; left = batch.parts }
