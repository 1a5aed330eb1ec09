-- Batches whose sequence numbers are at most the greatest one.
use Rattle.std.specs.Prelude.{◌≡◌, ◌+◌, ◌≤◌}
use Rattle.std.specs.List.{All}
use Rattle.rk_bytes.specs.declared.model.key.Record.{Record}
use Rattle.rk_bytes.specs.Model.InternalKey.{top_sequence}
use Rattle.rk_bytes.specs.Model.WriteBatch.{changes, change_count}
use Rattle.rk_batch.specs.Seen.{BatchSeen}

-- the sequence number is at most the greatest one
abbrev pub IsLow : Record → Type 0
IsLow r = r.sequence ≤ top_sequence

-- all parts of the batch are to be handed out, and its sequence numbers are at most the greatest one
pub record IsUnread (seen : BatchSeen) : Type 0 where
  pub whole : seen.left ≡ seen.batch.parts
  pub fits : seen.batch.sequence + change_count seen.batch.parts ≤ top_sequence + 1
  pub low : All IsLow (changes seen.batch.parts)
