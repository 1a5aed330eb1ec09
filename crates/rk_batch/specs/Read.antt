-- What a view of a batch keeps.
use Rattle.std.specs.Prelude.{◌≡◌, ℕ, ◌+◌, ◌^◌, ◌≤◌, List, length, Result, Ok, Err}
use Rattle.rk_bytes.specs.declared.model.batch.BatchFault.{BatchFault}
use Rattle.rk_bytes.specs.Model.WriteBatch.{Batch, change_count, batch_of}
use Rattle.rk_bytes.specs.Reading.{Reading, rest_of}
use Rattle.rk_batch.specs.Seen.{BatchSeen, parts_left, parts_or_none, batch_or_none, seen_whole}

-- The bytes are a batch, and what the cursor stands before are its parts that are left, the first change of
-- which has the next sequence number.
pub record IsRead (bytes : List ℕ) (cursor : Reading) (next sequence count : ℕ) : Type 0 where
  pub same : cursor.bytes ≡ bytes
  pub within : cursor.place ≤ length bytes
  pub long : 12 ≤ length bytes
  pub whole : batch_of bytes ≡ Ok (batch_or_none (batch_of bytes))
  pub left : parts_left (length bytes) next (rest_of cursor) ≡ Ok (parts_or_none (parts_left (length bytes) next (rest_of cursor)))
  pub first : sequence ≡ (batch_or_none (batch_of bytes)).sequence
  pub changes : count ≡ change_count (batch_or_none (batch_of bytes)).parts
  pub numbered : next + change_count (parts_or_none (parts_left (length bytes) next (rest_of cursor))) ≡ sequence + count
  pub fits : sequence + count ≤ 2 ^ 56

-- the batch that was read with all its parts left, or the fault
abbrev pub ReadAs : Result BatchSeen BatchFault → Result Batch BatchFault → Type 0
ReadAs (Ok seen) (Ok batch) = seen ≡ seen_whole batch
ReadAs (Err fault) (Err other) = fault ≡ other
ReadAs _ _ = ⊥
