-- What is read of an index whose handles are delta-encoded.
use Rattle.std.specs.Prelude.{ℕ, ℤ, pos, negsuc, ◌^◌, List, length, map, nat_lt, if◌then◌else◌, Option, Some, None, Result, Ok, Err}
use Rattle.rk_bytes.specs.declared.model.block.BlockFault.TheVariants.{BadRestarts, BadEntry}
use Rattle.rk_bytes.specs.declared.model.block.IndexEntry.{IndexEntry}
use Rattle.rk_bytes.specs.declared.model.block.IndexFault.{IndexFault}
use Rattle.rk_bytes.specs.declared.model.block.IndexFault.TheVariants.{Block}
use Rattle.rk_bytes.specs.declared.model.number.NumFault.{NumFault}
use Rattle.rk_bytes.specs.Model.Numbers.{Read, ◌>>=◌, varint32_at, prefixed_at}
use Rattle.rk_bytes.specs.Model.BlockEntries.{with_fault, entries_after, no_entry, right_restarts, delta_key_at, next_delta_entry, no_handle, index_entry}
use Rattle.rk_bytes.specs.Reading.{Reading, rest_of}
use Rattle.rk_block.specs.declared.entry.RawEntry.{RawEntry}

-- how many bytes the key of the next entry shares and the rest of it
abbrev pub delta_parts_at : List ℕ → Read (ℕ × List ℕ)
delta_parts_at bytes = do
  shared ← varint32_at bytes
  rest ← prefixed_at shared.1
  Ok ((shared.0, rest.0), rest.1)

-- those that were read, and the bytes after them
abbrev pub raw_read : Result RawEntry NumFault → Reading → Read (ℕ × List ℕ)
raw_read (Ok raw) after = Ok ((raw.shared, raw.rest.now), rest_of after)
raw_read (Err fault) after = Err fault

-- the key of the entry at a place, after another key, or the entry's fault
abbrev pub delta_key : ℕ → List ℕ → List ℕ → Result ((ℕ × List ℕ) × List ℕ) IndexFault
delta_key place before bytes = with_fault (λ fault. Block (BadEntry place)) (delta_key_at before bytes)

-- what the key shares, the key, and the bytes after it
abbrev pub key_read : Result ℕ IndexFault → List ℕ → Reading → Result ((ℕ × List ℕ) × List ℕ) IndexFault
key_read (Ok shared) key after = Ok ((shared, key), rest_of after)
key_read (Err fault) key after = Err fault

-- the size that a number is, where it fits
abbrev pub fitting_size : ℤ → Option ℕ
fitting_size (pos size) = if nat_lt size (2 ^ 64) then Some size else None
fitting_size (negsuc size) = None

-- the index that these bytes and restart offsets are, or the first fault
abbrev pub delta_index_in : List ℕ → List ℕ → Result (List IndexEntry) IndexFault
delta_index_in part offsets = do
  entries ← entries_after (next_delta_entry (length part)) (length part) (no_entry no_handle) part
  if right_restarts entries offsets then Ok (map index_entry entries) else Err (Block BadRestarts)
