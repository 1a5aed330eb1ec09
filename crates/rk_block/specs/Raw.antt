-- An entry as it stands in its block.
use Rattle.std.specs.Prelude.{ℕ, List, ◌++◌, length, take, drop, nat_le, if◌then◌else◌, Option, Some, None, Result, Ok, Err}
use Rattle.rk_bytes.specs.declared.model.number.NumFault.{NumFault}
use Rattle.rk_bytes.specs.Model.Numbers.{Read, ◌>>=◌, varint32_at}
use Rattle.rk_bytes.specs.Model.BlockEntries.{Entry, entry_at}
use Rattle.rk_block.specs.declared.entry.RawEntry.{RawEntry}
use Rattle.rk_block.specs.declared.entry.Lengths.{Lengths}

-- the key of an entry, after this key
abbrev pub key_after : List ℕ → RawEntry → List ℕ
key_after key raw = take raw.shared key ++ raw.rest.now

-- the entry at a place, after this key
abbrev pub entry_of : ℕ → List ℕ → RawEntry → Entry (List ℕ)
entry_of place key raw = record { place = place; shared = raw.shared; key = key_after key raw; value = raw.value.now }

-- the three lengths at the front of bytes
abbrev pub lengths_at : List ℕ → Read (ℕ × ℕ × ℕ)
lengths_at bytes = do
  shared ← varint32_at bytes
  rest ← varint32_at shared.1
  value ← varint32_at rest.1
  Ok ((shared.0, rest.0, value.0), value.1)

-- the lengths that were read, and the bytes after them
abbrev pub lengths_read : List ℕ → Result Lengths NumFault → Read (ℕ × ℕ × ℕ)
lengths_read bytes (Ok lengths) = Ok ((lengths.shared, lengths.rest, lengths.value), drop lengths.spelled bytes)
lengths_read bytes (Err fault) = Err fault

-- the entry that was read and the bytes after it, where the key before it is long enough
abbrev pub entry_read : ℕ → List ℕ → List ℕ → Result (RawEntry × ℕ) NumFault → Option (Entry (List ℕ) × List ℕ)
entry_read place key bytes (Ok read) = if nat_le read.0.shared (length key) then Some (entry_of place key read.0, drop read.1 bytes) else None
entry_read place key bytes (Err fault) = None

-- what is read, whatever the fault is
abbrev pub read_or_none : {A : Type 0} → Read A → Option (A × List ℕ)
read_or_none (Ok one) = Some one
read_or_none (Err fault) = None

-- the entry at the front of the bytes
abbrev pub entry_or_none : ℕ → List ℕ → List ℕ → Option (Entry (List ℕ) × List ℕ)
entry_or_none place key bytes = read_or_none (entry_at place key bytes)
