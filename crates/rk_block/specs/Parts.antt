-- The parts of a block.
use Rattle.std.specs.Prelude.{ℕ, Bool, List, [], length, Result, Ok, Err}
use Rattle.rk_bytes.specs.declared.model.block.BlockFault.{BlockFault}
use Rattle.rk_bytes.specs.Model.Numbers.{◌>>=◌}
use Rattle.rk_bytes.specs.Model.BlockEntries.{Entry, entries_after, next_entry, no_entry, right_restarts}
use Rattle.rk_block.specs.declared.part.BlockParts.{BlockParts}

-- the bytes of the entries and the restart offsets, or the fault
abbrev pub parts_read : Result BlockParts BlockFault → Result (List ℕ × List ℕ) BlockFault
parts_read (Ok parts) = Ok (parts.entries.now, parts.restarts.left)
parts_read (Err fault) = Err fault

-- the entries that fill these bytes, or the first fault
abbrev pub entries_in : List ℕ → Result (List (Entry (List ℕ))) BlockFault
entries_in part = entries_after (next_entry (length part)) (length part) (no_entry []) part

-- whether the restart offsets are right for the entries that fill these bytes, or the first fault of those
abbrev pub restarts_in : List ℕ → List ℕ → Result Bool BlockFault
restarts_in part offsets = do
  entries ← entries_in part
  Ok (right_restarts entries offsets)
