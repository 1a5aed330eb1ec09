-- What a view of a block keeps.
use Rattle.std.specs.Prelude.{◌≡◌, ℕ, ◌+◌, ◌≤◌, List, [], ◌∷◌, ◌++◌, length, drop, Ok}
use Rattle.rk_bytes.specs.Model.BlockEntries.{Entry, entries_after, next_entry, no_entry}
use Rattle.rk_block.specs.Parts.{entries_in}
use Rattle.rk_block.specs.Seen.{entries_or_none}

-- the bytes are entries
abbrev pub IsReadBlock : List ℕ → Type 0
IsReadBlock part = entries_in part ≡ Ok (entries_or_none (entries_in part))

-- the entries' places rise, the first isn't below one place and the last is below another
abbrev pub AreBetween : {V : Type 0} → ℕ → ℕ → List (Entry V) → Type 0
AreBetween start end [] = start ≤ end
AreBetween start end (entry ∷ entries) = (start ≤ entry.place) × AreBetween (entry.place + 1) end entries

-- the last of the entries
abbrev pub last_of : {V : Type 0} → List (Entry V) → Entry V → Entry V
last_of [] before = before
last_of (entry ∷ entries) before = last_of entries entry

-- The bytes are entries, of which those up to a place were handed out.
pub record IsReadTo (part : List ℕ) (place : ℕ) : Type 0 where
  pub front : List (Entry (List ℕ))
  pub left : List (Entry (List ℕ))
  pub room : ℕ
  pub within : place ≤ length part
  pub enough : length part ≤ place + room
  pub passed : AreBetween 0 place front
  pub whole : entries_in part ≡ Ok (front ++ left)
  pub follow : entries_after (next_entry (length part)) room (last_of front (no_entry [])) (drop place part) ≡ Ok left
