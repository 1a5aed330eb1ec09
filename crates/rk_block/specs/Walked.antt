-- A walk over the entries of a block, beside its restart offsets.
use Rattle.std.specs.Prelude.{◌≡◌, ℕ, ◌+◌, ◌≤◌, List, [], ◌++◌, ◌∷◌, length, drop, Ok}
use Rattle.rk_bytes.specs.Model.Numbers.{◌>>=◌}
use Rattle.rk_bytes.specs.Model.BlockEntries.{Entry, entries_after, next_entry, no_entry}
use Rattle.rk_block.specs.Parts.{entries_in}
use Rattle.rk_block.specs.Restarts.{RestartsSeen, starts_at_zero, offsets_after}
use Rattle.rk_block.specs.Read.{AreBetween, last_of}

-- the offsets that are left after entries
abbrev pub offsets_left : {V : Type 0} → List (Entry V) → List ℕ → List ℕ
offsets_left [] offsets = offsets
offsets_left (entry ∷ entries) offsets = offsets_left entries (offsets_after entry.place entry.shared offsets)

-- The entries up to a place were read, of which the last has a key of so many bytes, and these offsets are left.
pub record IsWalked (part offsets : List ℕ) (place key_len : ℕ) (now : RestartsSeen) : Type 0 where
  pub front : List (Entry (List ℕ))
  pub room : ℕ
  pub within : place ≤ length part
  pub enough : length part ≤ place + room
  pub passed : AreBetween 0 place front
  pub short : key_len ≤ place
  pub key_is : key_len ≡ length (last_of front (no_entry [])).key
  pub left : now ≡ record { from_zero = starts_at_zero offsets; left = offsets_left front offsets }
  pub whole : entries_in part ≡ (entries_after (next_entry (length part)) room (last_of front (no_entry [])) (drop place part) >>= λ more. Ok (front ++ more))
