-- What contracts see of the entries of a block that is read.
use Rattle.std.specs.Prelude.{ℕ, List, [], ◌∷◌, nat_lt, if◌then◌else◌, Result, Ok, Err}
use Rattle.rk_bytes.specs.declared.model.block.BlockFault.{BlockFault}
use Rattle.rk_bytes.specs.Model.BlockEntries.{Entry}

-- entries that weren't handed out yet, where the first of them begins, and the key before it
pub record EntriesSeen : Type 0 where
  pub place : ℕ
  pub key : List ℕ
  pub left : List (Entry (List ℕ))

-- all of the entries are to be handed out
abbrev pub seen_whole : List (Entry (List ℕ)) → EntriesSeen
seen_whole entries = record { place = 0; key = []; left = entries }

-- what was read, and nothing where it wasn't
abbrev pub entries_or_none : Result (List (Entry (List ℕ))) BlockFault → List (Entry (List ℕ))
entries_or_none (Ok entries) = entries
entries_or_none (Err fault) = []

-- the entries from a place on
abbrev pub entries_from : ℕ → List (Entry (List ℕ)) → List (Entry (List ℕ))
entries_from place [] = []
entries_from place (entry ∷ entries) = if nat_lt entry.place place then entries_from place entries else entry ∷ entries

-- the key of the last entry before a place, and this key where there is none
abbrev pub key_before : ℕ → List ℕ → List (Entry (List ℕ)) → List ℕ
key_before place key [] = key
key_before place key (entry ∷ entries) = if nat_lt entry.place place then key_before place entry.key entries else key

-- the entries from a place on are to be handed out
abbrev pub seen_from : ℕ → List (Entry (List ℕ)) → EntriesSeen
seen_from place entries = record { place = place; key = key_before place [] entries; left = entries_from place entries }
