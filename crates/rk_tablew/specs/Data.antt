-- The data blocks of a table while they are written.
use Rattle.std.specs.Prelude.{◌≡◌, ℕ, ◌+◌, ◌≤◌, Bool, true, false, List, [], ◌∷◌, ◌++◌, length, map, flat_map, nat_le}
use Rattle.std.specs.List.{sum_by, zip}
use Rattle.rk_bytes.specs.Model.Writers.{KeyValue, block_bytes, front_handles, grouped, handle_bytes, last_entry_key, stored}
use Rattle.rk_block.specs.Building.{Building, built_block, with_entry}

-- a data block is closed before the next entry
abbrev pub is_full : List KeyValue → Bool
is_full entries = nat_le 4096 (length (block_bytes 16 entries))

-- the entries of each data block, the last of which is open
abbrev pub open_groups : List KeyValue → List (List KeyValue)
open_groups [] = [] ∷ []
open_groups entries = grouped is_full entries

-- data blocks of these entries
abbrev pub blocks_with : List (List KeyValue) → List (List ℕ)
blocks_with groups = map (block_bytes 16) groups

-- the index of these data blocks
abbrev pub index_entries : List (List KeyValue) → List KeyValue
index_entries groups = zip (map last_entry_key groups) (map handle_bytes (front_handles (blocks_with groups)))

-- how many bytes an entry may take in the index
abbrev pub weight : List KeyValue → ℕ
weight entries = sum_by (λ entry. length entry.0 + 56) entries

-- an open data block is closed
pub record Closes (out : List ℕ) (index block : Building) (new_out : List ℕ) (new_index : Building) : Type 0 where
  pub added : new_out ≡ out ++ stored (built_block block)
  pub indexed : new_index ≡ with_entry index (last_entry_key block.entries) (handle_bytes (record { offset = length out; size = length (built_block block) }))
  pub grows : length (built_block new_index) ≤ length (built_block index) + length (last_entry_key block.entries) + 39

-- an open data block and the index are closed
pub record IsClosed (out : List ℕ) (index block : Building) (blocks index_block : List ℕ) : Type 0 where
  pub new_index : Building
  pub closes : Closes out index block blocks new_index
  pub index_is : index_block ≡ built_block new_index

-- a data block without an entry
abbrev pub empty_block : Building
empty_block = record { restart_every = 16; entries = [] }

-- whether an open data block is full
abbrev pub is_closed_next : Building → Bool
is_closed_next block = nat_le 4096 (length (built_block block))

-- an open data block is closed where it is full
abbrev pub RoomMade : Bool → List ℕ → Building → Building → List ℕ → Building → Building → Type 0
RoomMade true out index block new_out new_index new_block = Closes out index block new_out new_index × (new_block ≡ empty_block)
RoomMade false out index block new_out new_index new_block = (new_out ≡ out) × (new_index ≡ index) × (new_block ≡ block)

-- an entry is put into the open data block, which is closed before that where it is full
pub record EntryPut (out : List ℕ) (index block : Building) (key value : List ℕ) (new_out : List ℕ) (new_index new_block : Building) : Type 0 where
  pub mid : Building
  pub room : RoomMade (is_closed_next block) out index block new_out new_index mid
  pub put : new_block ≡ with_entry mid key value

-- The bytes of the closed data blocks, the index and the open data block are those of these entries.
pub record IsData (entries : List KeyValue) (out : List ℕ) (index block : Building) : Type 0 where
  pub front : List (List KeyValue)
  pub groups : open_groups entries ≡ front ++ block.entries ∷ []
  pub every : block.restart_every ≡ 16
  pub written : out ≡ flat_map stored (blocks_with front)
  pub indexed : index ≡ record { restart_every = 1; entries = index_entries front }
  pub small : length (built_block index) + weight block.entries ≤ 8 + weight entries

-- all data blocks are closed
pub record DataEnds (entries : List KeyValue) (out index : List ℕ) : Type 0 where
  pub written : out ≡ flat_map stored (blocks_with (grouped is_full entries))
  pub indexed : index ≡ block_bytes 1 (index_entries (grouped is_full entries))
