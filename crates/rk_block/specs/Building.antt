-- What contracts see of a block that is built.
use Rattle.std.specs.Prelude.{◌≡◌, ℕ, ◌+◌, ◌^◌, ◌<◌, ◌≤◌, Bool, List, [], ◌∷◌, ◌++◌, length, map, flat_map, if◌then◌else◌, Result, Ok, Err}
use Rattle.std.specs.List.{concat}
use Rattle.rk_bytes.specs.declared.memory.Memory.{Memory}
use Rattle.rk_bytes.specs.Model.Numbers.{fixed_of}
use Rattle.rk_bytes.specs.Model.Writers.{KeyValue, run_bytes, entry_runs, beginnings, block_bytes, last_entry_key}

-- at how many entries each there is a restart, and the entries so far
pub record Building : Type 0 where
  pub restart_every : ℕ
  pub entries : List KeyValue

-- the entries that were noted
abbrev pub noted_entries : List (List ℕ × List ℕ × List ℕ) → List KeyValue
noted_entries notes = map (λ note. (note.1, note.2)) notes

-- the block if it ended here
abbrev pub built_block : Building → List ℕ
built_block building = block_bytes building.restart_every building.entries

-- one entry more
abbrev pub with_entry : Building → List ℕ → List ℕ → Building
with_entry building key value = record building { entries = building.entries ++ (key, value) ∷ [] }

-- the key that an entry is written after: none at a restart
abbrev pub key_before : Bool → List ℕ → List ℕ
key_before restarts last = if restarts then [] else last

-- the restart offset that is written with an entry
abbrev pub offset_bytes : Bool → ℕ → List ℕ
offset_bytes restarts place = if restarts then fixed_of 4 place else []

-- the bytes are added, or where memory ran out some bytes are
abbrev pub Extends : List ℕ → List ℕ → Result (Unit {0}) Memory → List ℕ → Type 0
Extends old added (Ok done) new = new ≡ old ++ added
Extends old added (Err memory) new = (more : List ℕ) × (new ≡ old ++ more)

-- The bytes of the entries, the bytes of the restart offsets but for the first, the last key and how many entries
-- came since the last restart are those of these entries.
pub record IsBuilt (restart_every : ℕ) (entries : List KeyValue) (bytes offsets last : List ℕ) (count : ℕ) : Type 0 where
  pub front : List (List KeyValue)
  pub run : List KeyValue
  pub some : 1 ≤ restart_every
  pub runs : entry_runs restart_every entries ≡ front ++ run ∷ []
  pub spelled : bytes ≡ concat (map run_bytes (front ++ run ∷ []))
  pub restarts : fixed_of 4 0 ++ offsets ≡ flat_map (fixed_of 4) (beginnings (map run_bytes (front ++ run ∷ [])))
  pub last_is : last ≡ last_entry_key run
  pub ends : last ≡ last_entry_key entries
  pub counted : count ≡ length run
  pub few : count ≤ restart_every
  pub fits : length bytes + length offsets + 8 < 2 ^ 32
