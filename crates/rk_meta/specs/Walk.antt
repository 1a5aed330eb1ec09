-- A walk over the entries of a block, beside the whole key of the last one.
use Rattle.std.specs.Prelude.{◌≡◌, ℕ, List, [], ◌∷◌, Option, Some, None, Result, Ok, Err, ⊤}
use Rattle.std.specs.Borrow.{Bor}
use Rattle.rk_bytes.specs.declared.memory.Memory.{Memory}
use Rattle.rk_bytes.specs.declared.model.block.IndexEntry.{IndexEntry}
use Rattle.rk_bytes.specs.declared.model.block.IndexFault.{IndexFault}
use Rattle.rk_bytes.specs.declared.model.block.Property.{Property}
use Rattle.rk_bytes.specs.declared.model.block.RangeDel.{RangeDel}
use Rattle.rk_bytes.specs.declared.model.block.RangeFault.{RangeFault}
use Rattle.rk_bytes.specs.Model.Numbers.{◌>>=◌}
use Rattle.rk_bytes.specs.Model.BlockEntries.{Entry, with_handle, index_entry}
use Rattle.rk_bytes.specs.Model.TableStatus.{range_of}
use Rattle.rk_bytes.specs.Model.InternalKey.{key_parts}
use Rattle.rk_block.specs.Seen.{EntriesSeen}

-- An entry was passed, which has this value.
pub record Passes (old new : EntriesSeen) (value : List ℕ) : Type 0 where
  pub entry : Entry (List ℕ)
  pub left : old.left ≡ entry ∷ new.left
  pub key : entry.key ≡ new.key
  pub value_is : entry.value ≡ value

-- the next entry was passed, or there is none
abbrev pub GoesOn : EntriesSeen → EntriesSeen → Result (Option (Bor (List ℕ))) Memory → Type 0
GoesOn old new (Ok (Some value)) = Passes old new value.now
GoesOn old new (Ok None) = old.left ≡ []
GoesOn old new (Err fault) = ⊤

-- the property that an entry is
abbrev pub property_of : Entry (List ℕ) → Property
property_of entry = record { name = entry.key; value = entry.value }

-- the range deletion that an entry is
abbrev pub range_in : Entry (List ℕ) → Result RangeDel RangeFault
range_in entry = range_of entry (key_parts entry.key)

-- the index's entry that an entry with a whole handle is
abbrev pub whole_entry : Entry (List ℕ) → Result IndexEntry IndexFault
whole_entry entry = do
  one ← with_handle entry
  Ok (index_entry one)

-- an entry with this key and this value
abbrev pub entry_with : List ℕ → List ℕ → Entry (List ℕ)
entry_with key value = record { place = 0; shared = 0; key = key; value = value }
