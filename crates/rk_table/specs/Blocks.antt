-- What is kept of the records of one data block.
use Rattle.std.specs.Prelude.{◌≡◌, ℕ, ◌+◌, ◌-◌, ◌^◌, ◌≤◌, Bool, true, min, max, List, [], ◌∷◌, length, map, fold, Option, Some, None, unwrap_or, if◌then◌else◌, Result, Ok, Err}
use Rattle.rk_bytes.specs.declared.model.block.IndexEntry.{IndexEntry}
use Rattle.rk_bytes.specs.declared.model.table.TableWhy.TheVariants.{BadSeparator}
use Rattle.rk_bytes.specs.Model.Numbers.{◌>>=◌}
use Rattle.rk_bytes.specs.Model.InternalKey.{key_cmp}
use Rattle.rk_bytes.specs.Model.TableStatus.{TableFault, damaged, DataEntry, is_above, last_key, are_separated}
use Rattle.rk_table.specs.declared.status.WalkErr.{WalkErr}
use Rattle.rk_table.specs.declared.walk.Walk.{Walk}
use Rattle.rk_table.specs.declared.records.Records.{Records}
use Rattle.rk_table.specs.Told.{Tells}
use Rattle.rk_table.specs.Walks.{before_of, walk_left, block_told}

-- the records of one data block, after the key and the separator before it, or the first fault
abbrev pub data_told : Bool → Option (List ℕ) → Option (List ℕ) → IndexEntry → List ℕ → Result (List DataEntry) TableFault
data_told by_user before lower at block = do
  records ← block_told at.block.offset before block
  if are_separated by_user lower at.separator records then Ok records else Err (damaged BadSeparator at.block.offset)

-- the keys have at least 8 bytes, and each is above the one before it
abbrev pub Rise : Option (List ℕ) → List DataEntry → Type 0
Rise before [] = Unit {0}
Rise before (entry ∷ entries) = (8 ≤ length entry.key) × (is_above key_cmp entry.key before ≡ true) × Rise (Some entry.key) entries

-- the greatest sequence number, and at least this one
abbrev pub top_with : ℕ → List DataEntry → ℕ
top_with top entries = fold max top (map (λ entry. entry.parts.sequence) entries)

-- the records that are left, of which these are the count, with the entries before, and the greatest sequence
-- number; this is the key of the last
pub record Counted (walk : Walk) (entries top : ℕ) (counted : ℕ × ℕ) (key : List ℕ) : Type 0 where
  pub more : List DataEntry
  pub left : walk_left walk ≡ Ok more
  pub entries_are : counted.0 ≡ min (entries + length more) (2 ^ 64 - 1)
  pub top_is : counted.1 ≡ top_with top more
  pub last : key ≡ unwrap_or (last_key more) walk.key
  pub rise : Rise (before_of walk) more

-- what is counted to the end of a walk, or an error
abbrev pub Counts : Walk → ℕ → ℕ → Result (ℕ × ℕ) WalkErr → List ℕ → Type 0
Counts walk entries top (Ok counted) key = Counted walk entries top counted key
Counts walk entries top (Err error) key = Tells (Err error) (walk_left walk)

-- what is kept is that of these records
pub record AreRecords (before : Option (List ℕ)) (told : Result (List DataEntry) TableFault) (records : Records) : Type 0 where
  pub first : DataEntry
  pub more : List DataEntry
  pub is : told ≡ Ok (first ∷ more)
  pub entries_are : records.entries ≡ min (length (first ∷ more)) (2 ^ 64 - 1)
  pub top_is : records.top ≡ top_with 0 (first ∷ more)
  pub first_is : records.first ≡ first.key
  pub last_is : records.last ≡ unwrap_or (last_key more) first.key
  pub rise : Rise before (first ∷ more)
  pub last_long : 8 ≤ length records.last

-- what is kept of records, or the error
abbrev pub Sees : Option (List ℕ) → Result (List DataEntry) TableFault → Result Records WalkErr → Type 0
Sees before told (Ok records) = AreRecords before told records
Sees before told (Err error) = Tells (Err error) told

-- the same where there may be none
abbrev pub SeesRecords : Option (List ℕ) → Result (List DataEntry) TableFault → Result (Option Records) WalkErr → Type 0
SeesRecords before told (Ok (Some records)) = AreRecords before told records
SeesRecords before told (Ok None) = told ≡ Ok []
SeesRecords before told (Err error) = Tells (Err error) told
