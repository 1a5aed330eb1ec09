-- The data records of a table that are left.
use Rattle.std.specs.Prelude.{◌≡◌, ℕ, ◌+◌, Bool, true, false, IfSome, List, [], ◌∷◌, ◌++◌, map, take, drop, Option, Some, None, Result, Ok, Err}
use Rattle.std.specs.List.{last_or}
use Rattle.rk_bytes.specs.declared.model.key.Record.{Record}
use Rattle.rk_bytes.specs.declared.model.table.TableRef.{TableRef}
use Rattle.rk_bytes.specs.Model.Numbers.{◌>>=◌}
use Rattle.rk_bytes.specs.Model.BlockEntries.{with_fault}
use Rattle.rk_bytes.specs.Model.TableFooter.{checked_block}
use Rattle.rk_bytes.specs.Model.TableStatus.{TableFault, BlockReader, DataEntry, Good, last_key, trailer_status, data_records, record_in, table_status}
use Rattle.rk_bytes.specs.declared.memory.Memory.{Memory}
use Rattle.rk_table.specs.declared.status.WalkErr.{WalkErr}
use Rattle.rk_table.specs.declared.status.WalkErr.TheVariants as err
use Rattle.rk_table.specs.declared.walk.Checked.{Checked}
use Rattle.rk_table.specs.declared.walk.Walk.{Walk}
use Rattle.rk_table.specs.Walks.{before_of, walk_left, IsWalk, handed_out, HandsOut}
use Rattle.rk_table.specs.Stages.{separator_before}

-- the records that are left, and whether memory ran out
pub record IterSeen : Type 0 where
  pub left : List Record
  pub failed : Bool

-- the bytes' status is good and this
abbrev pub IsGood : List ℕ → TableRef → Type 0
IsGood bytes table = (good : Good) × (table_status bytes ≡ Ok good) × (good.table ≡ table)

-- reads the data blocks of a table
abbrev pub blocks_of : List ℕ → TableRef → BlockReader
blocks_of bytes table handle = with_fault (trailer_status handle.offset) (checked_block (take table.start bytes) handle table.sum)

-- the records from the data block with this number on, after this key
abbrev pub from_block : List ℕ → TableRef → ℕ → Option (List ℕ) → Result (List DataEntry) TableFault
from_block bytes table number before = data_records (blocks_of bytes table) table.user_keys before (separator_before number table.index) (drop number table.index)

-- those after the records that are left of a walk over the block before
abbrev pub after_walk : List ℕ → TableRef → ℕ → Option (List ℕ) → Result (List DataEntry) TableFault → Result (List DataEntry) TableFault
after_walk bytes table number before told = do
  more ← told
  later ← from_block bytes table number (last_or before (map (λ entry. entry.key) more))
  Ok (more ++ later)

-- the entries that are left
abbrev pub entries_left : List ℕ → TableRef → ℕ → Option Walk → Result (List DataEntry) TableFault
entries_left bytes table number None = from_block bytes table number None
entries_left bytes table number (Some walk) = after_walk bytes table number (before_of walk) (walk_left walk)

abbrev pub records_told : ℕ → Result (List DataEntry) TableFault → List Record
records_told family (Ok entries) = map (record_in family) entries
records_told family (Err fault) = []

-- the records that are left
abbrev pub records_left : List ℕ → TableRef → ℕ → Option Walk → List Record
records_left bytes table number walk = records_told table.family (entries_left bytes table number walk)

-- the key of the last record that was handed out
abbrev pub last_of : Option Walk → Option (List ℕ)
last_of None = None
last_of (Some walk) = before_of walk

-- the entries that are left read
pub record Running (bytes : List ℕ) (table : TableRef) (number : ℕ) (walk : Option Walk) : Type 0 where
  pub entries : List DataEntry
  pub told : entries_left bytes table number walk ≡ Ok entries
  pub walks : IfSome walk IsWalk

-- what is true between the records of a table
pub record IsIter (bytes : List ℕ) (table : TableRef) (number : ℕ) (walk : Option Walk) (failed : Bool) : Type 0 where
  pub running : failed ≡ false → Running bytes table number walk

-- a record is handed out, or none is left
abbrev pub StepsOn : List ℕ → TableRef → ℕ → Option Walk → Result (Option Record) Memory → ℕ → Option Walk → Type 0
StepsOn bytes table number walk (Ok (Some one)) number' walk' = Running bytes table number' walk' × (records_left bytes table number walk ≡ one ∷ records_left bytes table number' walk')
StepsOn bytes table number walk (Ok None) number' walk' = Running bytes table number' walk' × (records_left bytes table number walk ≡ []) × (records_left bytes table number' walk' ≡ [])
StepsOn bytes table number walk (Err error) number' walk' = Unit {0}

-- a walk's next record
abbrev pub RecordOf : ℕ → Walk → Result (Option Record) Memory → Walk → Type 0
RecordOf family old (Ok (Some one)) new = (checked : Checked) × HandsOut old checked new × (one ≡ record_in family (handed_out checked new.key))
RecordOf family old (Ok None) new = (walk_left old ≡ Ok []) × (new ≡ old)
RecordOf family old (Err error) new = Unit {0}

-- a walk over the data block with this number, whose records and those after it are left
pub record Opened (bytes : List ℕ) (table : TableRef) (number : ℕ) (before : Option (List ℕ)) (walk : Walk) : Type 0 where
  pub is : IsWalk walk
  pub first : DataEntry
  pub more : List DataEntry
  pub here : walk_left walk ≡ Ok (first ∷ more)
  pub all : after_walk bytes table (number + 1) (before_of walk) (walk_left walk) ≡ from_block bytes table number before

-- The next record is handed out, or none is left. After an error none is handed out.
abbrev pub GivesNext : IterSeen → Result (Option Record) Memory → IterSeen → Type 0
GivesNext old (Ok (Some one)) new = (old.left ≡ one ∷ new.left) × (old.failed ≡ false) × (new.failed ≡ false)
GivesNext old (Ok None) new = (old.left ≡ []) × (new.left ≡ []) × (old.failed ≡ false) × (new.failed ≡ false)
GivesNext old (Err error) new = new.failed ≡ true

-- the first of these entries are the records of the data block with this number, and the others those of the blocks after it
pub record AreFirst (bytes : List ℕ) (table : TableRef) (number : ℕ) (entries : List DataEntry) (records : List Record) : Type 0 where
  pub front : List DataEntry
  pub rest : List DataEntry
  pub all : entries ≡ front ++ rest
  pub are : records ≡ map (record_in table.family) front
  pub after : from_block bytes table (number + 1) (last_key front) ≡ Ok rest

-- the records of the next data block are given, or memory ran out
abbrev pub TakesBlock : List ℕ → TableRef → ℕ → List DataEntry → Result (List Record) WalkErr → Type 0
TakesBlock bytes table number entries (Ok records) = AreFirst bytes table number entries records
TakesBlock bytes table number entries (Err error) = error ≡ err.Memory
