-- A table that is opened on a disk, and the records that are left of it.
use Rattle.std.specs.Prelude.{◌≡◌, ℕ, ◌+◌, ◌<◌, ◌≤◌, List, [], ◌++◌, length, Option, Some, None, option_map, Result, Ok, Err}
use Rattle.std.specs.FinMap.{get}
use Rattle.rk_bytes.specs.declared.model.key.Record.{Record}
use Rattle.rk_bytes.specs.Model.DiskImages.{Directory}
use Rattle.rk_bytes.specs.Model.FileNames.{table_name}
use Rattle.rk_bytes.specs.Model.TableStatus.{TableFault, damaged, unsupported, DataEntry, Good, table_status}
use Rattle.rk_table.specs.Left.{from_block, records_told}
use Rattle.rk_table.specs.Steps.{AreBelowTop}
use Rattle.rk_cache.specs.Answers.{table_in, HoldsFor}
use Rattle.rk_sst.specs.declared.error.SstErr.{SstErr}
use Rattle.rk_sst.specs.declared.error.SstErr.TheVariants.{NoTable, Damaged, Unsupported, DiskFault, Memory}
use Rattle.rk_sst.specs.Errors.{IsCause}
use Rattle.rk_sst.specs.Seen.{OpenSeen}

-- the records from the next data block on
abbrev pub records_left : OpenSeen → Directory → List Record
records_left seen files = records_told seen.table.family (from_block (table_in files seen.number) seen.table seen.block seen.last)

-- the entries that are left read, and the blocks that are kept are the disk's
pub record IsOpen (seen : OpenSeen) (files : Directory) : Type 0 where
  pub entries : List DataEntry
  pub told : from_block (table_in files seen.number) seen.table seen.block seen.last ≡ Ok entries
  pub holds : HoldsFor seen.cache.kept files

-- a table of this number is there, and has so many bytes
abbrev pub HasLength : ℕ → ℕ → Directory → Type 0
HasLength number len files = option_map length (get files (table_name number)) ≡ Some len

-- the table is there, it is good and this, and all of its records are left
pub record OpensGood (files : Directory) (number : ℕ) (seen : OpenSeen) : Type 0 where
  pub bytes : List ℕ
  pub file : get files (table_name number) ≡ Some bytes
  pub good : Good
  pub status : table_status bytes ≡ Ok good
  pub table : seen.table ≡ good.table
  pub records : records_left seen files ≡ good.records
  pub opened : IsOpen seen files

-- the table is there, and this is its first fault
pub record HasFault (files : Directory) (number : ℕ) (fault : TableFault) : Type 0 where
  pub bytes : List ℕ
  pub file : get files (table_name number) ≡ Some bytes
  pub status : table_status bytes ≡ Err fault

-- A table's opening. Of a fault of the disk, and of want of memory, nothing is said.
abbrev pub Opens : Directory → ℕ → Result OpenSeen SstErr → Type 0
Opens files number (Ok seen) = OpensGood files number seen
Opens files number (Err NoTable) = get files (table_name number) ≡ None
Opens files number (Err (Damaged why place)) = HasFault files number (damaged why place)
Opens files number (Err (Unsupported what)) = HasFault files number (unsupported what)
Opens files number (Err DiskFault) = Unit {0}
Opens files number (Err Memory) = Unit {0}

-- no range deletion of an open table has a sequence number that an internal key can't hold
abbrev pub HasSequences : OpenSeen → Type 0
HasSequences seen = AreBelowTop seen.table.ranges

-- the records of the next data block are given, or none is left
abbrev pub GivesNext : OpenSeen → Directory → Result (Option (List Record)) SstErr → OpenSeen → Type 0
GivesNext old files (Ok (Some records)) new = records_left old files ≡ records ++ records_left new files
GivesNext old files (Ok None) new = records_left old files ≡ []
GivesNext old files (Err error) new = IsCause error

-- which data block is next: none is left where none is given, and after an error it is the same
abbrev pub Steps : OpenSeen → Result (Option (List Record)) SstErr → ℕ → Type 0
Steps old (Ok (Some records)) block = (old.block < length old.table.index) × (block ≡ old.block + 1)
Steps old (Ok None) block = (length old.table.index ≤ old.block) × (block ≡ old.block)
Steps old (Err error) block = block ≡ old.block
