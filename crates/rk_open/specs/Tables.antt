-- What the tables that a version lists are to opening.
use Rattle.std.specs.Prelude.{◌≡◌, ℕ, ◌≤◌, List, ◌++◌, map, flat_map, Option, Some, IfSome, Result, Ok, Err, if◌then◌else◌}
use Rattle.std.specs.FinMap.{get}
use Rattle.std.specs.List.{AllByRecursion}
use Rattle.rk_bytes.specs.declared.model.key.Record.{Record}
use Rattle.rk_bytes.specs.declared.model.manifest.FamilyState.{FamilyState}
use Rattle.rk_bytes.specs.declared.model.manifest.FileMeta.{FileMeta}
use Rattle.rk_bytes.specs.declared.model.open.OpenErr.{OpenErr}
use Rattle.rk_bytes.specs.declared.model.open.OpenErr.TheVariants.{OutOfBounds}
use Rattle.rk_bytes.specs.declared.model.block.RangeDel.{RangeDel}
use Rattle.rk_bytes.specs.declared.model.view.Cut.{Cut}
use Rattle.rk_bytes.specs.declared.model.view.Tomb.{Tomb}
use Rattle.rk_bytes.specs.Model.BlockEntries.{collected}
use Rattle.rk_bytes.specs.Model.DiskImages.{Directory}
use Rattle.rk_bytes.specs.Model.InternalKey.{top_sequence}
use Rattle.rk_bytes.specs.Model.KeyView.{State, tomb_of}
use Rattle.rk_bytes.specs.Model.Opening.{Files, Listed, TableFile, are_within, greatest_sequence, of_family, range_record, table_file, table_records, table_tombs}
use Rattle.rk_bytes.specs.Model.Records.{over, last_records}
use Rattle.rk_bytes.specs.Model.TableStatus.{Good}
use Rattle.rk_version.specs.Bounds.{HasWholeBounds}
use Rattle.rk_sst.specs.Seen.{OpenSeen}
use Rattle.rk_sst.specs.Opened.{IsOpen, records_left}
use Rattle.rk_open.specs.declared.listed.ListedTable.{ListedTable}

-- a listed table, as the definition has it
abbrev pub listed_of : ListedTable → Listed
listed_of table = record { family = table.family; file = table.file.now }

-- the bounds of all files of the families are long enough for internal keys
abbrev pub HaveWholeBounds : List FamilyState → Type 0
HaveWholeBounds families = AllByRecursion (λ live. AllByRecursion HasWholeBounds live.files) families

-- records of a table, where all of them lie within the bounds that are stated for its file
abbrev pub run_within : FileMeta → List Record → Result (List Record) OpenErr
run_within file records = if are_within file records then Ok records else Err (OutOfBounds file.number)

-- A listed table is open: it is good, all of its records are left, under the family that the manifest gives it,
-- and of what is tested only their bounds are not yet.
pub record IsListed (files : Directory) (listed : Listed) (seen : OpenSeen) : Type 0 where
  pub good : Good
  pub is : table_file (get files) listed ≡ (if are_within listed.file good.records then Ok (record { listed = listed; good = good }) else Err (OutOfBounds listed.file.number))
  pub left : records_left seen files ≡ map (of_family listed.family) good.records
  pub ranges : seen.table.ranges ≡ good.table.ranges
  pub opened : IsOpen seen files

-- the bounds that a table's range deletions are cut to
abbrev pub bounds_of : Listed → Option Cut
bounds_of listed = Some (record { smallest = listed.file.smallest; largest = listed.file.largest })

-- the range deletions of a table, cut to these bounds
abbrev pub cut_ranges : Listed → List RangeDel → List Tomb
cut_ranges listed ranges = map (tomb_of (bounds_of listed)) (map (range_record listed.family) ranges)

-- These records and range deletions were added to a state.
pub record Adds (records : List Record) (tombs : List Tomb) (old new : State) : Type 0 where
  pub families : new.families ≡ old.families
  pub records_are : new.records ≡ over old.records (last_records records)
  pub tombs_are : new.tombs ≡ old.tombs ++ tombs

-- a listed table holds these records and range deletions
pub record IsTable (files : Files) (listed : Listed) (records : List Record) (tombs : List Tomb) : Type 0 where
  pub table : TableFile
  pub is : table_file files listed ≡ Ok table
  pub records_are : records ≡ table_records table
  pub tombs_are : tombs ≡ table_tombs table

-- Records and range deletions were added, with this greatest sequence number, which an internal key can hold.
-- They are those of the listed table, where the disk tells its files.
pub record AddsTable (disk : Option Directory) (listed : Listed) (old new : State) (top : ℕ) : Type 0 where
  pub records : List Record
  pub tombs : List Tomb
  pub adds : Adds records tombs old new
  pub top_is : top ≡ greatest_sequence records
  pub bound : top ≤ top_sequence
  pub told : IfSome disk (λ d. IsTable (get d) listed records tombs)

-- listed tables hold these records and range deletions
pub record AreTables (files : Files) (listed : List Listed) (records : List Record) (tombs : List Tomb) : Type 0 where
  pub tables : List TableFile
  pub are : collected (table_file files) listed ≡ Ok tables
  pub records_are : records ≡ flat_map table_records tables
  pub tombs_are : tombs ≡ flat_map table_tombs tables

-- the same of listed tables, one after another
pub record AddsTables (disk : Option Directory) (listed : List Listed) (old new : State) (top : ℕ) : Type 0 where
  pub records : List Record
  pub tombs : List Tomb
  pub adds : Adds records tombs old new
  pub top_is : top ≡ greatest_sequence records
  pub bound : top ≤ top_sequence
  pub told : IfSome disk (λ d. AreTables (get d) listed records tombs)
