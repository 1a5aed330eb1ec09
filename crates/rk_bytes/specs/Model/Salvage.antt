-- Salvage: the records that a directory's tables and logs still hold, whatever its manifests say
-- (RocksDB's wiki, "RocksDB Repairer"; db/repair.cc). What is taken and in which order, and the refusals, are
-- this project's own rules.
use Rattle.std.specs.Prelude.{◌≡◌, ℕ, zero, suc, ◌+◌, ◌^◌, Bool, true, false, not, ◌&&◌, ◌||◌, List, [], ◌∷◌, ◌++◌, length, map, flat_map, filter, filter_map, fold, min, max, sum_by, replicate, slice_get, nat_lt, nat_le, ◌==◌, if◌then◌else◌, Option, Some, None, option_map, unwrap_or, is_some, Result, Ok, Err, bytes_eq, codes, refl}
use Rattle.std.specs.List.{list_any, reduce, find as first_that}
use Rattle.std.specs.Fmt.{digits}
use Rattle.std.specs.FinMap.{entries, values}
use Rattle.std.specs.FinMap.Entries.{put, find}
use Rattle.std.specs.Option.{option_map_or}
use Rattle.rk_bytes.specs.declared.model.log.EndKind.TheVariants.{Clean, Torn, Unsupported}
use Rattle.rk_bytes.specs.declared.model.key.Kind.TheVariants.{Value}
use Rattle.rk_bytes.specs.declared.model.key.Record.{Record}
use Rattle.rk_bytes.specs.declared.model.batch.BatchFault.{BatchFault}
use Rattle.rk_bytes.specs.declared.model.batch.BatchFault.TheVariants.{UnsupportedTag}
use Rattle.rk_bytes.specs.declared.model.block.RangeDel.{RangeDel}
use Rattle.rk_bytes.specs.declared.model.block.IndexEntry.{IndexEntry}
use Rattle.rk_bytes.specs.declared.model.table.Footer.{Footer}
use Rattle.rk_bytes.specs.declared.model.table.TableWhat.TheVariants.{Comparator}
use Rattle.rk_bytes.specs.declared.model.table.TableWhy.TheVariants.{OutOfFile}
use Rattle.rk_bytes.specs.declared.model.log.GapWhy.TheVariants.{Checksum}
use Rattle.rk_bytes.specs.declared.model.wal.LogWhat.{LogWhat}
use Rattle.rk_bytes.specs.declared.model.wal.LogWhat.TheVariants.{RecordType, Tag}
use Rattle.rk_bytes.specs.declared.model.name.FileName.{FileName}
use Rattle.rk_bytes.specs.declared.model.name.FileName.TheVariants.{Manifest, Log, Table, Temp, Lost}
use Rattle.rk_bytes.specs.declared.model.salvage.SurveyErr.{SurveyErr}
use Rattle.rk_bytes.specs.declared.model.salvage.SurveyErr.TheVariants.{NumbersExhausted, UnsupportedTable, UnsupportedLog, FamilyTooLarge}
use Rattle.rk_bytes.specs.declared.model.salvage.FamilyName.{FamilyName}
use Rattle.rk_bytes.specs.declared.model.salvage.Kept.{Kept}
use Rattle.rk_bytes.specs.declared.model.salvage.Moved.{Moved}
use Rattle.rk_bytes.specs.declared.model.salvage.Report.{Report}
use Rattle.rk_bytes.specs.Model.Numbers.{in_turn}
use Rattle.rk_bytes.specs.Model.Checksums.{pieces, crc_bit, crc_bits, crc_bytes, crc32c}
use Rattle.rk_bytes.specs.Model.BlockEntries.{block_entries, entries_after}
use Rattle.rk_bytes.specs.Model.TableFooter.{footer_of}
use Rattle.rk_bytes.specs.Model.TableStatus.{TableFault, damaged, unsupported, BlockReader, reader_of, DataEntry, data_block, record_in, is_set, user_separators, family_of, family_name_of, is_range_deletion, TableHead, head_with, Good, table_status}
use Rattle.rk_bytes.specs.Model.LogMarks.{log_marks, blocks_marks, block_len, marks_from, fragment_found, found}
use Rattle.rk_bytes.specs.Model.DiskImages.{Directory}
use Rattle.rk_bytes.specs.Model.FileNames.{name_of, log_name, table_name, lost_name}
use Rattle.rk_bytes.specs.Model.LogItems.{Item, rec, gap, end, log_items}
use Rattle.rk_bytes.specs.Model.WriteBatch.{Batch, changes, batch_of}
use Rattle.rk_bytes.specs.Model.VersionEdit.{added_in, edit_fields}
use Rattle.rk_bytes.specs.declared.model.view.Tomb.{Tomb}
use Rattle.rk_bytes.specs.Model.KeyView.{State, tomb_of, is_covered}
use Rattle.rk_bytes.specs.Model.Opening.{in_order, range_record}
use Rattle.rk_bytes.specs.Model.Records.{Slot, slot_of, slot_cmp, end_of, RecordMap, slotted, last_records}

-- the value of an answer, or an empty list
abbrev pub list_or_none : {A F : Type 0} → Result (List A) F → List A
list_or_none (Ok list) = list
list_or_none (Err why) = []

-- What can be read of a damaged table: its family, its range deletions, and records of some of its blocks.
pub record TablePart : Type 0 where
  pub family : ℕ
  pub name : List ℕ
  pub ranges : List RangeDel
  pub records : List Record

-- The records of each data block that passes its tests by itself, in the index's order. No key is compared
-- with one of another block, and a block that fails gives nothing.
unfoldable pub readable_records : BlockReader → Bool → Option (List ℕ) → List IndexEntry → List DataEntry
readable_records block_of by_user lower [] = []
readable_records block_of by_user lower (at ∷ index) =
    list_or_none (data_block block_of by_user None lower at) ++ readable_records block_of by_user (Some at.separator) index

-- the part of a table with this head
abbrev pub part_of_head : BlockReader → TableHead → TablePart
part_of_head block_of head = record {
  family = family_of head.properties;
  name = family_name_of head.properties;
  ranges = head.ranges;
  records = map (record_in (family_of head.properties)) (readable_records block_of (is_set (user_separators head.properties)) None head.index);
}

-- the part of a table with this footer
abbrev pub part_with : List ℕ → Footer → Option TablePart
part_with table footer =
    let block_of = reader_of table footer in
    elim (head_with block_of footer) [ Ok head ↦ Some (part_of_head block_of head) | Err why ↦ None ]

-- The part of a table, which has none just where its footer, its metaindex, its properties, its range
-- deletions or its index have a fault.
unfoldable pub table_part : List ℕ → Option TablePart
table_part table = elim (footer_of table) [ Ok footer ↦ part_with table footer | Err why ↦ None ]

-- the files of a directory, each with its name, in the order of the names
abbrev pub Files : Type 0
Files = List (List ℕ × List ℕ)

-- the number of a table's name
abbrev pub table_number : FileName → Option ℕ
table_number (Table n) = Some n
table_number _ = None

-- the number of a log's name
abbrev pub log_number : FileName → Option ℕ
log_number (Log n) = Some n
log_number _ = None

-- the number of a manifest's name
abbrev pub manifest_number : FileName → Option ℕ
manifest_number (Manifest n) = Some n
manifest_number _ = None

-- the number of a temporary file's name
abbrev pub temp_number : FileName → Option ℕ
temp_number (Temp n) = Some n
temp_number _ = None

-- the number of any name that has one
abbrev pub number_of_name : FileName → Option ℕ
number_of_name (Manifest n) = Some n
number_of_name (Log n) = Some n
number_of_name (Table n) = Some n
number_of_name (Temp n) = Some n
number_of_name _ = None

-- the name stands below `lost/`
abbrev pub is_lost : FileName → Bool
is_lost Lost = true
is_lost _ = false

-- a file with its number, if its name is of one kind
abbrev pub with_number : (FileName → Option ℕ) → List ℕ × List ℕ → Option (ℕ × List ℕ)
with_number number_in file = option_map (λ n. (n, file.1)) (number_in (name_of file.0))

-- the files with names of one kind, each with its number, in rising number
unfoldable pub numbered : (FileName → Option ℕ) → Files → List (ℕ × List ℕ)
numbered number_in files = in_order (λ file. file.0) (filter_map (with_number number_in) files)

-- the numbers of such files
abbrev pub numbers : List (ℕ × List ℕ) → List ℕ
numbers files = map (λ file. file.0) files

-- the numbers of the tables that a record of a manifest adds, if it reads as an edit
abbrev pub numbers_added : Item → List ℕ
numbers_added (rec payload place) = map (λ new. new.number) (filter_map added_in (list_or_none (edit_fields payload)))
numbers_added _ = []

-- the greatest number in a name, and of a table that a record of a manifest adds, 0 with none
unfoldable pub greatest_number : Files → ℕ
greatest_number files =
    fold max 0 (filter_map (λ file. number_of_name (name_of file.0)) files
    ++ flat_map (λ manifest. flat_map numbers_added (log_items 0 manifest.1)) (numbered manifest_number files))

-- A table's file as it is found: its status and, where it is damaged, what can be read of it.
pub record TableFile : Type 0 where
  pub number : ℕ
  pub size : ℕ
  pub status : Result Good TableFault
  pub part : Option TablePart

-- a table of this status is damaged
abbrev pub is_damaged : Result Good TableFault → Bool
is_damaged (Err (damaged why place)) = true
is_damaged _ = false

-- the table of this number and these bytes, whose status is this
abbrev pub found_table : ℕ × List ℕ → Result Good TableFault → TableFile
found_table file status = record {
  number = file.0;
  size = length file.1;
  status = status;
  part = elim (is_damaged status) [ true ↦ table_part file.1 | false ↦ None ];
}

-- The files of a directory as they are found: all, the tables, and the logs with their items.
pub record FoundFiles : Type 0 where
  pub files : Files
  pub tables : List TableFile
  pub logs : List (ℕ × List Item)

-- the files as they are found, tables and logs in rising number
abbrev pub found_files : Files → FoundFiles
found_files files = record {
  files = files;
  tables = map (λ file. found_table file (table_status file.1)) (numbered table_number files);
  logs = map (λ file. (file.0, log_items file.0 file.1)) (numbered log_number files);
}

-- What a table gives: the id and the name of its family, and its records, range deletions among them.
pub record TableRecords : Type 0 where
  pub number : ℕ
  pub family : ℕ
  pub name : List ℕ
  pub records : List Record

-- what the good table with this number gives
abbrev pub records_of_good : ℕ → Good → TableRecords
records_of_good number good = record {
  number = number;
  family = good.table.family;
  name = good.table.family_name;
  records = good.records ++ map (range_record good.table.family) good.table.ranges;
}

-- what the part of the damaged table with this number gives
abbrev pub records_of_part : ℕ → TablePart → TableRecords
records_of_part number part = record {
  number = number;
  family = part.family;
  name = part.name;
  records = part.records ++ map (range_record part.family) part.ranges;
}

-- what a table gives, if it is good
abbrev pub given_by_good : TableFile → Option TableRecords
given_by_good table = elim table.status [ Ok good ↦ Some (records_of_good table.number good) | Err why ↦ None ]

-- the same, if there is a record
abbrev pub if_some_record : TableRecords → Option TableRecords
if_some_record table = elim table.records [ [] ↦ None | r ∷ records ↦ Some table ]

-- what a table gives, if it is damaged and a record or a range deletion can be read
abbrev pub given_by_damaged : TableFile → Option TableRecords
given_by_damaged table = elim table.part [ Some part ↦ if_some_record (records_of_part table.number part) | None ↦ None ]

-- the families that are known from the start: the default one
abbrev pub first_families : List FamilyName
first_families = record { id = 0; name = codes "default" } ∷ []

-- A table contradicts: its family's id is known under another name, or its name under another id.
abbrev pub contradicts : List FamilyName → TableRecords → Bool
contradicts known table =
    list_any (λ family. family.id == table.family && not (bytes_eq family.name table.name)) known
    || list_any (λ family. not (family.id == table.family) && bytes_eq family.name table.name) known

-- the known families and a table's own, in rising id
abbrev pub with_family_of : List FamilyName → TableRecords → List FamilyName
with_family_of known table =
    filter (λ family. nat_lt family.id table.family) known
    ++ record { id = table.family; name = table.name } ∷ filter (λ family. nat_lt table.family family.id) known

-- the known families and those of tables
abbrev pub with_families_of : List FamilyName → List TableRecords → List FamilyName
with_families_of known tables = fold with_family_of known tables

-- Tables are taken in order: those that don't contradict the families known at their turn, where each that is
-- taken makes its own family known.
unfoldable pub agreeing : List FamilyName → List TableRecords → List TableRecords
agreeing known [] = []
agreeing known (table ∷ tables) =
    elim (contradicts known table) [ true ↦ agreeing known tables | false ↦ table ∷ agreeing (with_family_of known table) tables ]

-- the good tables that are kept
abbrev pub kept_tables : FoundFiles → List TableRecords
kept_tables found = agreeing first_families (filter_map given_by_good found.tables)

-- the damaged tables that are partly read: they are taken after all good ones
abbrev pub partly_read : FoundFiles → List TableRecords
partly_read found = agreeing (with_families_of first_families (kept_tables found)) (filter_map given_by_damaged found.tables)

-- the families that are known once all tables are taken
abbrev pub known_families : FoundFiles → List FamilyName
known_families found = with_families_of first_families (kept_tables found ++ partly_read found)

-- the records of a batch, which has none where it doesn't read
abbrev pub changes_of : Result Batch BatchFault → List Record
changes_of (Ok batch) = changes batch.parts
changes_of (Err why) = []

-- the records of a log's item
abbrev pub item_records : Item → List Record
item_records (rec payload place) = changes_of (batch_of payload)
item_records _ = []

-- the record's family is one of these
abbrev pub is_known : List FamilyName → Record → Bool
is_known families r = list_any (λ family. family.id == r.family) families

-- the records of known families in the logs, in order
abbrev pub log_records : List FamilyName → List (ℕ × List Item) → List Record
log_records families logs = filter (is_known families) (flat_map (λ log. flat_map item_records log.1) logs)

-- the records of tables, in order
abbrev pub all_records : List TableRecords → List Record
all_records tables = flat_map (λ table. table.records) tables

-- the records of the kept tables
abbrev pub kept_records : FoundFiles → List Record
kept_records found = all_records (kept_tables found)

-- All records that are taken, each over those before it: of the tables that are partly read, of the kept tables, of
-- the logs.
abbrev pub taken_records : FoundFiles → List Record
taken_records found = all_records (partly_read found) ++ (kept_records found ++ log_records (known_families found) found.logs)

-- Entries in the order of their slots. Of two in one slot the first counts.
unfoldable pub placed : List (Slot × Record) → List (Slot × Record)
placed [] = []
placed (entry ∷ entries) = put slot_cmp entry.0 entry.1 (placed entries)

-- the entries of the map of a list's last records, in their order (law `records_in_order`)
abbrev pub last_placed : List Record → List (Slot × Record)
last_placed records = placed (slotted records)

-- the last record in each slot of a list, in the order of the slots
abbrev pub last_in_order : List Record → List Record
last_in_order records = map (λ entry. entry.1) (last_placed records)

-- one of the entries stands in the record's slot and has its value
abbrev pub is_held : List (Slot × Record) → Record → Bool
is_held held r = option_map_or (λ other. bytes_eq other.value r.value) (find slot_cmp (slot_of r) held) false

-- the last records of a list that those of another don't hold with the same value
abbrev pub not_held : List Record → List Record → List Record
not_held held records = filter (λ r. not (is_held (last_placed held) r)) (last_in_order records)

-- The records that tables have to be added for, in the order of their slots: those that the kept tables
-- alone don't hold with the same value.
abbrev pub remainder_of : FoundFiles → List Record
remainder_of found = not_held (kept_records found) (taken_records found)

-- what in a table isn't supported
abbrev pub unsupported_in_table : TableFile → Option SurveyErr
unsupported_in_table table = elim table.status [
  | Ok good ↦ None
  | Err (damaged why place) ↦ None
  | Err (unsupported what) ↦ Some (UnsupportedTable table.number what)
]

-- the tag in a batch that isn't supported, if it is the batch's first fault
abbrev pub unsupported_tag : Result Batch BatchFault → Option LogWhat
unsupported_tag (Err (UnsupportedTag tag)) = Some (Tag tag)
unsupported_tag _ = None

-- what in a log's item isn't supported
abbrev pub unsupported_in_item : Item → Option LogWhat
unsupported_in_item (rec payload place) = unsupported_tag (batch_of payload)
unsupported_in_item (gap why place) = None
unsupported_in_item (end (Unsupported kind) place) = Some (RecordType kind)
unsupported_in_item (end _ place) = None

-- the first thing in a log that isn't supported
abbrev pub unsupported_in_log : ℕ × List Item → Option SurveyErr
unsupported_in_log log = option_map (UnsupportedLog log.0) (slice_get (filter_map unsupported_in_item log.1) 0)

-- the lowest table that isn't supported, else the lowest log in which something isn't
abbrev pub refused_file : FoundFiles → Option SurveyErr
refused_file found = slice_get (filter_map unsupported_in_table found.tables ++ filter_map unsupported_in_log found.logs) 0

-- a family's records among these
abbrev pub in_family : FamilyName → List Record → List Record
in_family family records = filter (λ r. r.family == family.id) records

-- the length of a record's key and, of a range deletion, of its end
abbrev pub key_lens : Record → ℕ
key_lens r = length r.key + length (end_of r.kind r.value)

-- What one table can't hold: a name, a key or an end of 2 ^ 30 bytes; in what is added a value of 2 ^ 31 bytes,
-- or a name, keys and ends of as many in all, with 64 for each record.
abbrev pub is_too_large : List Record → List Record → FamilyName → Bool
is_too_large records remainder family =
    nat_le (2 ^ 30) (length family.name)
    || list_any (λ r. nat_le (2 ^ 30) (length r.key) || nat_le (2 ^ 30) (length (end_of r.kind r.value))) (in_family family records)
    || list_any (λ r. nat_le (2 ^ 31) (length r.value)) (in_family family remainder)
    || nat_le (2 ^ 31) (length family.name + sum_by (λ r. key_lens r + 64) (in_family family remainder))

-- the lowest family that would be too large
abbrev pub too_large : List FamilyName → List Record → List Record → Option SurveyErr
too_large families records remainder = option_map (λ family. FamilyTooLarge family.id) (first_that (is_too_large records remainder) families)

-- what is known of a kept table
abbrev pub kept_of_good : TableFile → Good → Kept
kept_of_good table good = let sequences = map (λ r. r.sequence) (records_of_good table.number good).records in record {
  number = table.number;
  size = table.size;
  family = good.table.family;
  smallest = good.table.smallest;
  largest = good.table.largest;
  least = unwrap_or (reduce min sequences) 0;
  greatest = fold max 0 sequences;
}

-- the table is one of these
abbrev pub has_number : List TableRecords → TableFile → Bool
has_number kept table = list_any (λ one. one.number == table.number) kept

-- what is known of a table, if it is one of the kept ones
abbrev pub kept_in : List TableRecords → TableFile → Option Kept
kept_in kept table = elim table.status [ Ok good ↦ if has_number kept table then Some (kept_of_good table good) else None | Err why ↦ None ]

-- What a salvage of a directory finds: the greatest number in use, the known families, the kept tables, the
-- numbers of the other tables, of the logs and of the temporary files, the names below `lost/`, and the records
-- that are admitted with those of them that tables have to be added for.
pub record Salvaged : Type 0 where
  pub greatest : ℕ
  pub families : List FamilyName
  pub kept : List Kept
  pub archived : List ℕ
  pub logs : List ℕ
  pub temps : List ℕ
  pub lost : List (List ℕ)
  pub records : RecordMap
  pub remainder : List Record

-- what a salvage of files that are found is
abbrev pub salvaged : FoundFiles → Salvaged
salvaged found = record {
  greatest = greatest_number found.files;
  families = known_families found;
  kept = filter_map (kept_in (kept_tables found)) found.tables;
  archived = map (λ table. table.number) (filter (λ table. not (has_number (kept_tables found) table)) found.tables);
  logs = map (λ log. log.0) found.logs;
  temps = numbers (numbered temp_number found.files);
  lost = filter (λ name. is_lost (name_of name)) (map (λ file. file.0) found.files);
  records = last_records (taken_records found);
  remainder = remainder_of found;
}

-- why these files aren't salvaged, but for their numbers: one that isn't supported, or a family that is too large
abbrev pub refusal : FoundFiles → Option SurveyErr
refusal found = elim (refused_file found) [
  | Some why ↦ Some why
  | None ↦ too_large (known_families found) (last_in_order (taken_records found)) (remainder_of found)
]

-- What is made of files that are found, unless the greatest number is too great or something else is refused.
abbrev pub unless_refused : {A : Type 0} → (FoundFiles → A) → FoundFiles → Result A SurveyErr
unless_refused make found =
    if nat_le (2 ^ 62) (greatest_number found.files) then Err (NumbersExhausted (greatest_number found.files))
    else elim (refusal found) [ Some why ↦ Err why | None ↦ Ok (make found) ]

-- what a salvage of the directory finds, or the first refusal
unfoldable pub salvage_of : Directory → Result Salvaged SurveyErr
salvage_of d = unless_refused salvaged (found_files (entries d))

-- a table or a log of the directory is refused, whatever its numbers and lengths are
unfoldable pub refuses_file : Directory → Bool
refuses_file d = is_some (refused_file (found_files (entries d)))

-- Of a directory of which no table and no log is refused, whatever its numbers and lengths are: its known families.
unfoldable pub salvage_families : Directory → List FamilyName
salvage_families d = known_families (found_files (entries d))

-- the records that are admitted
unfoldable pub salvage_records : Directory → RecordMap
salvage_records d = last_records (taken_records (found_files (entries d)))

-- the records of the kept tables alone
unfoldable pub tables_alone : Directory → RecordMap
tables_alone d = last_records (kept_records (found_files (entries d)))

-- the records that are admitted and that the kept tables alone don't hold with the same value
unfoldable pub remainder : Directory → List Record
remainder d = remainder_of (found_files (entries d))

-- the range deletions among the records that are admitted, with no bounds that they are cut to
abbrev pub uncut_tombs : Directory → List Tomb
uncut_tombs d = map (tomb_of None) (filter (λ r. is_range_deletion r.kind) (values (salvage_records d)))

-- The state is the salvage of the directory: it has the known families, the records that are admitted, and
-- range deletions that cover just what those among the records cover uncut.
pub record IsSalvage (state : State) (d : Directory) : Type 0 where
  pub families : map (λ line. record { id = line.id; name = line.name }) state.families ≡ salvage_families d
  pub records : state.records ≡ salvage_records d
  pub tombs : (r : Record) → is_covered state.tombs r ≡ is_covered (uncut_tombs d) r

-- the names below `lost/` for this name, from the one that is tried so late on, and so many more
abbrev pub lost_names : List ℕ → ℕ → ℕ → List (List ℕ)
lost_names name tried zero = lost_name name tried ∷ []
lost_names name tried (suc more) = lost_name name tried ∷ lost_names name (suc tried) more

-- The first name below `lost/` that isn't taken. One of the first is free, since more of them are looked at than
-- are taken (law `one_free_lost_name`).
unfoldable pub free_lost_name : List ℕ → List (List ℕ) → List ℕ
free_lost_name name taken = unwrap_or (first_that (λ lost. not (list_any (bytes_eq lost) taken)) (lost_names name 0 (length taken))) (lost_name name 0)

-- The files in the order in which they are moved, each with its name below `lost/`, which is free beside the
-- names that are taken and those given before it.
unfoldable pub moves : List (List ℕ) → List (List ℕ) → List Moved
moves taken [] = []
moves taken (name ∷ names) = let lost = free_lost_name name taken in record { name = name; lost = lost } ∷ moves (lost ∷ taken) names

-- How many families have records in the remainder: a table is added for each.
abbrev pub added_count : FoundFiles → ℕ
added_count found = length (filter (λ family. list_any (λ r. r.family == family.id) (remainder_of found)) (known_families found))

-- What a repair says of these files: what it moves, logs and then tables, and its counts.
abbrev pub report : FoundFiles → Report
report found = let salvage = salvaged found in record {
  moved = moves (map (λ file. file.0) found.files) (map log_name salvage.logs ++ map table_name salvage.archived);
  families = length salvage.families;
  tables = length salvage.kept;
  logs = length salvage.logs;
  added = added_count found;
  archived = length salvage.archived;
  records = length (last_in_order (taken_records found));
}

-- the report of a repair of these files, or the first refusal
unfoldable pub report_of_files : Files → Result Report SurveyErr
report_of_files files = unless_refused report (found_files files)

-- what a repair of the directory reports, or the first refusal
abbrev pub repair_report : Directory → Result Report SurveyErr
repair_report d = report_of_files (entries d)

-- a put of this value at a sequence number, in the default family
put_of : List ℕ → ℕ → List ℕ → Record
put_of key sequence value = record { family = 0; key = key; sequence = sequence; kind = Value; value = value }

-- a block of one record, a put of `a` = `x` at sequence 1
block_of_a : List ℕ
block_of_a = 0 ∷ 9 ∷ 1 ∷ codes "a" ++ 1 ∷ 1 ∷ 0 ∷ 0 ∷ 0 ∷ 0 ∷ 0 ∷ 0 ∷ codes "x" ++ 0 ∷ 0 ∷ 0 ∷ 0 ∷ 1 ∷ 0 ∷ 0 ∷ 0 ∷ []

-- a data block at an offset, and its separator
entry_at : List ℕ → ℕ → IndexEntry
entry_at separator offset = record { separator = separator; block = record { offset = offset; size = 21 } }

-- The block at 26 can't be read. Of the two entries that name the other one, the second has a separator before it
-- that the record isn't above.
of_blocks_by_themselves :
    map (λ entry. entry.value) (
    readable_records (λ handle. if handle.offset == 26 then Err (damaged OutOfFile 26) else Ok block_of_a) true None
    (entry_at (codes "A") 26 ∷ entry_at (codes "a") 0 ∷ entry_at (codes "b") 0 ∷ []))
    ≡ codes "x" ∷ []
unfolding readable_records block_entries entries_after block_of_a entry_at
of_blocks_by_themselves = refl

-- a table of this number, with one record of the key `k`
of_family : ℕ → ℕ → List ℕ → TableRecords
of_family number family name = record { number = number; family = family; name = name; records = record { family = family; key = codes "k"; sequence = number; kind = Value; value = [] } ∷ [] }

-- Table 5 has a known id under another name, 6 a known name under another id; a name that table 4 made known, too.
of_contradictions : map (λ table. table.number) (agreeing first_families (of_family 4 2 (codes "two") ∷ of_family 5 0 (codes "zero") ∷ of_family 6 1 (codes "default") ∷ of_family 7 3 (codes "two") ∷ of_family 8 2 (codes "two") ∷ of_family 9 1 (codes "one") ∷ []))
    ≡ 4 ∷ 8 ∷ 9 ∷ []
unfolding agreeing of_family
of_contradictions = refl

-- Of two logs the later counts. A record of a family that isn't known is left out.
of_two_logs : last_in_order (log_records first_families ((5, rec (2 ∷ 0 ∷ 0 ∷ 0 ∷ 0 ∷ 0 ∷ 0 ∷ 0 ∷ 2 ∷ 0 ∷ 0 ∷ 0 ∷ 1 ∷ 1 ∷ codes "b" ++ 1 ∷ codes "5" ++ 5 ∷ 7 ∷ 1 ∷ codes "c" ++ 0 ∷ []) 0 ∷ end Clean 27 ∷ []) ∷ (7, rec (2 ∷ 0 ∷ 0 ∷ 0 ∷ 0 ∷ 0 ∷ 0 ∷ 0 ∷ 1 ∷ 0 ∷ 0 ∷ 0 ∷ 1 ∷ 1 ∷ codes "b" ++ 1 ∷ codes "7") 0 ∷ end Torn 24 ∷ []) ∷ []))
    ≡ put_of (codes "b") 2 (codes "7") ∷ []
unfolding placed slot_cmp batch_of in_turn put_of
of_two_logs = refl

-- Of what is admitted the kept tables hold `a`, and `b` with another value.
of_another_value : not_held (put_of (codes "a") 1 (codes "x") ∷ put_of (codes "b") 2 (codes "5") ∷ []) (put_of (codes "a") 1 (codes "x") ∷ put_of (codes "b") 2 (codes "7") ∷ []) ≡ put_of (codes "b") 2 (codes "7") ∷ []
unfolding placed slot_cmp put_of
of_another_value = refl

-- the lowest table comes before the lowest log
of_unsupported_files :
    map (λ tables. refused_file (record { files = []; tables = tables; logs = (3, end (Unsupported 9) 0 ∷ []) ∷ (5, rec (replicate 12 0 ++ 9 ∷ []) 0 ∷ []) ∷ [] }))
    ([] ∷ (map (λ number. record { number = number; size = 48; status = Err (unsupported Comparator); part = None }) (6 ∷ 8 ∷ [])) ∷ [])
    ≡ Some (UnsupportedLog 3 (RecordType 9)) ∷ Some (UnsupportedTable 6 Comparator) ∷ []
unfolding batch_of in_turn
of_unsupported_files = refl

of_an_unsupported_tag : unsupported_in_log (5, gap Checksum 0 ∷ rec (replicate 12 0 ++ 0x10 ∷ []) 20 ∷ end (Unsupported 9) 40 ∷ []) ≡ Some (UnsupportedLog 5 (Tag 0x10))
unfolding batch_of in_turn
of_an_unsupported_tag = refl

-- a manifest that adds table 8, a log 7, and a name that doesn't count
greatest_of_a_listed_table : greatest_number ((codes "000007.log", []) ∷ (codes "MANIFEST-000002", 0x2d ∷ 0x09 ∷ 0xe6 ∷ 0xca ∷ 24 ∷ 0 ∷ 1 ∷ 7 ∷ 0 ∷ 8 ∷ 100 ∷ 9 ∷ codes "a" ++ 1 ∷ 1 ∷ 0 ∷ 0 ∷ 0 ∷ 0 ∷ 0 ∷ 0 ∷ 9 ∷ codes "a" ++ 1 ∷ 1 ∷ 0 ∷ 0 ∷ 0 ∷ 0 ∷ 0 ∷ 0 ∷ []) ∷ (codes "lost/000009.log", []) ∷ []) ≡ 8
unfolding greatest_number numbered name_of digits log_marks blocks_marks block_len pieces marks_from fragment_found found crc32c crc_bytes crc_bits crc_bit edit_fields in_turn
greatest_of_a_listed_table = refl

of_a_taken_lost_name : free_lost_name (codes "000005.log") (codes "lost/000005.log" ∷ codes "000005.log" ∷ codes "lost/000005.log.2" ∷ []) ≡ codes "lost/000005.log.1"
unfolding free_lost_name digits
of_a_taken_lost_name = refl

of_no_file : report_of_files [] ≡ Ok (record { moved = []; families = 1; tables = 0; logs = 0; added = 0; archived = 0; records = 0 })
unfolding report_of_files numbered greatest_number agreeing placed moves slot_cmp
of_no_file = refl
