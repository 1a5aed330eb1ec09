-- What a directory is opened to, or the first reason why it isn't (db/db_impl/db_impl_open.cc,
-- db/version_set.cc; db/wal_edit.cc on tracked logs). The order of the refusals, that each block of every listed
-- table is tested and its records against the stated bounds, and that a tracked log below the first one that is
-- needed isn't looked at are this project's own rules.
use Rattle.std.specs.Prelude.{◌≡◌, ℕ, ◌==◌, max, Bool, List, [], ◌∷◌, ◌++◌, length, map, flat_map, filter, filter_map, fold, nat_lt, nat_le, if◌then◌else◌, Option, Some, None, ok_or, Result, Ok, Err, codes, refl}
use Rattle.std.specs.List.{list_all}
use Rattle.std.specs.FinMap.{get, entries}
use Rattle.std.specs.Fmt.{digits}
use Rattle.rk_bytes.specs.declared.model.name.FileName.{FileName}
use Rattle.rk_bytes.specs.declared.model.name.FileName.TheVariants.{Log as log_file}
use Rattle.rk_bytes.specs.declared.model.key.Kind.TheVariants.{RangeDeletion}
use Rattle.rk_bytes.specs.declared.model.key.Record.{Record}
use Rattle.rk_bytes.specs.declared.model.block.RangeDel.{RangeDel}
use Rattle.rk_bytes.specs.declared.model.manifest.FileMeta.{FileMeta}
use Rattle.rk_bytes.specs.declared.model.manifest.FamilyState.{FamilyState}
use Rattle.rk_bytes.specs.declared.model.manifest.Tracked.{Tracked}
use Rattle.rk_bytes.specs.declared.model.manifest.Version.{Version}
use Rattle.rk_bytes.specs.declared.model.view.Tomb.{Tomb}
use Rattle.rk_bytes.specs.declared.model.view.FamilyLine.{FamilyLine}
use Rattle.rk_bytes.specs.declared.model.view.Point.{Point}
use Rattle.rk_bytes.specs.declared.model.wal.Mode.{Mode}
use Rattle.rk_bytes.specs.declared.model.open.OpenErr.{OpenErr}
use Rattle.rk_bytes.specs.declared.model.open.OpenErr.TheVariants.{NoCurrent, BadCurrent, NoManifest, Manifest, MissingTable, SizeMismatch, DamagedTable, UnsupportedTable, OutOfBounds, MissingLog, ShortLog, Wal}
use Rattle.rk_bytes.specs.Model.Numbers.{◌>>=◌}
use Rattle.rk_bytes.specs.Model.DiskImages.{Directory}
use Rattle.rk_bytes.specs.Model.FileNames.{current_name, manifest_name, log_name, table_name, name_of, current_manifest}
use Rattle.rk_bytes.specs.Model.BlockEntries.{with_fault, collected}
use Rattle.rk_bytes.specs.Model.TableStatus.{TableFault, damaged, unsupported, Good, is_range_deletion, table_status}
use Rattle.rk_bytes.specs.Model.Records.{last_records}
use Rattle.rk_bytes.specs.Model.Manifest.{manifest_units, last_version, first_log}
use Rattle.rk_bytes.specs.Model.KeyView.{State, lies_within, key_of, tomb_of}
use Rattle.rk_bytes.specs.Model.Replay.{Log, Replayed, replay}

-- A directory opened: its state, the version and the number of its manifest, what replay expects next and where
-- it stopped, and the greatest sequence number of a record, 0 with none.
pub record Opened : Type 0 where
  pub state : State
  pub version : Version
  pub manifest : ℕ
  pub expected : ℕ
  pub stopped : Option ℕ
  pub top : ℕ

-- A directory opened as far as whole tables go: its state, the number of the manifest and of its units, and how
-- many of them count for each family.
pub record Best : Type 0 where
  pub state : State
  pub manifest : ℕ
  pub units : ℕ
  pub points : List Point

-- the bytes of the file under each name, where there is one
abbrev pub Files : Type 0
Files = List ℕ → Option (List ℕ)

-- a listed table: the family that the manifest gives it, and its file
pub record Listed : Type 0 where
  pub family : ℕ
  pub file : FileMeta

-- things in the rising order of their numbers
abbrev pub in_order : {A : Type 0} → (A → ℕ) → List A → List A
in_order number [] = []
in_order number (thing ∷ things) =
    let others = in_order number things in
    filter (λ other. nat_lt (number other) (number thing)) others ++ thing ∷ filter (λ other. nat_le (number thing) (number other)) others

-- the tables that a family lists
abbrev pub listed_by : FamilyState → List Listed
listed_by live = map (λ file. record { family = live.id; file = file }) live.files

-- the tables that families list, in rising number
abbrev pub listed_tables : List FamilyState → List Listed
listed_tables families = in_order (λ table. table.file.number) (flat_map listed_by families)

-- the refusal of a table that isn't good
abbrev pub table_fault : ℕ → TableFault → OpenErr
table_fault number (damaged why place) = DamagedTable number why place
table_fault number (unsupported what) = UnsupportedTable number what

-- A table's records lie within the bounds that are stated for its file.
abbrev pub are_within : FileMeta → List Record → Bool
are_within file records = list_all (λ r. lies_within file.smallest file.largest (key_of r)) records

-- A listed table with what it holds.
pub record TableFile : Type 0 where
  pub listed : Listed
  pub good : Good

-- the table in its file, or the first reason why not
unfoldable pub table_file : Files → Listed → Result TableFile OpenErr
table_file files listed = let number = listed.file.number in do
  bytes ← ok_or (files (table_name number)) (MissingTable number)
  whole ← if length bytes == listed.file.size then Ok bytes else Err (SizeMismatch number listed.file.size (length bytes))
  good ← with_fault (table_fault number) (table_status whole)
  if are_within listed.file good.records then Ok (record { listed = listed; good = good }) else Err (OutOfBounds number)

-- the record that a table's range deletion is
abbrev pub range_record : ℕ → RangeDel → Record
range_record family range = record { family = family; key = range.start; sequence = range.sequence; kind = RangeDeletion; value = range.end }

-- the range deletions of a table as records, under the family that the manifest gives it
abbrev pub table_ranges : TableFile → List Record
table_ranges table = map (range_record table.listed.family) table.good.table.ranges

-- a record under this family
abbrev pub of_family : ℕ → Record → Record
of_family family r = record r { family = family }

-- all records of a table, under the family that the manifest gives it
abbrev pub table_records : TableFile → List Record
table_records table = map (of_family table.listed.family) table.good.records ++ table_ranges table

-- the range deletions of a table, cut to the bounds that are stated for its file
abbrev pub table_tombs : TableFile → List Tomb
table_tombs table = map (tomb_of (Some (record { smallest = table.listed.file.smallest; largest = table.listed.file.largest }))) (table_ranges table)

-- the range deletions among records of logs, which aren't cut
abbrev pub log_tombs : List Record → List Tomb
log_tombs records = map (tomb_of None) (filter (λ r. is_range_deletion r.kind) records)

-- the line of a live family
abbrev pub family_line : FamilyState → FamilyLine
family_line live = record { id = live.id; name = live.name; log = live.log; files = length live.files }

-- the state of families whose tables in rising number are these, and then these records of logs
abbrev pub state_with : List FamilyLine → List TableFile → List Record → State
state_with lines tables logged = record {
  families = lines;
  records = last_records (flat_map table_records tables ++ logged);
  tombs = flat_map table_tombs tables ++ log_tombs logged;
}

-- the greatest sequence number of records, 0 with none
abbrev pub greatest_sequence : List Record → ℕ
greatest_sequence records = fold max 0 (map (λ r. r.sequence) records)

-- the number of the manifest that CURRENT names
abbrev pub named_manifest : Files → Result ℕ OpenErr
named_manifest files = do
  text ← ok_or (files current_name) NoCurrent
  with_fault BadCurrent (current_manifest text)

-- the last version of the manifest with this number
abbrev pub version_in : Files → ℕ → Result Version OpenErr
version_in files number = do
  bytes ← ok_or (files (manifest_name number)) (NoManifest number)
  with_fault Manifest (last_version (manifest_units bytes))

-- the bytes of a log of which so many at least are there, where it is said how many were synced
abbrev pub has_synced : Files → ℕ → Option ℕ → Result (List ℕ) OpenErr
has_synced files number None = Ok []
has_synced files number (Some synced) = do
  bytes ← ok_or (files (log_name number)) (MissingLog number)
  if nat_lt (length bytes) synced then Err (ShortLog number synced (length bytes)) else Ok bytes

-- A tracked log that replay comes to, which begins with the first log that is still needed, has what was synced of it.
abbrev pub tracked_log : Files → ℕ → Tracked → Result (List ℕ) OpenErr
tracked_log files first tracked = if nat_lt tracked.log first then Ok [] else has_synced files tracked.log tracked.synced

-- the log that a file is, by its name
abbrev pub log_of : FileName → List ℕ → Option Log
log_of (log_file number) bytes = Some (record { number = number; bytes = bytes })
log_of _ bytes = None

-- the logs among files, in rising number
abbrev pub logs_of : List (List ℕ × List ℕ) → List Log
logs_of files = in_order (λ log. log.number) (filter_map (λ (file : List ℕ × List ℕ). log_of (name_of file.0) file.1) files)

-- what tables and replayed logs amount to
abbrev pub opened : ℕ → Version → List TableFile → Replayed → Opened
opened number version tables replayed = record {
  state = state_with (map family_line version.families) tables replayed.records;
  version = version;
  manifest = number;
  expected = replayed.expected;
  stopped = replayed.stopped;
  top = greatest_sequence (flat_map table_records tables ++ replayed.records);
}

-- What files and logs in rising number are opened to, or the first refusal.
unfoldable pub open_files : Mode → Files → List Log → Result Opened OpenErr
open_files mode files logs = do
  number ← named_manifest files
  version ← version_in files number
  tables ← collected (table_file files) (listed_tables version.families)
  synced ← collected (tracked_log files (first_log version)) version.wals
  replayed ← with_fault Wal (replay mode version (filter (λ log. nat_le (first_log version) log.number) logs))
  Ok (opened number version tables replayed)

-- what a directory is opened to in a mode
abbrev pub open_directory : Mode → Directory → Result Opened OpenErr
open_directory mode d = open_files mode (get d) (logs_of (entries d))

-- The logs among files stand by their numbers, and so do the tables of families.
of_logs : map (λ log. log.number) (logs_of ((codes "1000000.log", []) ∷ (codes "999999.log", []) ∷ (codes "999999.sst", []) ∷ (codes "lost/000001.log", []) ∷ [])) ≡ 999999 ∷ 1000000 ∷ []
unfolding name_of digits
of_logs = refl

-- a table's meta data, of which the number is looked at
file_of : ℕ → FileMeta
file_of number = record { number = number; level = 0; size = 0; smallest = []; largest = []; seqs = None }

of_tables : map (λ table. table.file.number) (listed_tables (
    record { id = 0; name = codes "default"; log = 3; files = file_of 4 ∷ file_of 9 ∷ [] } ∷ record { id = 5; name = codes "five"; log = 3; files = file_of 6 ∷ [] } ∷ []))
    ≡ 4 ∷ 6 ∷ 9 ∷ []
unfolding file_of
of_tables = refl
