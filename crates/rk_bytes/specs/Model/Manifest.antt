-- Units of a manifest, and the version that they amount to (RocksDB's wiki, "MANIFEST", and
-- db/version_edit_handler.cc). The order of the refusals, and which number counts where one is stated
-- twice, are this project's own rules, and so is how tracked logs act.
use Rattle.std.specs.Prelude.{◌≡◌, ◌≢◌, ℕ, zero, suc, ◌-◌, ◌≤◌, Bool, true, false, not, ◌&&◌, ◌||◌, List, [], ◌∷◌, ◌++◌, length, map, take, drop, find, fold, filter, filter_map, min, max, is_none, is_some, nat_eq, nat_lt, nat_le, ◌==◌, if◌then◌else◌, Option, Some, None, option_map, option_and_then, unwrap_or, is_ok, Result, Ok, Err, bytes_eq, codes, refl}
use Rattle.std.specs.List.{list_any, list_all, last_or, reduce}
use Rattle.std.specs.Option.{option_eq, option_or, option_map_or}
use Rattle.std.specs.Ordering.{nat_cmp, is_lt, ordering_then}
use Rattle.rk_bytes.specs.declared.model.log.GapWhy.TheVariants.{Checksum}
use Rattle.rk_bytes.specs.declared.model.log.EndKind.TheVariants.{Clean, Unsupported as unsupported_end}
use Rattle.rk_bytes.specs.declared.model.key.Kind.TheVariants.{Value}
use Rattle.rk_bytes.specs.declared.model.edit.EditFault.{EditFault}
use Rattle.rk_bytes.specs.declared.model.edit.EditFault.TheVariants.{UnsupportedTag}
use Rattle.rk_bytes.specs.declared.model.manifest.ManifestWhy.{ManifestWhy}
use Rattle.rk_bytes.specs.declared.model.manifest.ManifestWhy.TheVariants.{Gap, Unsupported}
use Rattle.rk_bytes.specs.declared.model.manifest.EditWhy.TheVariants.{Read, Apply}
use Rattle.rk_bytes.specs.declared.model.manifest.ApplyFault.{ApplyFault}
use Rattle.rk_bytes.specs.declared.model.manifest.ApplyFault.TheVariants.{UnsupportedComparator, FamilyExists, UnknownFamily, DeleteAbsent, AddPresent, Overlap}
use Rattle.rk_bytes.specs.declared.model.manifest.Which.TheVariants.{LogNumber, NextFile, LastSequence}
use Rattle.rk_bytes.specs.declared.model.manifest.ManifestFault.{ManifestFault}
use Rattle.rk_bytes.specs.declared.model.manifest.ManifestFault.TheVariants.{Damaged, BadEdit, BadGroup, NoFields}
use Rattle.rk_bytes.specs.declared.model.manifest.FileMeta.{FileMeta}
use Rattle.rk_bytes.specs.declared.model.manifest.FamilyState.{FamilyState}
use Rattle.rk_bytes.specs.declared.model.manifest.Tracked.{Tracked}
use Rattle.rk_bytes.specs.declared.model.manifest.Version.{Version}
use Rattle.rk_bytes.specs.Model.Numbers.{◌>>=◌, in_turn}
use Rattle.rk_bytes.specs.Model.InternalKey.{key_cmp, bytewise_name, internal_key}
use Rattle.rk_bytes.specs.Model.LogItems.{Item, rec, gap, end, log_items}
use Rattle.rk_bytes.specs.Model.VersionEdit.{Field, NewFile, comparator, log_number, next_file, last_sequence, add_file, delete_file, family, family_add, family_drop, group, wal_add, wal_delete, comparator_in, log_number_in, next_file_in, last_sequence_in, deleted_in, added_in, least_log_in, family_in, family_add_in, drops_family, greatest_family_in, group_in, edit_fields}

-- A unit is an edit by itself, or the edits of a group.
pub record ManifestUnit : Type 0 where
  pub edits : List (List Field)
  pub is_group : Bool

-- the units before the first fault of reading, and that fault
pub record Units : Type 0 where
  pub units : List ManifestUnit
  pub fault : Option ManifestFault

-- what the edit states in fields of one kind: the last of them counts
abbrev pub stated : {A : Type 0} → (Field → Option A) → List Field → Option A
stated field_in edit = last_or None (filter_map field_in edit)

-- What ends the edits of a manifest, or its units: the end of the log, a damaged piece of it, an edit that
-- doesn't read, or one that isn't the next of its group.
pub data UnitsEnd : Type 0 where
  log_end : UnitsEnd
  damaged_log : ℕ → ManifestWhy → UnitsEnd
  unread_edit : EditFault → UnitsEnd
  broken_group : UnitsEnd

-- the fault that an end is, in the unit with this number
abbrev pub fault_in : ℕ → UnitsEnd → Option ManifestFault
fault_in number log_end = None
fault_in number (damaged_log place why) = Some (Damaged place why)
fault_in number (unread_edit why) = Some (BadEdit number (Read why))
fault_in number broken_group = Some (BadGroup number)

-- the edits before the first fault of reading, and what ends them
pub record Edits : Type 0 where
  pub edits : List (List Field)
  pub ended : UnitsEnd

-- how the edits end that a fault or the end of the log follows
abbrev pub no_edit : UnitsEnd → Edits
no_edit why = record { edits = []; ended = why }

-- one more edit at the front
abbrev pub with_edit : List Field → Edits → Edits
with_edit edit rest = record { edits = edit ∷ rest.edits; ended = rest.ended }

-- the edits of a manifest's log
unfoldable pub edits_of : List Item → Edits
edits_of (rec payload place ∷ items) = elim (edit_fields payload) [ Ok edit ↦ with_edit edit (edits_of items) | Err why ↦ no_edit (unread_edit why) ]
edits_of (gap why place ∷ items) = no_edit (damaged_log place (Gap why))
edits_of (end (unsupported_end kind) place ∷ items) = no_edit (damaged_log place (Unsupported kind))
edits_of _ = no_edit log_end

-- the edits state that n more of their group come, then one fewer, and so on
abbrev pub falls : ℕ → List (List Field) → Bool
falls n [] = true
falls n (edit ∷ edits) = option_eq nat_eq (stated group_in edit) (Some n) && falls (n - 1) edits

-- the unit of an edit by itself
abbrev pub single_unit : List Field → ManifestUnit
single_unit edit = record { edits = edit ∷ []; is_group = false }

-- the unit of a group's edits
abbrev pub group_unit : List (List Field) → ManifestUnit
group_unit members = record { edits = members; is_group = true }

-- The first edits of a group of which n more come after the first one, but not all of them.
pub record IsCutGroup (n : ℕ) (members : List (List Field)) : Type 0 where
  pub falling : falls n members ≡ true
  pub begun : 1 ≤ length members
  pub fewer : length members ≤ n

-- Edits are parted into units, and so is what ends them. A group that their end cuts off is no unit. One in
-- which an edit states another number than is left, or none, ends the units. Of any edits this relation
-- admits one parting, `parted_units` (law `one_list_of_units`).
pub data PartsIntoUnits (ended : UnitsEnd) : List (List Field) → List ManifestUnit → UnitsEnd → Type 0 where
  no_more : PartsIntoUnits ended [] [] ended
  single :
      {edit : List Field} {edits : List (List Field)} {units : List ManifestUnit} {why : UnitsEnd}
      → stated group_in edit ≡ None
      → PartsIntoUnits ended edits units why
      → PartsIntoUnits ended (edit ∷ edits) (single_unit edit ∷ units) why
  whole_group :
      {members rest edits : List (List Field)} {units : List ManifestUnit} {why : UnitsEnd} (n : ℕ)
      → edits ≡ members ++ rest
      → falls n members ≡ true
      → length members ≡ suc n
      → PartsIntoUnits ended rest units why
      → PartsIntoUnits ended edits (group_unit members ∷ units) why
  cut_group : {n : ℕ} {members : List (List Field)} → IsCutGroup n members → PartsIntoUnits ended members [] ended
  broken :
      {n : ℕ} {members edits : List (List Field)} (edit : List Field) (rest : List (List Field))
      → edits ≡ members ++ edit ∷ rest
      → IsCutGroup n members
      → stated group_in edit ≢ Some (n - length members)
      → PartsIntoUnits ended edits [] broken_group

-- one more unit at the front
abbrev pub with_unit : ManifestUnit → List ManifestUnit × UnitsEnd → List ManifestUnit × UnitsEnd
with_unit unit rest = (unit ∷ rest.0, rest.1)

-- The units of at most so many edits, and what ends them. A bound that is too small shows as a fault.
unfoldable pub parted_units : UnitsEnd → ℕ → List (List Field) → List ManifestUnit × UnitsEnd
parted_units ended most [] = ([], ended)
parted_units ended zero (edit ∷ edits) = ([], broken_group)
parted_units ended (suc most) (edit ∷ edits) = elim (stated group_in edit) [
  | None ↦ with_unit (single_unit edit) (parted_units ended most edits)
  | Some n ↦
      let members = take (suc n) (edit ∷ edits) in
      if not (falls n members) then ([], broken_group)
      else (if nat_le (length members) n then ([], ended)
      else with_unit (group_unit members) (parted_units ended most (drop n edits)))
]

-- units and their end, whose fault is one of the unit that would come next
abbrev pub units_with : List ManifestUnit × UnitsEnd → Units
units_with parted = record { units = parted.0; fault = fault_in (suc (length parted.0)) parted.1 }

-- the units of a manifest's edits
abbrev pub units_of_edits : Edits → Units
units_of_edits read = units_with (parted_units read.ended (length read.edits) read.edits)

-- the units of a manifest's log
abbrev pub units_of_items : List Item → Units
units_of_items items = units_of_edits (edits_of items)

-- These are the units of a manifest's log, and the fault that ends them.
pub record IsUnits (items : List Item) (read : Units) : Type 0 where
  pub ended : UnitsEnd
  pub parted : PartsIntoUnits (edits_of items).ended (edits_of items).edits read.units ended
  pub fault : read.fault ≡ fault_in (suc (length read.units)) ended

-- the units of the manifest that the bytes are
abbrev pub manifest_units : List ℕ → Units
manifest_units bytes = units_of_items (log_items 0 bytes)

-- the version before the first unit: the default family alone, and no log is tracked
abbrev pub first_version : Version
first_version = record {
  families = record { id = 0; name = codes "default"; log = 0; files = [] } ∷ [];
  log_seen = false;
  next_file = None;
  last_sequence = None;
  least_log = 0;
  greatest_family = 0;
  wals = [];
}

-- Steps in order, up to the first that is refused.
unfoldable pub steps_in_order : {A : Type 0} → (A → Version → Result Version ApplyFault) → List A → Version → Result Version ApplyFault
steps_in_order step [] version = Ok version
steps_in_order step (one ∷ more) version = do
  next ← step one version
  steps_in_order step more next

-- the family that the edit speaks of
abbrev pub edit_family : List Field → ℕ
edit_family edit = unwrap_or (stated family_in edit) 0

-- the edit states another comparator than the bytewise one
abbrev pub has_other_comparator : List Field → Bool
has_other_comparator edit = option_map_or (λ name. not (bytes_eq name bytewise_name)) (stated comparator_in edit) false

-- the live family has this id
abbrev pub has_id : ℕ → FamilyState → Bool
has_id id live = live.id == id

-- the live family has this name
abbrev pub has_name : List ℕ → FamilyState → Bool
has_name name live = bytes_eq live.name name

-- the version with its families changed
abbrev pub with_families : (List FamilyState → List FamilyState) → Version → Version
with_families change version = record version { families = change version.families }

-- the family with this id, as change leaves it
abbrev pub with_family : ℕ → (FamilyState → FamilyState) → Version → Version
with_family id change version = with_families (map (λ live. if has_id id live then change live else live)) version

-- the families with one more, which has no files
abbrev pub add_family : ℕ → List ℕ → List FamilyState → List FamilyState
add_family id name families =
    filter (λ live. nat_lt live.id id) families ++ record { id = id; name = name; log = 0; files = [] } ∷ filter (λ live. nat_lt id live.id) families

-- the families without this one
abbrev pub drop_family : ℕ → List FamilyState → List FamilyState
drop_family id families = filter (λ live. not (has_id id live)) families

-- The families after the edit. An add of a live id or name is refused, and any other add adds. Without an
-- add the id has to be live. Then a drop removes the family with its files.
abbrev pub family_step : List Field → Version → Result Version ApplyFault
family_step edit version = let id = edit_family edit in do
  known ← elim (stated family_add_in edit) [
    | Some name ↦
        if list_any (has_id id) version.families || list_any (has_name name) version.families then Err (FamilyExists id)
        else Ok (with_families (add_family id name) version)
    | None ↦ if list_any (has_id id) version.families then Ok version else Err (UnknownFamily id)
  ]
  Ok (if list_any drops_family edit then with_families (drop_family id) known else known)

-- the file has this number
abbrev pub has_number : ℕ → FileMeta → Bool
has_number number file = file.number == number

-- the version with the files of a family changed
abbrev pub with_files : ℕ → (List FileMeta → List FileMeta) → Version → Version
with_files id change version = with_family id (λ live. record live { files = change live.files }) version

-- a deleted file: it has to be in the family at that level
abbrev pub delete_step : ℕ → ℕ × ℕ → Version → Result Version ApplyFault
delete_step id deleted version =
    if list_any (λ live. has_id id live && list_any (λ file. has_number deleted.1 file && file.level == deleted.0) live.files) version.families
    then Ok (with_files id (filter (λ file. not (has_number deleted.1 file))) version)
    else Err (DeleteAbsent deleted.1)

-- what a version lists of an added file
abbrev pub file_meta : NewFile → FileMeta
file_meta new = record { number = new.number; level = new.level; size = new.size; smallest = new.smallest; largest = new.largest; seqs = new.seqs }

-- the files with one more
abbrev pub add_meta : FileMeta → List FileMeta → List FileMeta
add_meta new files = filter (λ file. nat_lt file.number new.number) files ++ new ∷ filter (λ file. nat_lt new.number file.number) files

-- an added file: its number has to be free in all families
abbrev pub add_step : ℕ → NewFile → Version → Result Version ApplyFault
add_step id new version =
    if list_any (λ live. list_any (has_number new.number) live.files) version.families then Err (AddPresent new.number)
    else Ok (with_files id (add_meta (file_meta new)) version)

-- the files after the edit: those that it deletes go, and then those that it adds come
abbrev pub file_steps : List Field → Version → Result Version ApplyFault
file_steps edit version = do
  fewer ← steps_in_order (delete_step (edit_family edit)) (filter_map deleted_in edit) version
  steps_in_order (add_step (edit_family edit)) (filter_map added_in edit) fewer

-- the greater of the number and the one that the edit states
abbrev pub risen : ℕ → Option ℕ → ℕ
risen n new = max n (unwrap_or new 0)

-- the synced size that is known of a log
abbrev pub synced_of : ℕ → List Tracked → Option ℕ
synced_of log wals = option_and_then (λ tracked. tracked.synced) (find (λ tracked. tracked.log == log) wals)

-- The tracked logs after one field. A log that is there keeps its size where the field states none.
abbrev pub track_field : List Tracked → Field → List Tracked
track_field wals (wal_add log synced) =
    filter (λ tracked. nat_lt tracked.log log) wals
    ++ record { log = log; synced = option_or synced (synced_of log wals) } ∷ filter (λ tracked. nat_lt log tracked.log) wals
track_field wals (wal_delete log) = filter (λ tracked. nat_le log tracked.log) wals
track_field wals _ = wals

-- the tracked logs after the edit, whose fields act in order
abbrev pub tracked_after : List Field → List Tracked → List Tracked
tracked_after edit wals = fold track_field wals edit

-- the numbers and the tracked logs after the edit
abbrev pub with_numbers : List Field → Version → Version
with_numbers edit version =
    let logged = with_family (edit_family edit) (λ live. record live { log = risen live.log (stated log_number_in edit) }) version in
    record {
      families = logged.families;
      log_seen = version.log_seen || is_some (stated log_number_in edit);
      next_file = option_or (stated next_file_in edit) version.next_file;
      last_sequence = option_or (stated last_sequence_in edit) version.last_sequence;
      least_log = risen version.least_log (stated least_log_in edit);
      greatest_family = risen version.greatest_family (stated greatest_family_in edit);
      wals = tracked_after edit version.wals;
    }

-- The version after an edit: the comparator is tested, then the family, then the files.
unfoldable pub edit_step : List Field → Version → Result Version ApplyFault
edit_step edit version = if has_other_comparator edit then Err UnsupportedComparator else (do
  known ← family_step edit version
  filed ← if list_any drops_family edit then Ok known else file_steps edit known
  Ok (with_numbers edit filed))

-- Files are apart where of any two the one that comes first, by its least key and then by its number,
-- ends below the other's least key.
abbrev pub comes_before : FileMeta → FileMeta → Bool
comes_before a b = is_lt (ordering_then (key_cmp a.smallest b.smallest) (nat_cmp a.number b.number))

-- the first file's bounds end below the second's
abbrev pub ends_below : FileMeta → FileMeta → Bool
ends_below a b = is_lt (key_cmp a.largest b.smallest)

-- any two of the files are apart
abbrev pub are_apart : List FileMeta → Bool
are_apart files = list_all (λ a. list_all (λ b. not (comes_before a b) || ends_below a b) files) files

-- files at this level overlap
abbrev pub overlap_at : List FileMeta → ℕ → Bool
overlap_at files level = not (are_apart (filter (λ file. file.level == level) files))

-- the lowest level above 0 at which files overlap
abbrev pub overlapping_level : List FileMeta → Option ℕ
overlapping_level files = reduce min (filter (λ level. nat_lt 0 level && overlap_at files level) (map (λ file. file.level) files))

-- the lowest family with such a level
unfoldable pub overlap : List FamilyState → Option ApplyFault
overlap [] = None
overlap (live ∷ families) = option_or (option_map (Overlap live.id) (overlapping_level live.files)) (overlap families)

-- the version after a unit, whose files have to be apart at its end
unfoldable pub unit_step : ManifestUnit → Version → Result Version ApplyFault
unit_step unit version = do
  next ← steps_in_order edit_step unit.edits version
  elim (overlap next.families) [ Some why ↦ Err why | None ↦ Ok next ]

-- a refusal of the unit with this number
abbrev pub in_unit : {A : Type 0} → ℕ → Result A ApplyFault → Result A ManifestFault
in_unit number (Ok one) = Ok one
in_unit number (Err why) = Err (BadEdit number (Apply why))

-- the version after the units, the first of which has this number
unfoldable pub version_after : ℕ → List ManifestUnit → Version → Result Version ManifestFault
version_after number [] version = Ok version
version_after number (unit ∷ units) version = do
  next ← in_unit number (unit_step unit version)
  version_after (suc number) units next

-- The version after the first so many units, or the first unit that is refused.
abbrev pub version_at : List ManifestUnit → ℕ → Result Version ManifestFault
version_at units count = version_after 1 (take count units) first_version

-- the version, where edits state all three numbers
abbrev pub complete : Version → Result Version ManifestFault
complete version =
    if not version.log_seen then Err (NoFields LogNumber)
    else (if is_none version.next_file then Err (NoFields NextFile)
    else (if is_none version.last_sequence then Err (NoFields LastSequence) else Ok version))

-- The version after all units. A refused unit comes before a fault of reading, and that before a number
-- that no edit states.
abbrev pub last_version : Units → Result Version ManifestFault
last_version read = do
  version ← version_at read.units (length read.units)
  elim read.fault [ Some fault ↦ Err fault | None ↦ complete version ]

-- the least number of a log that may hold records that no table holds
abbrev pub first_log : Version → ℕ
first_log version = max version.least_log (unwrap_or (reduce min (map (λ live. live.log) version.families)) 0)

-- a log of these records
logged : List (List ℕ) → List Item
logged [] = end Clean 0 ∷ []
logged (bytes ∷ records) = rec bytes 0 ∷ logged records

-- the edit of a new database, as bytes and as fields
first_edit : List ℕ
first_edit = 1 ∷ 26 ∷ codes "leveldb.BytewiseComparator" ++ 2 ∷ 3 ∷ 3 ∷ 4 ∷ 4 ∷ 0 ∷ []

first_fields : List Field
first_fields = comparator (codes "leveldb.BytewiseComparator") ∷ log_number 3 ∷ next_file 4 ∷ last_sequence 0 ∷ []

-- an edit that states how many more of its group come
left : ℕ → List ℕ
left n = 0xAC ∷ 2 ∷ n ∷ []

-- A group that is cut off is no unit. One with an edit that states the number of the edit before is bad, and
-- a fault of reading within a group is one of the unit that the group would be.
of_broken_groups :
    map (λ more. units_of_items (logged (first_edit ∷ left 2 ∷ left 1 ∷ more))) ([] ∷ (left 1 ∷ []) ∷ ((0x66 ∷ []) ∷ []) ∷ [])
    ≡ map (λ fault. record { units = record { edits = first_fields ∷ []; is_group = false } ∷ []; fault = fault }) (
    None ∷ Some (BadGroup 2) ∷ Some (BadEdit 2 (Read (UnsupportedTag 102 0))) ∷ [])
unfolding logged first_edit first_fields left parted_units edits_of edit_fields in_turn
of_broken_groups = refl

of_a_whole_group : units_of_items (logged (left 1 ∷ left 0 ∷ (2 ∷ 9 ∷ []) ∷ []))
    ≡ record {
      units = record { edits = (group 1 ∷ []) ∷ (group 0 ∷ []) ∷ []; is_group = true } ∷ record { edits = (log_number 9 ∷ []) ∷ []; is_group = false } ∷ [];
      fault = None;
    }
unfolding logged left parted_units edits_of edit_fields in_turn
of_a_whole_group = refl

of_a_gap : units_of_items (rec (2 ∷ 9 ∷ []) 0 ∷ gap Checksum 9 ∷ end Clean 20 ∷ [])
    ≡ record { units = record { edits = (log_number 9 ∷ []) ∷ []; is_group = false } ∷ []; fault = Some (Damaged 9 (Gap Checksum)) }
unfolding parted_units edits_of edit_fields in_turn
of_a_gap = refl

of_a_new_database : last_version (units_of_items (logged (first_edit ∷ []))) ≡ Ok (record {
  families = record { id = 0; name = codes "default"; log = 3; files = [] } ∷ [];
  log_seen = true;
  next_file = Some 4;
  last_sequence = Some 0;
  least_log = 0;
  greatest_family = 0;
  wals = [];
})
unfolding logged first_edit parted_units edits_of edit_fields in_turn steps_in_order edit_step overlap unit_step version_after
of_a_new_database = refl

-- No edit states a log number. A refused unit comes first, here one that deletes file 9 at level 1, and the edit
-- after it doesn't read.
of_no_last_version :
    map (λ edits. last_version (units_of_items (logged edits))) ([] ∷ (first_edit ∷ (6 ∷ 1 ∷ 9 ∷ []) ∷ (0x66 ∷ []) ∷ []) ∷ [])
    ≡ Err (NoFields LogNumber) ∷ Err (BadEdit 2 (Apply (DeleteAbsent 9))) ∷ []
unfolding logged first_edit parted_units edits_of edit_fields in_turn steps_in_order edit_step overlap unit_step version_after
of_no_last_version = refl

-- a version whose families have these log numbers, under this least log
with_logs : List ℕ → ℕ → Version
with_logs logs least = record first_version {
  families = map (λ log. record { id = log; name = []; log = log; files = [] }) logs;
  least_log = least;
}

of_first_logs : map first_log (with_logs (5 ∷ 3 ∷ []) 2 ∷ with_logs (5 ∷ 3 ∷ []) 4 ∷ with_logs [] 4 ∷ with_logs [] 0 ∷ []) ≡ 3 ∷ 4 ∷ 4 ∷ 0 ∷ []
unfolding with_logs
of_first_logs = refl

-- The comparator comes first. A drop is looked at after an add too.
of_families : map (λ edit. edit_step edit first_version) (
    (comparator (codes "x") ∷ family 1 ∷ []) ∷ (family_add (codes "x") ∷ []) ∷ (family 1 ∷ family_add (codes "default") ∷ []) ∷ (family 1 ∷ [])
    ∷ (family 1 ∷ family_add (codes "x") ∷ family_drop ∷ []) ∷ [])
    ≡ Err UnsupportedComparator ∷ Err (FamilyExists 0) ∷ Err (FamilyExists 1) ∷ Err (UnknownFamily 1) ∷ Ok first_version ∷ []
unfolding steps_in_order edit_step
of_families = refl

-- the logs that are tracked after edits of these fields
tracked_logs : List (List Field) → Result (List Tracked) ApplyFault
unfolding steps_in_order edit_step
tracked_logs edits = do
  version ← steps_in_order edit_step edits first_version
  Ok version.wals

-- a tracked log
log_of : ℕ → Option ℕ → Tracked
log_of log synced = record { log = log; synced = synced }

-- A size is stated, and stays where none is stated. A log that comes later stands in its place. All logs
-- below 5 are forgotten, and one of them is added again, in an edit that drops its family.
of_tracked_logs :
    map tracked_logs (
    ((wal_add 5 (Some 9) ∷ wal_add 3 None ∷ wal_add 3 (Some 48) ∷ wal_add 5 None ∷ []) ∷ [])
    ∷ ((wal_add 3 (Some 48) ∷ wal_add 5 None ∷ []) ∷ (wal_delete 5 ∷ []) ∷ (family_drop ∷ wal_add 3 None ∷ []) ∷ [])
    ∷ [])
    ≡ Ok (log_of 3 (Some 48) ∷ log_of 5 (Some 9) ∷ []) ∷ Ok (log_of 3 None ∷ log_of 5 None ∷ []) ∷ []
unfolding tracked_logs log_of
of_tracked_logs = refl

-- an added file whose bounds are keys of these users
added : ℕ → ℕ → List ℕ → List ℕ → Field
added level number least greatest =
    add_file (record { level = level; number = number; size = 9; smallest = internal_key least 5 Value; largest = internal_key greatest 5 Value; seqs = None })

of_a_number_of_another_family : steps_in_order edit_step ((added 0 7 (codes "a") (codes "b") ∷ []) ∷ (family 1 ∷ family_add (codes "x") ∷ added 3 7 (codes "a") (codes "b") ∷ []) ∷ []) first_version
    ≡ Err (AddPresent 7)
unfolding steps_in_order edit_step added internal_key
of_a_number_of_another_family = refl

-- The deleted files go first, wherever they stand in the edit.
of_a_moved_file : steps_in_order edit_step ((added 2 7 (codes "a") (codes "b") ∷ []) ∷ (added 3 7 (codes "a") (codes "b") ∷ delete_file 2 7 ∷ []) ∷ []) first_version
    ≡ steps_in_order edit_step ((added 3 7 (codes "a") (codes "b") ∷ []) ∷ []) first_version
unfolding steps_in_order edit_step added internal_key
of_a_moved_file = refl

-- Families 1 and 2 have files that overlap, family 1 at two levels.
of_the_lowest_overlap : unit_step (record {
  edits =
      (family 2 ∷ family_add (codes "z") ∷ added 1 1 (codes "a") (codes "c") ∷ added 1 2 (codes "b") (codes "d") ∷ [])
      ∷ (family 1 ∷ family_add (codes "y") ∷ added 5 3 (codes "a") (codes "c") ∷ added 5 4 (codes "b") (codes "d") ∷ added 3 5 (codes "a") (codes "c") ∷ added 3 6 (codes "c") (codes "d") ∷ []) ∷ [];
  is_group = true;
}) first_version ≡ Err (Overlap 1 3)
unfolding steps_in_order edit_step overlap unit_step added internal_key
of_the_lowest_overlap = refl

-- the unit of one edit that adds two files of one level, the second with this least key
two_files : ℕ → List ℕ → ManifestUnit
two_files level smallest = record {
  edits = (added level 7 (codes "c") (codes "d")
      ∷ add_file (record { level = level; number = 6; size = 9; smallest = smallest; largest = internal_key (codes "e") 5 Value; seqs = None }) ∷ []) ∷ [];
  is_group = false;
}

-- Files that meet at a key aren't apart. An older record of the same user key lies beyond. At level 0 any two may stand.
of_two_files : map (λ unit. is_ok (unit_step unit first_version)) (
    two_files 2 (internal_key (codes "d") 5 Value) ∷ two_files 2 (internal_key (codes "d") 4 Value) ∷ two_files 0 (internal_key (codes "d") 5 Value) ∷ [])
    ≡ false ∷ true ∷ true ∷ []
unfolding two_files added internal_key steps_in_order edit_step overlap unit_step
of_two_files = refl
