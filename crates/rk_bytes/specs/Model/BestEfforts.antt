-- Best-efforts opening: how far the files that are whole let each family come (the idea is that of
-- `best_efforts_recovery` in db/version_edit_handler.cc). When a file is whole, the points of families, what a
-- group of edits asks of them, which points are the best and which manifest counts are this project's own rules.
use Rattle.std.specs.Prelude.{◌≡◌, ℕ, zero, suc, ◌-◌, ◌*◌, ◌<◌, ◌≤◌, Bool, true, false, not, ◌&&◌, ◌||◌, ◌⊎◌, List, [], ◌∷◌, ◌++◌, length, replicate, map, take, zip, flat_map, bytes_eq, filter_map, filter, max, nat_lt, nat_le, nat_eq, ◌==◌, if◌then◌else◌, Option, Some, None, unwrap_or, ok_or, is_ok, Result, Ok, Err, codes, refl}
use Rattle.std.specs.List.{AllByRecursion, list_any, list_all, last_or, reduce}
use Rattle.std.specs.FinMap.{get, entries}
use Rattle.std.specs.Fmt.{digits}
use Rattle.rk_bytes.specs.declared.model.name.FileName.{FileName}
use Rattle.rk_bytes.specs.declared.model.name.FileName.TheVariants.{Manifest as manifest_file}
use Rattle.rk_bytes.specs.declared.model.key.Kind.TheVariants.{Value}
use Rattle.rk_bytes.specs.declared.model.manifest.FileMeta.{FileMeta}
use Rattle.rk_bytes.specs.declared.model.manifest.FamilyState.{FamilyState}
use Rattle.rk_bytes.specs.declared.model.manifest.Version.{Version}
use Rattle.rk_bytes.specs.declared.model.view.FamilyLine.{FamilyLine}
use Rattle.rk_bytes.specs.declared.model.view.Point.{Point}
use Rattle.rk_bytes.specs.declared.model.open.OpenErr.{OpenErr}
use Rattle.rk_bytes.specs.declared.model.open.OpenErr.TheVariants.{UnsupportedTable, NoUsableManifest}
use Rattle.rk_bytes.specs.declared.model.table.TableWhat.TheVariants.{Version as newer_version}
use Rattle.rk_bytes.specs.Model.Numbers.{◌>>=◌, in_turn}
use Rattle.rk_bytes.specs.Model.Checksums.{pieces, crc_bit, crc_bits, crc_bytes, crc32c}
use Rattle.rk_bytes.specs.Model.LogMarks.{fragment_found, found, marks_from, block_len, blocks_marks, log_marks}
use Rattle.rk_bytes.specs.Model.TableFooter.{footer_of}
use Rattle.rk_bytes.specs.Model.TableStatus.{table_status}
use Rattle.rk_bytes.specs.Model.Records.{last_records}
use Rattle.rk_bytes.specs.Model.DiskImages.{Directory}
use Rattle.rk_bytes.specs.Model.FileNames.{manifest_name, table_name, name_of}
use Rattle.rk_bytes.specs.Model.BlockEntries.{collected}
use Rattle.rk_bytes.specs.Model.InternalKey.{internal_key}
use Rattle.rk_bytes.specs.Model.VersionEdit.{Field, log_number, next_file, last_sequence, delete_file, add_file, family, family_add, family_drop, drops_family, file_with, added_in, edit_fields}
use Rattle.rk_bytes.specs.Model.Manifest.{ManifestUnit, edits_of, parted_units, file_meta, has_number, first_version, steps_in_order, edit_step, overlap, unit_step, version_after, version_at, complete, manifest_units, has_id}
use Rattle.rk_bytes.specs.Model.Opening.{Best, Files, Listed, TableFile, in_order, table_file, state_with}

-- the families that are live after the first so many units, and none where one of these is refused
abbrev pub families_at : List ManifestUnit → ℕ → List FamilyState
families_at units point = elim (version_at units point) [ Ok version ↦ version.families | Err why ↦ [] ]

-- the families that are live after all units
abbrev pub last_families : List ManifestUnit → List FamilyState
last_families units = families_at units (length units)

-- the files of the family with this id after the first so many units, and none where it isn't live there
abbrev pub files_at : List ManifestUnit → ℕ → ℕ → List FileMeta
files_at units id point = flat_map (λ live. live.files) (filter (has_id id) (families_at units point))

-- the files that an edit adds, each with whether it is looked at: not where the edit drops its family
abbrev pub added_by : List Field → List (FileMeta × Bool)
added_by edit = map (λ new. (file_meta new, not (list_any drops_family edit))) (filter_map added_in edit)

-- the files that units add, in order, each with whether it is looked at
abbrev pub added_files : List ManifestUnit → List (FileMeta × Bool)
added_files units = flat_map (λ unit. flat_map added_by unit.edits) units

-- the files that units add, in order
abbrev pub listed : List ManifestUnit → List FileMeta
listed units = map (λ added. added.0) (added_files units)

-- Every file that the family has at the point passes the test.
abbrev pub all_pass : (FileMeta → Bool) → List ManifestUnit → ℕ → ℕ → Bool
all_pass is_whole units id point = list_all is_whole (files_at units id point)

-- Instead of a test there may be an answer for each file that units add. The answer for a file in a version is that
-- of the last one added with its number and looked at.
abbrev pub answer_for : List ((FileMeta × Bool) × Bool) → ℕ → Bool
answer_for answers number = unwrap_or (last_or None (map (λ a. a.1) (filter (λ a. a.0.1 && has_number number a.0.0) answers))) false

-- The answer for every file that the family has at the point is true. Answers that are those of a test say what
-- the test says (law `answers_of_a_test`).
abbrev pub answers_pass : List Bool → List ManifestUnit → ℕ → ℕ → Bool
answers_pass answers units id point =
    let first = zip (added_files (take point units)) answers in list_all (λ file. answer_for first file.number) (files_at units id point)

-- the places of the units that are groups, of units of which the first is at this place
abbrev pub group_places : ℕ → List ManifestUnit → List ℕ
group_places place [] = []
group_places place (unit ∷ units) = (if unit.is_group then place ∷ [] else []) ++ group_places (suc place) units

-- The family with this id was live before the unit at this place. A group there ties all such families that
-- are live after all units.
abbrev pub is_tied : List ManifestUnit → ℕ → ℕ → Bool
is_tied units place id = list_any (has_id id) (families_at units (place - 1))

-- The families that are live after all units, in rising id, each with how many units count for it.
pub record IsVector (units : List ManifestUnit) (points : List Point) : Type 0 where
  pub families : map (λ point. point.family) points ≡ map (λ live. live.id) (last_families units)
  pub within : AllByRecursion (λ point. point.at ≤ length units) points

-- The families that a group at this place ties are all at it or later, or all before it.
abbrev pub StandTogether : List ManifestUnit → List Point → ℕ → Type 0
StandTogether units points place =
    AllByRecursion (λ point. is_tied units place point.family ≡ true → place ≤ point.at) points
    ⊎ AllByRecursion (λ point. is_tied units place point.family ≡ true → point.at < place) points

-- The points of a vector qualify: every file of each family at its point is whole, as `whole_at` tells of a
-- family and a point, and no group is applied to one of the families that it ties and not to another.
pub record Qualifies (units : List ManifestUnit) (whole_at : ℕ → ℕ → Bool) (points : List Point) : Type 0 where
  pub vector : IsVector units points
  pub whole : AllByRecursion (λ point. whole_at point.family point.at ≡ true) points
  pub together : AllByRecursion (StandTogether units points) (group_places 1 units)

-- Points of the same families, each of the first at most that of the second.
abbrev pub AtMost : List Point → List Point → Type 0
AtMost [] [] = Unit {0}
AtMost (a ∷ more) (b ∷ others) = (a.family ≡ b.family) × (a.at ≤ b.at) × AtMost more others
AtMost _ _ = ⊥

-- The best points: they qualify, and family by family they are at least every other points that qualify. There is
-- one such vector, `best_points` (law `one_best_vector`).
pub record IsGreatest (units : List ManifestUnit) (whole_at : ℕ → ℕ → Bool) (points : List Point) : Type 0 where
  pub qualifies : Qualifies units whole_at points
  pub greatest : (others : List Point) → Qualifies units whole_at others → AtMost others points

-- a family that the group at this place ties stands before it
abbrev pub stands_before : List ManifestUnit → List Point → ℕ → Bool
stands_before units points place = list_any (λ point. is_tied units place point.family && nat_lt point.at place) points

-- The point can't be kept: a file there isn't whole, or a group before it ties the family to one that stands before
-- the group.
abbrev pub cannot_stay : List ManifestUnit → (ℕ → ℕ → Bool) → List Point → Point → Bool
cannot_stay units whole_at points point =
    not (whole_at point.family point.at)
    || list_any (λ place. nat_le place point.at && is_tied units place point.family && stands_before units points place) (group_places 1 units)

-- the points with those lowered by one that can't be kept
abbrev pub lowered : List ManifestUnit → (ℕ → ℕ → Bool) → List Point → List Point
lowered units whole_at points = map (λ point. if cannot_stay units whole_at points point then record point { at = point.at - 1 } else point) points

-- the points lowered up to n times, until all can be kept
unfoldable pub lowered_until : ℕ → List ManifestUnit → (ℕ → ℕ → Bool) → List Point → List Point
lowered_until zero units whole_at points = points
lowered_until (suc n) units whole_at points =
    if list_any (cannot_stay units whole_at points) points then lowered_until n units whole_at (lowered units whole_at points) else points

-- each family at this point
abbrev pub all_at : ℕ → List FamilyState → List Point
all_at point families = map (λ live. record { family = live.id; at = point }) families

-- the best points
abbrev pub best_points : List ManifestUnit → (ℕ → ℕ → Bool) → List Point
best_points units whole_at =
    let families = last_families units in
    lowered_until (length families * length units) units whole_at (all_at (length units) families)

-- A table's status can be used: it is there with the stated size and isn't damaged, and the records of a good one lie
-- within the stated bounds. One that isn't supported counts too.
abbrev pub can_be_used : Result TableFile OpenErr → Bool
can_be_used (Ok table) = true
can_be_used (Err (UnsupportedTable n what)) = true
can_be_used (Err _) = false

-- the file is whole, among files under their names
abbrev pub is_whole_in : Files → FileMeta → Bool
is_whole_in files file = can_be_used (table_file files (record { family = 0; file = file }))

-- the file of a directory is whole
abbrev pub is_whole : Directory → FileMeta → Bool
is_whole d file = is_whole_in (get d) file

-- the units before the first one that isn't applied to the version so far
abbrev pub applied_to : Version → List ManifestUnit → List ManifestUnit
applied_to version [] = []
applied_to version (unit ∷ units) = elim (unit_step unit version) [ Ok next ↦ unit ∷ applied_to next units | Err why ↦ [] ]

-- the units of a manifest that count: those before the first that is refused
abbrev pub usable : List ManifestUnit → List ManifestUnit
usable units = applied_to first_version units

-- the units that count of the manifest with this number
abbrev pub usable_units : Files → ℕ → List ManifestUnit
usable_units files number = elim (files (manifest_name number)) [ Some bytes ↦ usable (manifest_units bytes).units | None ↦ [] ]

-- the units state a log number, a next file and a last sequence number
abbrev pub are_complete : List ManifestUnit → Bool
are_complete units = is_ok (version_at units (length units) >>= complete)

-- the number of a manifest's name
abbrev pub number_of_manifest : FileName → Option ℕ
number_of_manifest (manifest_file number) = Some number
number_of_manifest _ = None

-- the numbers of a directory's manifests
abbrev pub manifest_numbers : Directory → List ℕ
manifest_numbers d = filter_map (λ (file : List ℕ × List ℕ). number_of_manifest (name_of file.0)) (entries d)

-- the tables of a family at its point
abbrev pub point_tables : List ManifestUnit → Point → List Listed
point_tables units point = map (λ file. record { family = point.family; file = file }) (files_at units point.family point.at)

-- the tables of the families at their points, in rising number
abbrev pub tables_at : List ManifestUnit → List Point → List Listed
tables_at units points = in_order (λ table. table.file.number) (flat_map (point_tables units) points)

-- how many files the family with this id has at its point
abbrev pub files_of : List ManifestUnit → List Point → ℕ → ℕ
files_of units points id = length (flat_map (point_tables units) (filter (λ point. point.family == id) points))

-- the line of a live family: its name and log number after all units, and how many files it has at its point
abbrev pub best_line : List ManifestUnit → List Point → FamilyState → FamilyLine
best_line units points live = record { id = live.id; name = live.name; log = live.log; files = files_of units points live.id }

-- what the tables at the points hold, or the lowest of them that isn't supported
unfoldable pub best_with : Files → ℕ → List ManifestUnit → List Point → Result Best OpenErr
best_with files number units points = do
  tables ← collected (table_file files) (tables_at units points)
  Ok (record {
    state = state_with (map (best_line units points) (last_families units)) tables [];
    manifest = number;
    units = length units;
    points = points;
  })

-- What files and the manifests with these numbers are opened to as far as whole tables go, or the refusal. The
-- manifest is the one with the greatest number whose units are complete. No log is read.
unfoldable pub best_files : Files → List ℕ → Result Best OpenErr
best_files files numbers = do
  number ← ok_or (reduce max (filter (λ number. are_complete (usable_units files number)) numbers)) NoUsableManifest
  let units = usable_units files number
  best_with files number units (best_points units (all_pass (is_whole_in files) units))

-- what a directory is opened to as far as whole tables go
abbrev pub best_directory : Directory → Result Best OpenErr
best_directory d = best_files (get d) (manifest_numbers d)

-- a field that adds a file of this number and size at level 0
added : ℕ → ℕ → Field
unfolding internal_key
added number size = add_file (file_with 0 number size (internal_key (codes "a") 1 Value) (internal_key (codes "b") 1 Value))

-- the unit of a new database
new_database : ManifestUnit
new_database = record { edits = (log_number 3 ∷ next_file 4 ∷ last_sequence 0 ∷ []) ∷ []; is_group = false }

-- a unit of one edit, and one of a group
one_edit : List Field → ManifestUnit
one_edit edit = record { edits = edit ∷ []; is_group = false }

one_group : List (List Field) → ManifestUnit
one_group edits = record { edits = edits; is_group = true }

-- the edit that adds family 1
family_one : List Field
family_one = family 1 ∷ family_add (codes "one") ∷ []

-- the best points where the files with these numbers are whole
best_where : List ℕ → List ManifestUnit → List Point
unfolding lowered_until steps_in_order edit_step overlap unit_step version_after
best_where whole units = best_points units (all_pass (λ file. list_any (nat_eq file.number) whole) units)

-- Table 6 is cut short and table 8 isn't there, so two units of four count.
of_broken_files :
    best_where (4 ∷ []) (new_database ∷ one_edit (added 4 9 ∷ []) ∷ one_edit (added 6 9 ∷ []) ∷ one_edit (added 8 9 ∷ []) ∷ [])
    ≡ record { family = 0; at = 2 } ∷ []
unfolding best_where new_database one_edit added
of_broken_files = refl

-- The second group isn't applied to family 1 alone, whose file is whole.
of_a_broken_group :
    best_where (4 ∷ 7 ∷ []) (
    new_database ∷ one_group ((added 4 9 ∷ []) ∷ family_one ∷ []) ∷ one_group ((added 6 9 ∷ []) ∷ (family 1 ∷ added 7 9 ∷ []) ∷ []) ∷ [])
    ≡ record { family = 0; at = 2 } ∷ record { family = 1; at = 2 } ∷ []
unfolding best_where new_database one_group family_one added
of_a_broken_group = refl

-- A group that is left out of one family holds the other one before it, though a later file of that is whole.
of_a_group_before_a_file :
    best_where (5 ∷ []) (one_edit family_one ∷ one_group ([] ∷ (family 1 ∷ added 9 9 ∷ []) ∷ []) ∷ one_edit (added 5 9 ∷ []) ∷ [])
    ≡ record { family = 0; at = 1 } ∷ record { family = 1; at = 1 } ∷ []
unfolding best_where one_edit one_group family_one added
of_a_group_before_a_file = refl

-- A group ties no family that it adds, nor one that is dropped later.
of_families_that_a_group_adds :
    best_where (4 ∷ []) (one_group ((added 4 9 ∷ []) ∷ family_one ∷ (family 1 ∷ added 6 9 ∷ []) ∷ []) ∷ [])
    ≡ record { family = 0; at = 1 } ∷ record { family = 1; at = 0 } ∷ []
unfolding best_where one_group family_one added
of_families_that_a_group_adds = refl

-- File 7 is deleted and added again, and a third edit that adds it drops its family, so that its answer, the last, isn't
-- looked at.
of_answers :
    map (λ point. answers_pass (false ∷ true ∷ false ∷ []) (
    one_edit (added 7 9 ∷ []) ∷ one_edit (delete_file 0 7 ∷ added 7 9 ∷ []) ∷ one_edit family_one ∷ one_edit (family 1 ∷ family_drop ∷ added 7 9 ∷ []) ∷ []) 0 point) (
    0 ∷ 1 ∷ 2 ∷ 4 ∷ [])
    ≡ true ∷ false ∷ true ∷ true ∷ []
unfolding one_edit family_one added steps_in_order edit_step overlap unit_step version_after
of_answers = refl

-- The units before a refused one count.
of_a_refused_unit : usable (new_database ∷ one_edit (delete_file 0 9 ∷ []) ∷ new_database ∷ []) ≡ new_database ∷ []
unfolding new_database one_edit steps_in_order edit_step overlap unit_step
of_a_refused_unit = refl

-- a table of 53 bytes with a format version that isn't supported
newer_table : List ℕ
newer_table = 1 ∷ replicate 40 0 ++ 6 ∷ 0 ∷ 0 ∷ 0 ∷ 0xF7 ∷ 0xCF ∷ 0xF4 ∷ 0x85 ∷ 0xB7 ∷ 0x41 ∷ 0xE2 ∷ 0x88 ∷ []

-- a manifest of the first edit of a new database, in a log of one record
first_manifest : List ℕ
first_manifest =
    0x91 ∷ 0x8D ∷ 0x74 ∷ 0x51 ∷ 34 ∷ 0 ∷ 1 ∷ 1 ∷ 26 ∷ codes "leveldb.BytewiseComparator" ++ 2 ∷ 3 ∷ 3 ∷ 4 ∷ 4 ∷ 0 ∷ []

-- Table 5 is of a newer version, table 7 has 3 bytes, and of manifests there is 2.
some_files : Files
unfolding digits newer_table first_manifest
some_files name =
    if bytes_eq name (table_name 5) then Some newer_table
    else (if bytes_eq name (table_name 7) then Some (1 ∷ 2 ∷ 3 ∷ [])
    else (if bytes_eq name (manifest_name 2) then Some first_manifest else None))

-- An unsupported table is whole, and one of another size, an absent one and a damaged one aren't.
of_files : map (λ (file : ℕ × ℕ). is_whole_in some_files (file_meta (file_with 0 file.0 file.1 [] []))) ((5, 53) ∷ (5, 52) ∷ (6, 53) ∷ (7, 3) ∷ []) ≡ true ∷ false ∷ false ∷ false ∷ []
unfolding some_files digits table_file table_status footer_of
of_files = refl

-- what some files are opened to
of_an_unsupported_table : best_with some_files 2 (one_edit (added 5 53 ∷ []) ∷ []) (record { family = 0; at = 1 } ∷ []) ≡ Err (UnsupportedTable 5 (newer_version 6))
unfolding best_with some_files digits one_edit added table_file table_status footer_of steps_in_order edit_step overlap unit_step version_after
of_an_unsupported_table = refl

-- Manifest 3 isn't there, and manifest 2 has all that it needs.
of_a_manifest :
    best_files some_files (2 ∷ 3 ∷ [])
    ≡ Ok (record {
      state = record { families = record { id = 0; name = codes "default"; log = 3; files = 0 } ∷ []; records = last_records []; tombs = [] };
      manifest = 2;
      units = 1;
      points = record { family = 0; at = 1 } ∷ [];
    })
unfolding best_files best_with best_where some_files digits log_marks blocks_marks marks_from found fragment_found block_len pieces crc32c crc_bytes crc_bits crc_bit edits_of parted_units edit_fields in_turn
of_a_manifest = refl

of_no_manifest : best_files (λ name. None) [] ≡ Err NoUsableManifest
unfolding best_files
of_no_manifest = refl
