-- What commands write of a directory whose files are listed, in a form that can be computed: a finite map isn't,
-- but the list of its entries is. The examples of `Output` stand on it.
use Rattle.std.specs.Prelude.{◌≡◌, ℕ, ◌-◌, ◌^◌, min, max, sum, Bool, List, [], ◌∷◌, ◌++◌, length, map, filter, filter_map, flat_map, option_map, Option, Some, None, ok_or, Result, Ok, Err, reverse, nat_le, ◌==◌, codes, T}
use Rattle.std.specs.List.{reduce, slice_split}
use Rattle.std.specs.Ordering.{nat_cmp}
use Rattle.std.specs.declared.cmp.Ordering.{Ordering}
use Rattle.std.specs.Cmp.{IsTotalOrder}
use Rattle.std.specs.Cmp.Lexicographic.{slice_cmp, nat_list_cmp_total}
use Rattle.std.specs.FinMap.{find, put, empty, entries, values, get, from_sorted, from_entries, get-entries, entries-from_sorted, empty_of_len, len-entries, entries-insert, is_sorted}
use Rattle.std.proofs.Common.{sym, ap, ◌∙◌}
use Rattle.rk_bytes.specs.declared.model.key.Record.{Record}
use Rattle.rk_bytes.specs.declared.model.view.FamilyLine.{FamilyLine}
use Rattle.rk_bytes.specs.declared.model.view.Tomb.{Tomb}
use Rattle.rk_bytes.specs.declared.model.view.Point.{Point}
use Rattle.rk_bytes.specs.declared.model.salvage.FamilyName.{FamilyName}
use Rattle.rk_bytes.specs.declared.model.wal.Mode.{Mode}
use Rattle.rk_bytes.specs.declared.model.command.How.{How}
use Rattle.rk_bytes.specs.declared.model.command.How.TheVariants.{Normal, Best}
use Rattle.rk_bytes.specs.declared.model.open.OpenErr.{OpenErr}
use Rattle.rk_bytes.specs.declared.model.open.OpenErr.TheVariants.{NoUsableManifest, Wal}
use Rattle.rk_bytes.specs.Model.Numbers.{◌>>=◌}
use Rattle.rk_bytes.specs.Model.BlockEntries.{with_fault, collected}
use Rattle.rk_bytes.specs.Model.DiskImages.{Directory}
use Rattle.rk_bytes.specs.Model.FileNames.{log_name, table_name, name_of}
use Rattle.rk_bytes.specs.Model.Records.{Slot, slot_of, slot_cmp, slot_cmp-total, last_records}
use Rattle.rk_bytes.specs.Model.Manifest.{ManifestUnit, first_log}
use Rattle.rk_bytes.specs.Model.KeyView.{State, Row, Answer, rows, view_records, row_of, shown, deciding, uncovered, is_between, keys_in, record_count, key_count, tomb_of, answer}
use Rattle.rk_bytes.specs.Model.Replay.{replay}
use Rattle.rk_bytes.specs.Model.Opening.{Opened, Best as BestOpened, TableFile, named_manifest, version_in, listed_tables, table_file, tracked_log, family_line, table_records, table_tombs, log_tombs, logs_of, opened, open_files}
use Rattle.rk_bytes.specs.Model.BestEfforts.{number_of_manifest, usable_units, are_complete, best_points, all_pass, is_whole_in, tables_at, best_line, last_families, best_with, best_files}
use Rattle.rk_bytes.specs.Model.Drill.{drill_files, drill_directory}
use Rattle.rk_bytes.specs.Model.TableStatus.{is_range_deletion}
use Rattle.rk_bytes.specs.Model.Salvage.{placed, last_placed, last_in_order, found_files, known_families, taken_records, report_of_files, salvage_families, salvage_records}
use Rattle.rk_bytes.specs.Model.Grammar.{KeyWord, key_bytes, Command, scan, get as get_key, families, manifest_dump, dump_wal, check, repair, sst, drill, all_modes}
use Rattle.rk_bytes.specs.Model.Lines.{row_line, answer_line, manifest_line, point_line, ok_line, count_words, mode_line, best_efforts_line, drill_line, refused_words, open_err_words}
use Rattle.rk_bytes.specs.Model.Output.{Output, written, refused, written_or_refused, dump_wal_output, manifest_dump_output, families_output, sst_output, state_of, for_family, scan_output, answer_status, get_output, counts_line, repair_output, salvage_state, state_counts, opened_counts, repair_line, drill_output, command_output}
use Rattle.std.specs.Fmt.{digits}
use Rattle.hex.specs.Hex.{decode_pairs, encode_with}
use Rattle.rk_bytes.specs.declared.model.status.Status.TheVariants.{Usage, NotFound}
use Rattle.rk_bytes.specs.Model.Numbers.{in_turn}
use Rattle.rk_bytes.specs.Model.Checksums.{crc_bit, crc_bits, crc_bytes, crc32c, pieces}
use Rattle.rk_bytes.specs.Model.FileNames.{current_manifest}
use Rattle.rk_bytes.specs.Model.LogMarks.{log_marks, blocks_marks, block_len, marks_from, fragment_found, found}
use Rattle.rk_bytes.specs.Model.InternalKey.{internal_key}
use Rattle.rk_bytes.specs.Model.WriteBatch.{batch_of}
use Rattle.rk_bytes.specs.Model.BlockEntries.{block_entries, entries_after, index_entries}
use Rattle.rk_bytes.specs.Model.TableFooter.{footer_of, checked_block}
use Rattle.rk_bytes.specs.Model.TableStatus.{property_list, range_list, table_with, table_status}
use Rattle.rk_bytes.specs.Model.VersionEdit.{after_customs, synced_sizes_at, edit_fields}
use Rattle.rk_bytes.specs.Model.Manifest.{edits_of, parted_units, steps_in_order, edit_step, overlap, unit_step, version_after}
use Rattle.rk_bytes.specs.Model.KeyView.{covers}
use Rattle.rk_bytes.specs.Model.BestEfforts.{lowered_until}
use Rattle.rk_bytes.specs.Model.Salvage.{numbered, greatest_number, agreeing, readable_records, table_part, free_lost_name, moves}
use Rattle.rk_bytes.specs.Model.Grammar.{command_of, scan_of, get_of, dump_wal_of, check_of, sst_of, drill_of}
use Rattle.rk_bytes.specs.Model.Lines.{line, usage_line, quoted, batch_lines, edit_lines}
use Rattle.rk_bytes.specs.Model.Output.{output}

-- the files of a directory, by rising name
abbrev pub Listing : Type 0
Listing = List (List ℕ × List ℕ)

-- the file with a name among them
abbrev pub file_in : Listing → List ℕ → Option (List ℕ)
file_in files name = find (slice_cmp nat_cmp) name files

-- ---- the entries of finite maps

-- an empty map has no entry
no_entries : {K X : Type 0} (R : K → K → Ordering) → entries (empty {X = X} {R = R}) ≡ []
no_entries {X = X} R =
    let none = entries-from_sorted {X = X} R [] tt in
    sym (ap entries (empty_of_len (from_sorted {X = X} {R = R} []) (len-entries (from_sorted {X = X} {R = R} []) ∙ ap length none))) ∙ none

-- entries put one after another, the last first
abbrev pub all_put : {K X : Type 0} → (K → K → Ordering) → List (K × X) → List (K × X)
all_put R [] = []
all_put R (entry ∷ list) = put R entry.0 entry.1 (all_put R list)

pub entries_put : {K X : Type 0} (R : K → K → Ordering) → IsTotalOrder R → (list : List (K × X)) → entries (from_entries {R = R} list) ≡ all_put R list
entries_put R ordered [] = no_entries R
entries_put R ordered (entry ∷ list) = entries-insert ordered (from_entries list) entry.0 entry.1 ∙ ap (put R entry.0 entry.1) (entries_put R ordered list)

-- records are placed so
is_placed : (list : List (Slot × Record)) → all_put slot_cmp list ≡ placed list
unfolding placed
is_placed [] = λ i. []
is_placed (entry ∷ list) = ap (put slot_cmp entry.0 entry.1) (is_placed list)

-- the entries of a record map
entries_placed : (records : List Record) → entries (last_records records) ≡ last_placed records
unfolding last_records
entries_placed records = let list = map (λ r. (slot_of r, r)) (reverse records) in entries_put slot_cmp slot_cmp-total list ∙ is_placed list

-- a directory's file is found among its entries
found_in : (d : Directory) (files : Listing) → entries d ≡ files → (name : List ℕ) → get d name ≡ file_in files name
found_in d files lists name = get-entries d name ∙ ap (find (slice_cmp nat_cmp) name) lists

-- ---- states whose records are listed

-- A state with its records as they are taken, of which the last in each slot counts.
pub record Listed : Type 0 where
  pub families : List FamilyLine
  pub records : List Record
  pub tombs : List Tomb

-- what is listed, as a state
abbrev pub as_state : Listed → State
as_state listed = record { families = listed.families; records = last_records listed.records; tombs = listed.tombs }

-- what is shown of a key
unfoldable pub answer_in : Listed → ℕ → List ℕ → Answer
answer_in listed family key = shown (deciding (uncovered listed.tombs family key (last_in_order listed.records)))

-- The state shows it.
answer_listed : (listed : Listed) (family : ℕ) (key : List ℕ) → answer (as_state listed) family key ≡ answer_in listed family key
unfolding view_records answer_in
answer_listed listed family key =
    ap (λ list. shown (deciding (uncovered listed.tombs family key (map (λ (entry : Slot × Record). entry.1) list)))) (entries_placed listed.records)

-- the rows of a family
unfoldable pub rows_in : Listed → ℕ → Option (List ℕ) → Option (List ℕ) → List Row
unfolding answer_in
rows_in listed family from to = filter_map (λ key. row_of key (answer_in listed family key)) (filter (is_between from to) (keys_in (last_in_order listed.records) family))

-- The state has these rows.
rows_listed : (listed : Listed) (family : ℕ) (from to : Option (List ℕ)) → rows (as_state listed) family from to ≡ rows_in listed family from to
unfolding rows view_records rows_in answer_in
rows_listed listed family from to = ap (λ list. let records = map (λ (entry : Slot × Record). entry.1) list in
    filter_map (λ key. row_of key (shown (deciding (uncovered listed.tombs family key records)))) (filter (is_between from to) (keys_in records family))) (entries_placed listed.records)

-- how many records there are
unfoldable pub count_in : Listed → ℕ
count_in listed = min (length (last_placed listed.records)) (2 ^ 64 - 1)

-- The state counts as many.
count_listed : (listed : Listed) → record_count (as_state listed) ≡ count_in listed
unfolding count_in
count_listed listed = ap (λ n. min n (2 ^ 64 - 1)) (len-entries (last_records listed.records) ∙ ap length (entries_placed listed.records))

-- how many keys are shown
unfoldable pub keys_shown : Listed → ℕ
unfolding rows_in
keys_shown listed = min (sum (map (λ line. length (rows_in listed line.id None None)) listed.families)) (2 ^ 64 - 1)

-- The state counts as many keys.
keys_listed : (listed : Listed) → key_count (as_state listed) ≡ keys_shown listed
unfolding keys_shown
keys_listed listed = λ i. min (sum (map (λ line. length (rows_listed listed line.id None None i)) listed.families)) (2 ^ 64 - 1)

-- ---- opening

-- two chains of steps that begin alike are the same where what follows is
same_end : {A B C D F : Type 0} (r : Result A F) (f : A → Result B F) (g : A → Result C F) (h : B → Result D F) (k : C → Result D F) → ((one : A) → f one >>= h ≡ g one >>= k) → (r >>= f) >>= h ≡ (r >>= g) >>= k
same_end (Ok one) f g h k is = is one
same_end (Err why) f g h k is = λ i. Err why

-- what opened tables and logs are listed to
abbrev listed_of : List FamilyLine → List TableFile → List Record → Listed
listed_of lines tables logged = record { families = lines; records = flat_map table_records tables ++ logged; tombs = flat_map table_tombs tables ++ log_tombs logged }

-- what files are opened to
unfoldable pub opened_to : Mode → Listing → Result Listed OpenErr
opened_to mode files = do
  number ← named_manifest (file_in files)
  version ← version_in (file_in files) number
  tables ← collected (table_file (file_in files)) (listed_tables version.families)
  synced ← collected (tracked_log (file_in files) (first_log version)) version.wals
  replayed ← with_fault Wal (replay mode version (filter (λ log. nat_le (first_log version) log.number) (logs_of files)))
  Ok (listed_of (map family_line version.families) tables replayed.records)

-- the state of what is opened
abbrev state_in : Opened → Result State OpenErr
state_in opened = Ok opened.state

-- what is listed, as a state that was opened
abbrev as_opened : Listed → Result State OpenErr
as_opened listed = Ok (as_state listed)

-- Files are opened to it.
opened_listed : (mode : Mode) (files : Listing) → open_files mode (file_in files) (logs_of files) >>= state_in ≡ opened_to mode files >>= as_opened
unfolding open_files opened_to
opened_listed mode files =
    let at = file_in files in
    same_end (named_manifest at) _ _ state_in as_opened (λ number. same_end (version_in at number) _ _ state_in as_opened (λ version.
    same_end (collected (table_file at) (listed_tables version.families)) _ _ state_in as_opened (λ tables. same_end (collected (tracked_log at (first_log version)) version.wals) _ _ state_in as_opened (λ synced.
    same_end (with_fault Wal (replay mode version (filter (λ log. nat_le (first_log version) log.number) (logs_of files)))) _ _ state_in as_opened (λ replayed. λ i. Ok (as_state (listed_of (map family_line version.families) tables replayed.records)))))))

-- what files are opened to by best efforts
pub record ListedBest : Type 0 where
  pub listed : Listed
  pub manifest : ℕ
  pub units : ℕ
  pub points : List Point

-- what is listed, as what best efforts open
abbrev as_best : ListedBest → Result BestOpened OpenErr
as_best best = Ok (record { state = as_state best.listed; manifest = best.manifest; units = best.units; points = best.points })

-- the numbers of manifests among files
abbrev numbers_in : Listing → List ℕ
numbers_in files = filter_map (λ (file : List ℕ × List ℕ). number_of_manifest (name_of file.0)) files

-- the number of the manifest that is taken
abbrev best_number : Listing → Result ℕ OpenErr
best_number files = ok_or (reduce max (filter (λ number. are_complete (usable_units (file_in files) number)) (numbers_in files))) NoUsableManifest

-- the best points of its units
abbrev points_in : Listing → List ManifestUnit → List Point
points_in files units = best_points units (all_pass (is_whole_in (file_in files)) units)

-- what tables at these points are listed to
abbrev listed_at : ℕ → List ManifestUnit → List Point → List TableFile → Result ListedBest OpenErr
listed_at number units points tables = Ok (record { listed = listed_of (map (best_line units points) (last_families units)) tables []; manifest = number; units = length units; points = points })

-- the tables at the points, listed
abbrev tables_to : Listing → ℕ → List ManifestUnit → List Point → Result ListedBest OpenErr
tables_to files number units points = do
  tables ← collected (table_file (file_in files)) (tables_at units points)
  listed_at number units points tables

-- what files are opened to by best efforts
unfoldable pub best_to : Listing → Result ListedBest OpenErr
best_to files = do
  number ← best_number files
  let units = usable_units (file_in files) number
  tables_to files number units (points_in files units)

-- the same, of a last step alone
same_last : {A C D F : Type 0} (r : Result A F) (f : A → Result D F) (g : A → Result C F) (k : C → Result D F) → ((one : A) → f one ≡ g one >>= k) → r >>= f ≡ (r >>= g) >>= k
same_last (Ok one) f g k is = is one
same_last (Err why) f g k is = λ i. Err why

-- Files are opened to it.
best_listed : (files : Listing) → best_files (file_in files) (numbers_in files) ≡ best_to files >>= as_best
unfolding best_files best_with best_to
best_listed files =
    same_last (best_number files) _ _ as_best (λ number. let units = usable_units (file_in files) number in let points = points_in files units in
    same_last (collected (table_file (file_in files)) (tables_at units points)) _ _ as_best (λ tables. λ i. as_best (record {
      listed = listed_of (map (best_line units points) (last_families units)) tables [];
      manifest = number;
      units = length units;
      points = points;
    })))

-- ---- commands

-- `scan` of what is listed
unfoldable pub scan_listed : Option (List ℕ) → Option KeyWord → Option KeyWord → Bool → Result Listed OpenErr → Output
scan_listed named from to hex opened =
    written_or_refused open_err_words (λ listed. for_family named (λ id. written (map (row_line hex) (rows_in listed id (option_map key_bytes from) (option_map key_bytes to)))) (as_state listed)) opened

-- The command writes it of the state.
scan_same : (named : Option (List ℕ)) (from to : Option KeyWord) (hex : Bool) (opened : Result Listed OpenErr) → scan_output named from to hex (opened >>= as_opened) ≡ scan_listed named from to hex opened
unfolding scan_listed
scan_same named from to hex (Ok listed) = λ i. for_family named (λ id. written (map (row_line hex) (rows_listed listed id (option_map key_bytes from) (option_map key_bytes to) i))) (as_state listed)
scan_same named from to hex (Err why) = λ i. refused (open_err_words why)

-- the output for a key of which this is shown
answered : Bool → Answer → Output
answered hex shown = record { lines = answer_line hex shown ∷ []; status = answer_status shown }

-- `get` of what is listed
unfoldable pub get_listed : KeyWord → Option (List ℕ) → Bool → Result Listed OpenErr → Output
unfolding answered
get_listed key named hex opened = written_or_refused open_err_words (λ listed. for_family named (λ id. answered hex (answer_in listed id (key_bytes key))) (as_state listed)) opened

-- The command writes it of the state.
get_same : (key : KeyWord) (named : Option (List ℕ)) (hex : Bool) (opened : Result Listed OpenErr) → get_output key named hex (opened >>= as_opened) ≡ get_listed key named hex opened
unfolding get_listed answered
get_same key named hex (Ok listed) = λ i. for_family named (λ id. answered hex (answer_listed listed id (key_bytes key) i)) (as_state listed)
get_same key named hex (Err why) = λ i. refused (open_err_words why)

-- the line of these families and of so many records
abbrev ok_line_of : List FamilyLine → ℕ → List ℕ
ok_line_of lines count = ok_line (length lines) (min (sum (map (λ line. line.files) lines)) (2 ^ 64 - 1)) count

-- `check` of what is listed
unfoldable pub check_listed : Result Listed OpenErr → Output
check_listed opened = written_or_refused open_err_words (λ listed. written (ok_line_of listed.families (count_in listed) ∷ [])) opened

-- The command writes it of the state.
check_same : (opened : Result Listed OpenErr) → written_or_refused open_err_words (λ state. written (counts_line state ∷ [])) (opened >>= as_opened) ≡ check_listed opened
unfolding check_listed
check_same (Ok listed) = λ i. written (ok_line_of listed.families (count_listed listed i) ∷ [])
check_same (Err why) = λ i. refused (open_err_words why)

-- The state alone counts.
check_state : (opened : Result Opened OpenErr) → written_or_refused open_err_words (λ one. written (counts_line one.state ∷ [])) opened ≡ written_or_refused open_err_words (λ state. written (counts_line state ∷ [])) (opened >>= state_in)
check_state (Ok opened) = λ i. written (counts_line opened.state ∷ [])
check_state (Err why) = λ i. refused (open_err_words why)

-- `check` by best efforts
unfoldable pub check_best_listed : Result ListedBest OpenErr → Output
check_best_listed opened =
    written_or_refused open_err_words (λ best. written (manifest_line best.manifest best.units ∷ map point_line best.points ++ ok_line_of best.listed.families (count_in best.listed) ∷ [])) opened

-- The command writes it of the state.
check_best_same : (opened : Result ListedBest OpenErr)
    → written_or_refused open_err_words (λ best. written (manifest_line best.manifest best.units ∷ map point_line best.points ++ counts_line best.state ∷ [])) (opened >>= as_best) ≡ check_best_listed opened
unfolding check_best_listed
check_best_same (Ok best) = λ i. written (manifest_line best.manifest best.units ∷ map point_line best.points ++ ok_line_of best.listed.families (count_listed best.listed i) ∷ [])
check_best_same (Err why) = λ i. refused (open_err_words why)

-- the state that files are opened to
abbrev pub state_to : How → Listing → Result Listed OpenErr
state_to (Normal mode) files = opened_to mode files
state_to Best files = do
  best ← best_to files
  Ok best.listed

-- The state alone counts.
state_of_best : (opened : Result ListedBest OpenErr) → (opened >>= as_best) >>= (λ best. Ok best.state) ≡ (opened >>= λ best. Ok best.listed) >>= as_opened
state_of_best (Ok best) = λ i. Ok (as_state best.listed)
state_of_best (Err why) = λ i. Err why

-- A directory is opened as its files are.
opened_by : (mode : Mode) (d : Directory) (files : Listing) → entries d ≡ files → open_files mode (get d) (logs_of (entries d)) ≡ open_files mode (file_in files) (logs_of files)
opened_by mode d files lists = λ i. open_files mode (λ name. found_in d files lists name i) (logs_of (lists i))

-- It is opened by best efforts as its files are.
best_by : (d : Directory) (files : Listing) → entries d ≡ files → best_files (get d) (numbers_in (entries d)) ≡ best_files (file_in files) (numbers_in files)
best_by d files lists = λ i. best_files (λ name. found_in d files lists name i) (numbers_in (lists i))

-- A directory is opened to the state of what is listed.
state_same : (how : How) (d : Directory) (files : Listing) → entries d ≡ files → state_of how d ≡ state_to how files >>= as_opened
state_same (Normal mode) d files lists = ap (λ opened. opened >>= state_in) (opened_by mode d files lists) ∙ opened_listed mode files
state_same Best d files lists =
    ap (λ opened. opened >>= (λ best. Ok best.state)) (best_by d files lists ∙ best_listed files) ∙ state_of_best (best_to files)

-- the counts of what is listed, or why it isn't opened
unfoldable pub listed_counts : Result Listed OpenErr → List ℕ
listed_counts (Ok listed) = count_words (count_in listed) (keys_shown listed)
listed_counts (Err why) = refused_words (open_err_words why)

-- The state has these counts.
counts_same : (opened : Result Listed OpenErr) → opened_counts (opened >>= as_opened) ≡ listed_counts opened
unfolding listed_counts
counts_same (Ok listed) = λ i. count_words (count_listed listed i) (keys_listed listed i)
counts_same (Err why) = λ i. refused_words (open_err_words why)

-- the lines of the families of a salvage
abbrev salvage_lines : List FamilyName → List FamilyLine
salvage_lines known = map (λ family. record { id = family.id; name = family.name; log = 0; files = 0 }) known

-- the range deletions among records
abbrev tombs_among : List Record → List Tomb
tombs_among records = map (tomb_of None) (filter (λ r. is_range_deletion r.kind) records)

-- the salvage of files
unfoldable pub salvage_in : Listing → Listed
salvage_in files = let taken = taken_records (found_files files) in
    record { families = salvage_lines (known_families (found_files files)); records = taken; tombs = tombs_among (last_in_order taken) }

-- The salvage of the directory has its counts.
salvage_same : (d : Directory) (files : Listing) → entries d ≡ files → state_counts (salvage_state d) ≡ listed_counts (Ok (salvage_in files))
unfolding listed_counts salvage_in salvage_families salvage_records
salvage_same d files lists =
    let of_records = λ (lines : List FamilyLine) (taken values : List Record). state_counts (record { families = lines; records = last_records taken; tombs = tombs_among values }) in
    let taken = taken_records (found_files files) in let lines = salvage_lines (known_families (found_files files)) in
    (λ i. let there = lists i in let records = taken_records (found_files there) in of_records (salvage_lines (known_families (found_files there))) records (values (last_records records)))
    ∙ (ap (λ list. of_records lines taken (map (λ (entry : Slot × Record). entry.1) list)) (entries_placed taken) ∙ counts_same (Ok (salvage_in files)))

-- `drill` of listed files
unfoldable pub drill_listed : ℕ → Listing → Output
drill_listed n files = written (drill_line n ∷ map (λ mode. mode_line mode (listed_counts (opened_to mode files))) all_modes
    ++ best_efforts_line (listed_counts (state_to Best files)) ∷ repair_line (report_of_files files) ∷ map (λ mode. mode_line mode (listed_counts (Ok (salvage_in files)))) all_modes)

-- The directory is opened to these counts in a mode.
mode_same : (mode : Mode) (d : Directory) (files : Listing) → entries d ≡ files → opened_counts (state_of (Normal mode) d) ≡ listed_counts (opened_to mode files)
mode_same mode d files lists = ap opened_counts (state_same (Normal mode) d files lists) ∙ counts_same (opened_to mode files)

-- The command writes it of the directory.
drill_same : (n : ℕ) (d : Directory) (files : Listing) → entries d ≡ files → drill_output n d ≡ drill_listed n files
unfolding drill_listed
drill_same n d files lists =
    let best = ap opened_counts (state_same Best d files lists) ∙ counts_same (state_to Best files) in
    λ i. written (drill_line n ∷ map (λ mode. mode_line mode (mode_same mode d files lists i)) all_modes
    ++ best_efforts_line (best i) ∷ repair_line (report_of_files (lists i)) ∷ map (λ mode. mode_line mode (salvage_same d files lists i)) all_modes)

-- What a command writes of listed files. A drill looks at none of them, but at its own.
unfoldable pub on_files : Command → Listing → Output
on_files (scan named how from to hex) files = scan_listed named from to hex (state_to how files)
on_files (get_key key named how hex) files = get_listed key named hex (state_to how files)
on_files families files = families_output (file_in files)
on_files (manifest_dump hex) files = manifest_dump_output hex (file_in files)
on_files (dump_wal n hex) files = dump_wal_output n hex (file_in files (log_name n))
on_files (check (Normal mode)) files = check_listed (opened_to mode files)
on_files (check Best) files = check_best_listed (best_to files)
on_files repair files = repair_output (report_of_files files)
on_files (sst n part hex) files = sst_output n part hex (file_in files (table_name n))
on_files (drill n) files = drill_listed n (all_put (slice_cmp nat_cmp) (drill_files n))

-- A command writes of a directory what it writes of the list of its files.
pub by_files : (command : Command) (d : Directory) (files : Listing) → entries d ≡ files → command_output (Some command) d ≡ on_files command files
unfolding command_output on_files drill_directory
by_files (scan named how from to hex) d files lists = ap (scan_output named from to hex) (state_same how d files lists) ∙ scan_same named from to hex (state_to how files)
by_files (get_key key named how hex) d files lists = ap (get_output key named hex) (state_same how d files lists) ∙ get_same key named hex (state_to how files)
by_files families d files lists = λ i. families_output (λ name. found_in d files lists name i)
by_files (manifest_dump hex) d files lists = λ i. manifest_dump_output hex (λ name. found_in d files lists name i)
by_files (dump_wal n hex) d files lists = λ i. dump_wal_output n hex (found_in d files lists (log_name n) i)
by_files (check (Normal mode)) d files lists =
    ap (written_or_refused open_err_words (λ one. written (counts_line one.state ∷ []))) (opened_by mode d files lists)
    ∙ (check_state (open_files mode (file_in files) (logs_of files)) ∙ (ap (written_or_refused open_err_words (λ state. written (counts_line state ∷ []))) (opened_listed mode files) ∙ check_same (opened_to mode files)))
by_files (check Best) d files lists =
    ap (written_or_refused open_err_words (λ best. written (manifest_line best.manifest best.units ∷ map point_line best.points ++ counts_line best.state ∷ []))) (best_by d files lists ∙ best_listed files)
    ∙ check_best_same (best_to files)
by_files repair d files lists = λ i. repair_output (report_of_files (lists i))
by_files (sst n part hex) d files lists = λ i. sst_output n part hex (found_in d files lists (table_name n) i)
by_files (drill n) d files lists = drill_same n (drill_directory n) (all_put (slice_cmp nat_cmp) (drill_files n)) (entries_put (slice_cmp nat_cmp) nat_list_cmp_total (drill_files n))

-- ---- outputs of texts

-- the words of a text, in which single spaces stand between them
unfoldable pub spoken : List ℕ → List (List ℕ)
spoken text = slice_split (λ b. b == 32) text

-- an output of these lines
unfoldable pub of_lines : List (List ℕ) → Output
of_lines lines = written (map line lines)

-- the output for words that spell no command, and for a key that isn't there
unfoldable pub usage : Output
usage = record { lines = usage_line ∷ []; status = Usage }

unfoldable pub not_found : Output
not_found = record { lines = line (codes "not found") ∷ []; status = NotFound }

-- what these texts make the program write over the files
unfoldable pub over : Listing → List (List ℕ) → List Output
over files texts = map (λ text. output (spoken text) (from_sorted files)) texts

-- the same, computed
unfoldable pub over_one : Option Command → Listing → Output
over_one None files = usage
over_one (Some command) files = on_files command files

one_listed : (command : Option Command) (files : Listing) → T (is_sorted (slice_cmp nat_cmp) files) → command_output command (from_sorted files) ≡ over_one command files
unfolding over_one usage command_output
one_listed None files sorted = λ i. usage
one_listed (Some command) files sorted = by_files command (from_sorted files) files (entries-from_sorted (slice_cmp nat_cmp) files sorted)

pub over_listed : (files : Listing) (texts : List (List ℕ)) → T (is_sorted (slice_cmp nat_cmp) files) → over files texts ≡ map (λ text. over_one (command_of (spoken text)) files) texts
unfolding over
over_listed files texts sorted = λ i. map (λ text. one_listed (command_of (spoken text)) files sorted i) texts

-- a database with this manifest
unfoldable pub with_manifest : List ℕ → Listing
with_manifest manifest = (codes "CURRENT", codes "MANIFEST-000002" ++ 10 ∷ []) ∷ (codes "MANIFEST-000002", manifest) ∷ []

-- a manifest of one record, the edit of a new database with log number 3
unfoldable pub first_record : List ℕ
first_record = 0x91 ∷ 0x8d ∷ 0x74 ∷ 0x51 ∷ 0x22 ∷ 0 ∷ 1 ∷ 1 ∷ 0x1a ∷ codes "leveldb.BytewiseComparator" ++ 2 ∷ 3 ∷ 3 ∷ 4 ∷ 4 ∷ 0 ∷ []

-- all that the lines of an output are computed by
unfoldable pub computation : Unit {0}
unfolding spoken over_one of_lines usage not_found with_manifest first_record command_of scan_of get_of dump_wal_of check_of sst_of drill_of digits decode_pairs encode_with quoted batch_lines edit_lines batch_of in_turn log_marks blocks_marks block_len marks_from fragment_found found pieces crc32c crc_bytes crc_bits crc_bit answer_in rows_in count_in opened_to best_to scan_listed get_listed check_listed check_best_listed on_files name_of current_manifest internal_key slot_cmp block_entries entries_after index_entries footer_of checked_block property_list range_list table_with table_status after_customs synced_sizes_at edit_fields edits_of parted_units steps_in_order edit_step overlap unit_step version_after covers replay table_file lowered_until placed numbered greatest_number agreeing readable_records table_part report_of_files free_lost_name moves
computation = tt
