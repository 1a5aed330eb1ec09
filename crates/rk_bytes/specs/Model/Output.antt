-- What a command writes over a directory, and how it ends. All of it is this project's own rule.
use Rattle.std.specs.Prelude.{◌≡◌, ℕ, ◌-◌, ◌^◌, min, sum, Bool, false, List, [], ◌∷◌, ◌++◌, length, map, flat_map, take, Option, Some, None, option_map, unwrap_or, ok_or, Result, Ok, Err, codes, refl}
use Rattle.std.specs.Fmt.{digits}
use Rattle.std.specs.FinMap.{get as file_named}
use Rattle.rk_bytes.specs.declared.model.status.Status.{Status}
use Rattle.rk_bytes.specs.declared.model.status.Status.TheVariants.{Done, Refused, Usage, DiskFault, SinkFault, Memory, NotFound}
use Rattle.rk_bytes.specs.declared.model.command.How.{How}
use Rattle.rk_bytes.specs.declared.model.command.How.TheVariants as how
use Rattle.rk_bytes.specs.declared.model.command.SstPart.{SstPart}
use Rattle.rk_bytes.specs.declared.model.command.SstPart.TheVariants as sst_part
use Rattle.rk_bytes.specs.declared.model.manifest.Version.{Version}
use Rattle.rk_bytes.specs.declared.model.open.OpenErr.{OpenErr}
use Rattle.rk_bytes.specs.declared.model.open.OpenErr.TheVariants.{NoManifest}
use Rattle.rk_bytes.specs.declared.model.salvage.SurveyErr.{SurveyErr}
use Rattle.rk_bytes.specs.declared.model.salvage.Report.{Report}
use Rattle.rk_bytes.specs.Model.Numbers.{◌>>=◌}
use Rattle.rk_bytes.specs.Model.DiskImages.{Directory}
use Rattle.rk_bytes.specs.Model.FileNames.{log_name, table_name, manifest_name}
use Rattle.rk_bytes.specs.Model.Checksums.{pieces}
use Rattle.rk_bytes.specs.Model.LogMarks.{blocks_marks, block_len, log_marks}
use Rattle.rk_bytes.specs.Model.LogItems.{Item, rec, log_items}
use Rattle.rk_bytes.specs.Model.TableStatus.{Good, table_status}
use Rattle.rk_bytes.specs.Model.KeyView.{State, Answer, absent, answer, rows, family_named, record_count, key_count}
use Rattle.rk_bytes.specs.Model.Opening.{Files, named_manifest, version_in, open_directory}
use Rattle.rk_bytes.specs.Model.BestEfforts.{best_directory}
use Rattle.rk_bytes.specs.Model.Salvage.{salvage_families, salvage_records, uncut_tombs, repair_report}
use Rattle.rk_bytes.specs.Model.Drill.{drill_directory}
use Rattle.rk_bytes.specs.Model.Grammar.{KeyWord, key_bytes, Command, scan, get, families, manifest_dump, dump_wal, check, repair, sst, drill, all_modes, command_of}
use Rattle.rk_bytes.specs.Model.Lines.{line, item_line, batch_lines, edit_lines, families_line, row_line, answer_line, manifest_line, point_line, ok_line, count_words, mode_line, best_efforts_line, drill_line, moved_line, repaired_line, good_line, entry_line, range_line, property_line, table_fault_words, open_err_words, survey_err_words, no_log_words, no_table_words, no_family_words, refused_words, refusal_line, usage_line}

-- lines, each with its newline, and the status
pub record Output : Type 0 where
  pub lines : List (List ℕ)
  pub status : Status

-- lines one after another
abbrev pub joined : List (List ℕ) → List ℕ
joined lines = flat_map (λ bytes. bytes) lines

-- the whole text of an output
abbrev pub text : Output → List ℕ
text out = joined out.lines

-- the exit status of a program that ends so
abbrev pub exit_status : Status → ℕ
exit_status Done = 0
exit_status Refused = 1
exit_status Usage = 2
exit_status DiskFault = 3
exit_status SinkFault = 4
exit_status Memory = 5
exit_status NotFound = 6

-- the lines that answer a command
abbrev pub written : List (List ℕ) → Output
written lines = record { lines = lines; status = Done }

-- the line that refuses a command
abbrev pub refused : List ℕ → Output
refused why = record { lines = refusal_line why ∷ []; status = Refused }

-- what is written of what was found, or the refusal
abbrev pub written_or_refused : {A F : Type 0} → (F → List ℕ) → (A → Output) → Result A F → Output
written_or_refused words write (Ok one) = write one
written_or_refused words write (Err why) = refused (words why)

-- the line of an item of a log and, of a record, the lines of its payload
abbrev pub item_lines : List ℕ → (List ℕ → List (List ℕ)) → Item → List (List ℕ)
item_lines word payload_lines (rec payload place) = item_line word (rec payload place) ∷ payload_lines payload
item_lines word payload_lines item = item_line word item ∷ []

-- `dump_wal`: the items of a log, with its batches
abbrev pub dump_wal_output : ℕ → Bool → Option (List ℕ) → Output
dump_wal_output n hex None = refused (no_log_words n)
dump_wal_output n hex (Some bytes) = written (flat_map (item_lines (codes "record") (batch_lines hex)) (log_items n bytes))

-- the bytes of the manifest that CURRENT names
abbrev pub manifest_file : Files → Result (List ℕ) OpenErr
manifest_file files = do
  number ← named_manifest files
  ok_or (files (manifest_name number)) (NoManifest number)

-- the version that it amounts to
abbrev pub manifest_version : Files → Result Version OpenErr
manifest_version files = do
  number ← named_manifest files
  version_in files number

-- `manifest_dump`: the items of the manifest, with its edits
abbrev pub manifest_dump_output : Bool → Files → Output
manifest_dump_output hex files = written_or_refused open_err_words (λ bytes. written (flat_map (item_lines (codes "edit") (edit_lines hex)) (log_items 0 bytes))) (manifest_file files)

-- `families`: the families of the last version
abbrev pub families_output : Files → Output
families_output files = written_or_refused open_err_words (λ version. written (map families_line version.families)) (manifest_version files)

-- what is asked of a good table
abbrev pub table_lines : SstPart → Bool → Good → List (List ℕ)
table_lines sst_part.Check hex good = good_line good.table ∷ []
table_lines sst_part.Scan hex good = map (entry_line hex) good.records ++ map (range_line hex) good.table.ranges
table_lines sst_part.Properties hex good = map (property_line hex) good.table.properties

-- `sst`: one table
abbrev pub sst_output : ℕ → SstPart → Bool → Option (List ℕ) → Output
sst_output n part hex None = refused (no_table_words n)
sst_output n part hex (Some bytes) = written_or_refused (table_fault_words n) (λ good. written (table_lines part hex good)) (table_status bytes)

-- the state that a directory is opened to
abbrev pub state_of : How → Directory → Result State OpenErr
state_of (how.Normal mode) d = do
  opened ← open_directory mode d
  Ok opened.state
state_of how.Best d = do
  best ← best_directory d
  Ok best.state

-- what is written of a live family, which is the default one where none is named
abbrev pub for_family : Option (List ℕ) → (ℕ → Output) → State → Output
for_family named write state =
    let name = unwrap_or named (codes "default") in
    elim (family_named state name) [ Some id ↦ write id | None ↦ refused (no_family_words name) ]

-- `scan`: the rows of a family between two keys
abbrev pub scan_output : Option (List ℕ) → Option KeyWord → Option KeyWord → Bool → Result State OpenErr → Output
scan_output named from to hex opened =
    written_or_refused open_err_words (λ state. for_family named (λ id. written (map (row_line hex) (rows state id (option_map key_bytes from) (option_map key_bytes to)))) state) opened

-- the status of the answer for one key
abbrev pub answer_status : Answer → Status
answer_status absent = NotFound
answer_status _ = Done

-- `get`: the answer for one key of a family
abbrev pub get_output : KeyWord → Option (List ℕ) → Bool → Result State OpenErr → Output
get_output key named hex opened = written_or_refused open_err_words (λ state. for_family named (λ id.
    let shown = answer state id (key_bytes key) in record { lines = answer_line hex shown ∷ []; status = answer_status shown }) state) opened

-- the line of a state's counts, which are at most 2 ^ 64 - 1
abbrev pub counts_line : State → List ℕ
counts_line state = ok_line (length state.families) (min (sum (map (λ line. line.files) state.families)) (2 ^ 64 - 1)) (record_count state)

-- `check`: what is opened, and by best efforts how far
abbrev pub check_output : How → Directory → Output
check_output (how.Normal mode) d = written_or_refused open_err_words (λ opened. written (counts_line opened.state ∷ [])) (open_directory mode d)
check_output how.Best d =
    written_or_refused open_err_words (λ best. written (manifest_line best.manifest best.units ∷ map point_line best.points ++ counts_line best.state ∷ [])) (best_directory d)

-- `repair`: what is moved, and its counts
abbrev pub repair_output : Result Report SurveyErr → Output
repair_output answered = written_or_refused survey_err_words (λ report. written (map moved_line report.moved ++ repaired_line report ∷ [])) answered

-- The salvage of a directory as a state, of which records and keys are counted: its families have no log
-- number and no file.
abbrev pub salvage_state : Directory → State
salvage_state d = record {
  families = map (λ family. record { id = family.id; name = family.name; log = 0; files = 0 }) (salvage_families d);
  records = salvage_records d;
  tombs = uncut_tombs d;
}

-- how many records and keys a state has
abbrev pub state_counts : State → List ℕ
state_counts state = count_words (record_count state) (key_count state)

-- the same of a directory that was opened, or why it wasn't
abbrev pub opened_counts : Result State OpenErr → List ℕ
opened_counts (Ok state) = state_counts state
opened_counts (Err why) = refused_words (open_err_words why)

-- the last line of a repair
abbrev pub repair_line : Result Report SurveyErr → List ℕ
repair_line (Ok report) = repaired_line report
repair_line (Err why) = refusal_line (survey_err_words why)

-- `drill`: what a directory is opened to in each mode and by best efforts, then after a repair in each mode
abbrev pub drill_output : ℕ → Directory → Output
drill_output n d = written (drill_line n ∷ map (λ mode. mode_line mode (opened_counts (state_of (how.Normal mode) d))) all_modes
    ++ best_efforts_line (opened_counts (state_of how.Best d)) ∷ repair_line (repair_report d) ∷ map (λ mode. mode_line mode (state_counts (salvage_state d))) all_modes)

-- what a command writes over a directory, or the usage line where there is no command
unfoldable pub command_output : Option Command → Directory → Output
command_output None d = record { lines = usage_line ∷ []; status = Usage }
command_output (Some (scan named opening from to hex)) d = scan_output named from to hex (state_of opening d)
command_output (Some (get key named opening hex)) d = get_output key named hex (state_of opening d)
command_output (Some families) d = families_output (file_named d)
command_output (Some (manifest_dump hex)) d = manifest_dump_output hex (file_named d)
command_output (Some (dump_wal n hex)) d = dump_wal_output n hex (file_named d (log_name n))
command_output (Some (check opening)) d = check_output opening d
command_output (Some repair) d = repair_output (repair_report d)
command_output (Some (sst n part hex)) d = sst_output n part hex (file_named d (table_name n))
command_output (Some (drill n)) d = drill_output n (drill_directory n)

-- what the program writes for these words over the directory
abbrev pub output : List (List ℕ) → Directory → Output
output words d = command_output (command_of words) d

-- an output, where it is told, took these bytes
abbrev pub Took : Option (List ℕ) → Option (List ℕ) → List ℕ → Type 0
Took before after bytes = after ≡ option_map (λ front. front ++ bytes) before

-- it took whole lines from the first on, and then these bytes
abbrev pub TookLines : Option (List ℕ) → Option (List ℕ) → List (List ℕ) → List ℕ → Type 0
TookLines before after lines bytes = (n : ℕ) × Took before after (joined (take n lines) ++ bytes)

-- it took a front of these bytes
abbrev pub TookFront : Option (List ℕ) → Option (List ℕ) → List ℕ → Type 0
TookFront before after bytes = (n : ℕ) × Took before after (take n bytes)

of_an_empty_log : dump_wal_output 3 false (Some []) ≡ record { lines = line (codes "end 0 Clean") ∷ []; status = Done }
unfolding log_marks pieces blocks_marks block_len digits
of_an_empty_log = refl

of_no_log : dump_wal_output 3 false None ≡ record { lines = line (codes "refused: NoLog 3") ∷ []; status = Refused }
unfolding digits
of_no_log = refl
