-- What contracts see of a directory that is opened, step by step.
use Rattle.std.specs.Prelude.{◌≡◌, ◌≤◌, ℕ, List, [], ◌++◌, flat_map, map, Result, Ok}
use Rattle.std.specs.FinMap.{get}
use Rattle.rk_bytes.specs.declared.model.key.Record.{Record}
use Rattle.rk_bytes.specs.declared.model.manifest.Version.{Version}
use Rattle.rk_bytes.specs.declared.model.open.OpenErr.{OpenErr}
use Rattle.rk_bytes.specs.declared.model.open.OpenErr.TheVariants.{Wal}
use Rattle.rk_bytes.specs.declared.model.wal.Mode.{Mode}
use Rattle.rk_bytes.specs.Model.Numbers.{◌>>=◌}
use Rattle.rk_bytes.specs.Model.BlockEntries.{with_fault, collected}
use Rattle.rk_bytes.specs.Model.DiskImages.{Directory}
use Rattle.rk_bytes.specs.Model.InternalKey.{top_sequence}
use Rattle.rk_bytes.specs.Model.Manifest.{first_log}
use Rattle.rk_bytes.specs.Model.Records.{last_records}
use Rattle.rk_bytes.specs.Model.KeyView.{State}
use Rattle.rk_bytes.specs.Model.Opening as opening
use Rattle.rk_bytes.specs.Model.Opening.{TableFile, family_line, greatest_sequence, listed_tables, state_with, table_file, table_records, tracked_log, version_in}
use Rattle.rk_bytes.specs.Model.Replay.{Replayed, replay}
use Rattle.rk_open.specs.declared.loaded.Loaded.{Loaded}
use Rattle.rk_open.specs.declared.directory.Filled.{Filled}
use Rattle.rk_open.specs.declared.opened.Opened.{Opened}
use Rattle.rk_open.specs.Logs.{needed_logs}

-- what was opened, as the definition has it
abbrev pub opened_of : Opened → opening.Opened
opened_of opened = record {
  state = opened.state.state;
  version = opened.version;
  manifest = opened.manifest;
  expected = opened.expected;
  stopped = opened.stopped;
  top = opened.top;
}

-- The state's record map is that of some records, and this is their greatest sequence number, 0 with none, which
-- an internal key can hold.
pub record IsTopOf (top : ℕ) (state : State) : Type 0 where
  pub all : List Record
  pub records : state.records ≡ last_records all
  pub greatest : top ≡ greatest_sequence all
  pub bound : top ≤ top_sequence

-- a state has the families of a version and what these tables hold
pub record IsLoaded (version : Version) (tables : List TableFile) (loaded : Loaded) : Type 0 where
  pub state : loaded.state.state ≡ state_with (map family_line version.families) tables []
  pub greatest : loaded.top ≡ greatest_sequence (flat_map table_records tables)

-- and above them what logs add
pub record IsFilled (version : Version) (tables : List TableFile) (added : Replayed) (filled : Filled) : Type 0 where
  pub state : filled.state.state ≡ state_with (map family_line version.families) tables added.records
  pub expected : filled.expected ≡ added.expected
  pub stopped : filled.stopped ≡ added.stopped
  pub greatest : filled.top ≡ greatest_sequence (flat_map table_records tables ++ added.records)

-- what the logs of a directory add to a version, once the tracked ones are tested
abbrev pub replayed_at : Mode → Directory → Version → Result Replayed OpenErr
replayed_at mode d version =
    collected (tracked_log (get d) (first_log version)) version.wals >>= λ synced. with_fault Wal (replay mode version (needed_logs (first_log version) d))

-- the tables of a version, and what logs add
abbrev pub filled_at : Mode → Directory → Version → Result (List TableFile × Replayed) OpenErr
filled_at mode d version =
    collected (table_file (get d)) (listed_tables version.families) >>= λ tables. replayed_at mode d version >>= λ added. Ok (tables, added)

-- what a directory is opened to by this version of the manifest with this number
abbrev pub opened_over : Mode → Directory → ℕ → Version → Result opening.Opened OpenErr
opened_over mode d manifest version = filled_at mode d version >>= λ (both : List TableFile × Replayed). Ok (opening.opened manifest version both.0 both.1)

-- what it is opened to by the manifest with this number
abbrev pub opened_by : Mode → Directory → ℕ → Result opening.Opened OpenErr
opened_by mode d manifest = version_in (get d) manifest >>= opened_over mode d manifest
