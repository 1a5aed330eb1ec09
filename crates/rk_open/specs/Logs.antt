-- The logs of a directory, and what feeding them to a replay comes to.
use Rattle.std.specs.Prelude.{◌≡◌, ℕ, Bool, List, [], ◌++◌, filter, filter_map, nat_le, Option, Some, None, unwrap_or, Result, MatchResult}
use Rattle.std.specs.FinMap.{get, entries}
use Rattle.rk_bytes.specs.declared.model.name.FileName.{FileName}
use Rattle.rk_bytes.specs.declared.model.name.FileName.TheVariants.{Log as log_file}
use Rattle.rk_bytes.specs.declared.model.open.OpenErr.{OpenErr}
use Rattle.rk_bytes.specs.declared.model.open.OpenErr.TheVariants.{Wal, Memory as want_of_memory}
use Rattle.rk_bytes.specs.declared.model.wal.WalErr.{WalErr}
use Rattle.rk_bytes.specs.declared.model.wal.WalErr.TheVariants.{Memory}
use Rattle.rk_bytes.specs.Model.BlockEntries.{with_fault}
use Rattle.rk_bytes.specs.Model.DiskImages.{Directory}
use Rattle.rk_bytes.specs.Model.FileNames.{log_name, name_of}
use Rattle.rk_bytes.specs.Model.Opening.{in_order, logs_of}
use Rattle.rk_bytes.specs.Model.Replay.{Log, replay}
use Rattle.rk_walmode.specs.declared.run.ReplayRun.{ReplayRun}
use Rattle.rk_walmode.specs.Fed.{Fed, joined, with_block, gone_on}
use Rattle.rk_walmode.specs.Runs.{version_of, mode_of, HasFed}
use Rattle.rk_open.specs.Answers.{RefusesAs}

-- why nothing is opened where replay gives nothing
abbrev pub replay_fault : WalErr → OpenErr
replay_fault Memory = want_of_memory
replay_fault why = Wal why

-- the number of a log's file
abbrev pub log_number : FileName → Option ℕ
log_number (log_file number) = Some number
log_number _ = None

-- the numbers of the logs among names, rising
abbrev pub log_numbers : List (List ℕ) → List ℕ
log_numbers names = in_order (λ number. number) (filter_map (λ name. log_number (name_of name)) names)

-- the log with a number, with no bytes where it isn't there
abbrev pub log_in : Directory → ℕ → Log
log_in d number = record { number = number; bytes = unwrap_or (get d (log_name number)) [] }

-- the logs from the first one on that is needed
abbrev pub needed_logs : ℕ → Directory → List Log
needed_logs first d = filter (λ log. nat_le first log.number) (logs_of (entries d))

-- these logs were fed whole, and no other one is begun
abbrev pub fed_whole : List Log → Fed
fed_whole logs = record { whole = logs; begun = None }

-- Logs in front of which others were fed are fed to a run as well, or it is answered why replay refuses them,
-- whatever follows.
abbrev pub FeedsLogs : ReplayRun → List Log → Result (Unit {0}) OpenErr → ReplayRun → Type 0
FeedsLogs old logs result new = (before : List Log) → HasFed old (fed_whole before)
    → MatchResult result (λ _. HasFed new (fed_whole (before ++ logs))) (λ why. (later : List Log) → RefusesAs (with_fault Wal (replay (mode_of old) (version_of old) (before ++ logs ++ later))) why)

-- The same of a block of a log.
abbrev pub FeedsBlock : ReplayRun → ℕ → List ℕ → Bool → Result (Unit {0}) OpenErr → ReplayRun → Type 0
FeedsBlock old number block is_last result new = (fed : Fed) → HasFed old fed
    → let after = with_block fed number block is_last in
    MatchResult result (λ _. HasFed new after) (λ why. (more : List ℕ) (later : List Log) → RefusesAs (with_fault Wal (replay (mode_of old) (version_of old) (after.whole ++ gone_on after.begun more ++ later))) why)

-- The run was fed with logs and then with these bytes of one that may go on.
pub record HasFedFront (run : ReplayRun) (before : List Log) (number : ℕ) (bytes : List ℕ) : Type 0 where
  pub begun : Option Log
  pub fed : HasFed run (record { whole = before; begun = begun })
  pub is : joined begun number [] ≡ record { number = number; bytes = bytes }
