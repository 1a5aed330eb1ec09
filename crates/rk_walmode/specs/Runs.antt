-- What contracts see of a replay that is fed block by block.
use Rattle.std.specs.Prelude.{◌≡◌, ◌⊎◌, ℕ, Bool, true, false, not, List, [], ◌++◌, map, filter, fold, Option, Some, None, option_map, Result, Ok, Err}
use Rattle.rk_bytes.specs.declared.model.manifest.Version.{Version}
use Rattle.rk_bytes.specs.declared.model.wal.Mode.{Mode}
use Rattle.rk_bytes.specs.declared.model.wal.WalErr.{WalErr}
use Rattle.rk_bytes.specs.declared.model.wal.WalErr.TheVariants.{Memory}
use Rattle.rk_bytes.specs.Model.LogItems.{Item, log_items}
use Rattle.rk_bytes.specs.Model.Replay.{Log, finding, findings}
use Rattle.rk_log.specs.declared.feed.LogFeed.{LogFeed}
use Rattle.rk_log.specs.Left.{left, bytes_before}
use Rattle.rk_log.specs.Steps.{MayFollow, IsFileEnd}
use Rattle.rk_walmode.specs.declared.progress.Progress.{Progress}
use Rattle.rk_walmode.specs.declared.run.ReplayRun.{ReplayRun}
use Rattle.rk_walmode.specs.Fed.{Fed, is_file_end, lacks_memory}
use Rattle.rk_walmode.specs.Walks.{Walk, walk_on, walk_logs}

-- the version that the logs stand on
abbrev pub version_of : ReplayRun → Version
version_of run = run.progress.version.now

-- the mode
abbrev pub mode_of : ReplayRun → Mode
mode_of run = run.progress.mode

-- the number of the log of which more blocks are to come, if there is one
abbrev pub open_log : ReplayRun → Option ℕ
open_log run = run.log

-- how many bytes of that log were read
abbrev pub bytes_before_in : Option LogFeed → ℕ
bytes_before_in None = 0
bytes_before_in (Some feed) = bytes_before feed

abbrev pub bytes_read : ReplayRun → ℕ
bytes_read run = bytes_before_in run.feed

-- memory ran out
abbrev pub has_failed : ReplayRun → Bool
has_failed run = lacks_memory run.outcome

-- The walk has come to what the progress has, and was not refused.
pub record IsAt (progress : Progress) (walk : Walk) : Type 0 where
  pub records : progress.records ≡ walk.records
  pub expected : progress.expected ≡ walk.expected
  pub stopped : progress.stopped ≡ walk.stopped
  pub refused : walk.refused ≡ None

-- the walk has come to this, or was refused so, unless memory ran out
abbrev pub HasCome : Progress → Result (Unit {0}) WalErr → Walk → Type 0
HasCome progress (Ok done) walk = IsAt progress walk
HasCome progress (Err Memory) walk = Unit {0}
HasCome progress (Err why) walk = (walk.refused ≡ Some why) × (walk.passes ≡ true)

-- These items may follow: what the feed has left, or where it was given up, what changes nothing.
abbrev pub Follow : Option LogFeed → Walk → List ℕ → List Item → Type 0
Follow (Some feed) walk rest items = (items ≡ (left feed rest).items) × (walk.passes ≡ false)
Follow None walk rest items = (walk.passes ≡ true) ⊎ (items ≡ [])

-- Were no block to follow, the feed had nothing left but the file's end. Behind the last block it was given up.
abbrev pub IsQuiet : Bool → Option LogFeed → Type 0
IsQuiet is_last None = Unit {0}
IsQuiet false (Some feed) = IsFileEnd (left feed []).items
IsQuiet true (Some feed) = ⊥

-- Of a log that is begun, these items were seen, and what they make of the walk before it is what the run has
-- come to.
pub record IsBegun (mode : Mode) (version : Version) (run : ReplayRun) (is_last : Bool) (start : Walk) (log : Log) : Type 0 where
  pub seen : List Item
  pub known : is_last ≡ false → filter (λ item. not (is_file_end item)) seen ≡ seen
  pub quiet : IsQuiet is_last run.feed
  pub come : HasCome run.progress run.outcome (fold (walk_on mode version log.number) start (map finding seen))
  pub ahead : (rest : List ℕ) → MayFollow is_last rest
      → (items : List Item) × (log_items log.number (log.bytes ++ rest) ≡ seen ++ items) × Follow run.feed (fold (walk_on mode version log.number) start (map finding seen)) rest items

-- what the log that is begun has come to, or the logs before it, where none is
abbrev pub IsFed : Mode → Version → ReplayRun → Bool → Walk → Option Log → Type 0
IsFed mode version run is_last start None = HasCome run.progress run.outcome start
IsFed mode version run is_last start (Some log) = lacks_memory run.outcome ≡ false → IsBegun mode version run is_last start log

-- The run was fed with these logs, and what it has come to is what they come to.
pub record HasFed (run : ReplayRun) (fed : Fed) : Type 0 where
  pub log : run.log ≡ option_map (λ (log : Log). log.number) fed.begun
  pub come : IsFed (mode_of run) (version_of run) run false (walk_logs (mode_of run) (version_of run) (map findings fed.whole)) fed.begun
