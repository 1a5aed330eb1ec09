-- What a run was fed with while it takes a block.
use Rattle.std.specs.Prelude.{◌≡◌, ℕ, Bool, true, false, List, [], ◌∷◌, ◌++◌, map, Option, Some, None, Result, Ok, Err}
use Rattle.rk_bytes.specs.declared.model.manifest.Version.{Version}
use Rattle.rk_bytes.specs.declared.model.wal.Mode.{Mode}
use Rattle.rk_bytes.specs.declared.model.wal.WalErr.{WalErr}
use Rattle.rk_bytes.specs.declared.model.wal.WalErr.TheVariants.{Memory}
use Rattle.rk_bytes.specs.Model.Replay.{Log, findings, replay}
use Rattle.rk_walmode.specs.declared.run.ReplayRun.{ReplayRun}
use Rattle.rk_walmode.specs.Fed.{Fed}
use Rattle.rk_walmode.specs.Walks.{walk_logs}
use Rattle.rk_walmode.specs.Runs.{version_of, mode_of, IsFed}

-- the log with this number is begun, if none is
abbrev pub opened : Option Log → ℕ → Log
opened None number = record { number = number; bytes = [] }
opened (Some begun) number = begun

-- the log is handed in up to here, behind whole ones, and its file ends so or not
abbrev pub handed : List Log → Log → Bool → Fed
handed whole log true = record { whole = whole ++ log ∷ []; begun = None }
handed whole log false = record { whole = whole; begun = Some log }

-- A log was fed up to here, behind whole ones, and its file ends so or not.
pub record HasRead (run : ReplayRun) (is_last : Bool) (whole : List Log) (begun : Log) : Type 0 where
  pub log : run.log ≡ Some begun.number
  pub come : IsFed (mode_of run) (version_of run) run is_last (walk_logs (mode_of run) (version_of run) (map findings whole)) (Some begun)

-- what replay comes to where the answer to these logs is a refusal, whatever logs follow
abbrev pub RefusesLogs : Mode → Version → List Log → Result (Unit {0}) WalErr → Type 0
RefusesLogs mode version logs (Ok done) = Unit {0}
RefusesLogs mode version logs (Err Memory) = Unit {0}
RefusesLogs mode version logs (Err why) = (later : List Log) → replay mode version (logs ++ later) ≡ Err why
