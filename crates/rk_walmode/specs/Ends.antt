-- What a replay answers, where no log follows.
use Rattle.std.specs.Prelude.{◌≡◌, slice_get, Some, None, option_map, Result, Ok, Err}
use Rattle.rk_bytes.specs.declared.model.wal.WalErr.{WalErr}
use Rattle.rk_walmode.specs.declared.outcome.Replayed.{Replayed}
use Rattle.rk_walmode.specs.declared.progress.Stop.{Stop}
use Rattle.rk_walmode.specs.declared.progress.Progress.{Progress}
use Rattle.rk_walmode.specs.Walks.{ahead_of}

-- what was replayed up to here
abbrev pub replayed_by : Progress → Replayed
replayed_by progress = record {
  records = progress.records;
  expected = progress.expected;
  stopped = option_map (λ (stop : Stop). stop.log) progress.stopped;
}

-- A family is ahead of the logs, or this is what they add.
abbrev pub Finishes : Progress → Result Replayed WalErr → Type 0
Finishes progress (Ok replayed) = (slice_get (ahead_of progress.version.now progress.stopped) 0 ≡ None) × (replayed ≡ replayed_by progress)
Finishes progress (Err why) = slice_get (ahead_of progress.version.now progress.stopped) 0 ≡ Some why
