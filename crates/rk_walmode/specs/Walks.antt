-- Replay as a walk: what each finding in turn makes of what logs come to.
use Rattle.std.specs.Prelude.{ℕ, ◌+◌, ◌==◌, Bool, true, false, not, ◌&&◌, ◌||◌, List, [], ◌++◌, map, filter, fold, if◌then◌else◌, Option, Some, None, is_some, unwrap_or}
use Rattle.rk_bytes.specs.declared.model.key.Record.{Record}
use Rattle.rk_bytes.specs.declared.model.manifest.Version.{Version}
use Rattle.rk_bytes.specs.declared.model.wal.Mode.{Mode}
use Rattle.rk_bytes.specs.declared.model.wal.WalErr.{WalErr}
use Rattle.rk_bytes.specs.declared.model.wal.WalErr.TheVariants.{FamilyAhead}
use Rattle.rk_bytes.specs.Model.WriteBatch.{changes}
use Rattle.rk_bytes.specs.Model.Replay.{Finding, batch, damage, unsupported, stale_end, clean_end, Findings, Stop as StopAt, is_stop, next_sequence, refusal, is_wanted, is_ahead}
use Rattle.rk_walmode.specs.declared.progress.Stop.{Stop}

-- What the logs so far come to. What is left of a log may be passed over.
pub record Walk : Type 0 where
  pub records : List Record
  pub expected : ℕ
  pub stopped : Option Stop
  pub refused : Option WalErr
  pub passes : Bool

-- the finding is damage
abbrev pub is_damage : Finding → Bool
is_damage (damage why place) = true
is_damage _ = false

-- where replay stopped, and whether at damage
abbrev pub stop_of : StopAt → Stop
stop_of stop = record { log = stop.log; damaged = is_damage stop.at }

-- replay stops in the log at this finding, if it does
abbrev pub stop_at : Mode → ℕ → Finding → Option Stop
stop_at mode log one = if is_stop mode one then Some (record { log = log; damaged = is_damage one }) else None

-- the finding is a batch at the expected sequence number
abbrev pub is_next : ℕ → Finding → Bool
is_next expected (batch read) = read.sequence == expected
is_next expected (damage why place) = false
is_next expected (unsupported what) = false
is_next expected stale_end = false
is_next expected clean_end = false

-- the records of a finding that are admitted
abbrev pub records_in : Version → ℕ → Finding → List Record
records_in version log (batch read) = filter (is_wanted version log) (changes read.parts)
records_in version log (damage why place) = []
records_in version log (unsupported what) = []
records_in version log stale_end = []
records_in version log clean_end = []

-- the sequence number that is expected behind a finding
abbrev pub expected_behind : ℕ → Finding → ℕ
expected_behind expected (batch read) = next_sequence read
expected_behind expected (damage why place) = expected
expected_behind expected (unsupported what) = expected
expected_behind expected stale_end = expected
expected_behind expected clean_end = expected

-- a finding is taken, where replay isn't stopped
abbrev pub taken : Mode → Version → ℕ → Walk → Finding → Walk
taken mode version log walk one = record {
  records = walk.records ++ records_in version log one;
  expected = expected_behind walk.expected one;
  stopped = stop_at mode log one;
  refused = refusal mode log one;
  passes = is_some (refusal mode log one) || is_stop mode one;
}

-- The next finding of the log. Where replay is stopped, the log goes on with it or is passed over.
abbrev pub walk_on : Mode → Version → ℕ → Walk → Finding → Walk
walk_on mode version log walk one =
    if walk.passes then walk
    else (if is_some walk.stopped && not (is_next walk.expected one) then record walk { passes = true }
    else taken mode version log walk one)

-- the log ends
abbrev pub log_ended : Walk → Walk
log_ended walk = record walk { passes = is_some walk.refused }

-- a log is walked
abbrev pub walk_log : Mode → Version → Walk → Findings → Walk
walk_log mode version walk log = log_ended (fold (walk_on mode version log.log) walk log.found)

-- before the first log
abbrev pub first_walk : Version → Walk
first_walk version = record { records = []; expected = unwrap_or version.last_sequence 0 + 1; stopped = None; refused = None; passes = false }

-- logs are walked
abbrev pub walk_logs : Mode → Version → List Findings → Walk
walk_logs mode version logs = fold (walk_log mode version) (first_walk version) logs

-- the families that are ahead of where replay stopped
abbrev pub ahead_of : Version → Option Stop → List WalErr
ahead_of version None = []
ahead_of version (Some stop) = if stop.damaged then map (λ live. FamilyAhead live.id stop.log) (filter (is_ahead stop.log) version.families) else []
