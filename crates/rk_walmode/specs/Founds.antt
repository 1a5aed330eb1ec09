-- What a finding is to the definition of replay, and what taking one makes of a walk.
use Rattle.std.specs.Prelude.{◌≡◌, ◌⊎◌, ℕ, Bool, true, false, Some, Result, Ok, Err}
use Rattle.rk_bytes.specs.declared.model.manifest.Version.{Version}
use Rattle.rk_bytes.specs.declared.model.wal.Mode.{Mode}
use Rattle.rk_bytes.specs.declared.model.wal.WalWhy.TheVariants.{Gap, Torn, Batch as bad_batch}
use Rattle.rk_bytes.specs.declared.model.wal.WalErr.{WalErr}
use Rattle.rk_bytes.specs.declared.model.wal.WalErr.TheVariants.{Memory}
use Rattle.rk_bytes.specs.Model.Replay.{Finding, batch, damage, unsupported, stale_end, clean_end}
use Rattle.rk_walmode.specs.declared.finding.Found.{Found}
use Rattle.rk_walmode.specs.declared.finding.Found.TheVariants.{Batch, Damage, Unsupported, StaleEnd, CleanEnd}
use Rattle.rk_walmode.specs.declared.progress.Reading.{Reading}
use Rattle.rk_walmode.specs.declared.progress.Reading.TheVariants.{GoesOn, Ended}
use Rattle.rk_walmode.specs.declared.progress.Progress.{Progress}
use Rattle.rk_walmode.specs.Low.{IsUnread}
use Rattle.rk_walmode.specs.Walks.{Walk, walk_on, taken}
use Rattle.rk_walmode.specs.Runs.{IsAt}

-- a finding, as the definition has it
abbrev pub finding_in : Found → Finding
finding_in (Batch seen) = batch seen.batch
finding_in (Damage why place) = damage why place
finding_in (Unsupported what) = unsupported what
finding_in StaleEnd = stale_end
finding_in CleanEnd = clean_end

-- a batch is handed over so
abbrev pub IsWhole : Found → Type 0
IsWhole (Batch seen) = IsUnread seen
IsWhole _ = Unit {0}

-- the finding is an item behind which others may stand
abbrev pub goes_behind : Finding → Bool
goes_behind (batch read) = true
goes_behind (damage (Gap why) place) = true
goes_behind (damage Torn place) = false
goes_behind (damage (bad_batch why) place) = true
goes_behind (unsupported what) = false
goes_behind stale_end = false
goes_behind clean_end = false

-- the finding is an end that is supported
abbrev pub ends_log : Finding → Bool
ends_log (batch read) = false
ends_log (damage (Gap why) place) = false
ends_log (damage Torn place) = true
ends_log (damage (bad_batch why) place) = false
ends_log (unsupported what) = false
ends_log stale_end = true
ends_log clean_end = true

-- A finding made this of the walk: reading goes on, or nothing behind the finding counts, or it is refused, or
-- memory ran out.
abbrev pub Comes : Progress → Finding → Result Reading WalErr → Walk → Type 0
Comes new one (Ok GoesOn) walk = IsAt new walk × (walk.passes ≡ false) × (goes_behind one ≡ true)
Comes new one (Ok Ended) walk = IsAt new walk × ((walk.passes ≡ true) ⊎ (ends_log one ≡ true))
Comes new one (Err Memory) walk = Unit {0}
Comes new one (Err why) walk = (walk.refused ≡ Some why) × (walk.passes ≡ true)

-- A finding is taken.
abbrev pub Takes : Mode → Version → Progress → ℕ → Finding → Result Reading WalErr → Progress → Type 0
Takes mode version old log one result new = (walk : Walk) → IsAt old walk → walk.passes ≡ false → Comes new one result (walk_on mode version log walk one)

-- A finding is taken, where replay isn't stopped.
abbrev pub Adds : Mode → Version → Progress → ℕ → Finding → Result Reading WalErr → Progress → Type 0
Adds mode version old log one result new = (walk : Walk) → IsAt old walk → Comes new one result (taken mode version log walk one)
