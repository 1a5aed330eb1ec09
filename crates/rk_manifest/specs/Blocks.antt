-- What a block comes to, and whether more blocks are wanted behind it.
use Rattle.std.specs.Prelude.{◌≡◌, Bool, true, false, List, ◌++◌, ℕ, Result, Ok, Err}
use Rattle.rk_bytes.specs.declared.memory.Memory.{Memory}
use Rattle.rk_log.specs.declared.feed.LogFeed.{LogFeed}
use Rattle.rk_log.specs.Left.{left}
use Rattle.rk_log.specs.Steps.{MayFollow}
use Rattle.rk_manifest.specs.declared.reading.Reading.{Reading}
use Rattle.rk_manifest.specs.declared.reading.Reading.TheVariants.{GoesOn, Ended}
use Rattle.rk_manifest.specs.declared.progress.Progress.{Progress}
use Rattle.rk_manifest.specs.Outcomes.{last_with, outcome}

-- reading goes on
abbrev pub goes_on : Result Reading Memory → Bool
goes_on (Ok GoesOn) = true
goes_on (Ok (Ended fault)) = false
goes_on (Err memory) = false

-- memory ran out
abbrev pub ran_out : {T : Type 0} → Result T Memory → Bool
ran_out (Ok one) = false
ran_out (Err memory) = true

-- The items that a block ends are taken, whatever follows the block, or memory ran out.
abbrev pub TakesBlock : LogFeed → Progress → List ℕ → Bool → Result Reading Memory → LogFeed → Progress → Type 0
TakesBlock old from block is_last (Ok reading) new to =
    (rest : List ℕ) → MayFollow is_last rest → last_with from (left old (block ++ rest)).items ≡ outcome reading to (left new rest).items
TakesBlock old from block is_last (Err memory) new to = Unit {0}
