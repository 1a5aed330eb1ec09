-- What the statuses of a run say of what was taken.
use Rattle.std.specs.Prelude.{ℕ, ◌<◌, ◌++◌, List, Option, length, take}
use Rattle.rk_bytes.specs.declared.model.status.Status.{Status}
use Rattle.rk_bytes.specs.declared.model.status.Status.TheVariants.{Done, Refused, Usage, NotFound}
use Rattle.rk_bytes.specs.Model.Output.{Took, joined}

-- the status of a run that came to its output's end
abbrev pub IsAnswer : Status → Type 0
IsAnswer Done = Unit {0}
IsAnswer Refused = Unit {0}
IsAnswer Usage = Unit {0}
IsAnswer NotFound = Unit {0}
IsAnswer _ = ⊥

-- the same, of words that spell a command that the program has, but for `get`
abbrev pub IsCommandAnswer : Status → Type 0
IsCommandAnswer Done = Unit {0}
IsCommandAnswer Refused = Unit {0}
IsCommandAnswer _ = ⊥

-- the same of a `get`, whose key may show nothing
abbrev pub IsGetAnswer : Status → Type 0
IsGetAnswer Done = Unit {0}
IsGetAnswer Refused = Unit {0}
IsGetAnswer NotFound = Unit {0}
IsGetAnswer _ = ⊥

-- Whole lines were taken, and then the line of a fault, of which only so many bytes where this is their cause.
pub record EndsInFault (before after : Option (List ℕ)) (lines : List (List ℕ)) (fault_line : List ℕ) (cause : ℕ → Type 0) : Type 0 where
  pub count : ℕ
  pub len : ℕ
  pub taken : Took before after (joined (take count lines) ++ take len fault_line)
  pub whole : len < length fault_line → cause len

-- A front of the line was taken, of which only so many bytes where this is their cause.
pub record TookPart (before after : Option (List ℕ)) (line : List ℕ) (cause : ℕ → Type 0) : Type 0 where
  pub len : ℕ
  pub taken : Took before after (take len line)
  pub whole : len < length line → cause len
