-- How a run of a command ends, and of words that spell none.
use Rattle.std.specs.Prelude.{◌≡◌, ℕ, List, Option, Some, None, Result, Ok, Err}
use Rattle.rk_bytes.specs.declared.model.status.Status.{Status}
use Rattle.rk_bytes.specs.declared.model.status.Status.TheVariants.{Usage}
use Rattle.rk_bytes.specs.Model.Grammar.{Command, get}
use Rattle.rk_bytes.specs.Model.Lines.{usage_line}
use Rattle.rk_bytes.specs.Model.Output.{Took}
use Rattle.rk_ldb.specs.declared.stop.Stop.{Stop}
use Rattle.rk_ldb.specs.declared.stop.Stop.TheVariants.{Disk}
use Rattle.rk_ldb.specs.Answers.{IsCommandAnswer, IsGetAnswer}

-- A status that ends a command's whole output. Only a `get` finds nothing.
abbrev pub IsAnswerOf : Command → Status → Type 0
IsAnswerOf (get key named opening hex) status = IsGetAnswer status
IsAnswerOf _ status = IsCommandAnswer status

-- Without a command the usage line is written whole, and a stop isn't the disk's.
abbrev pub EndsAs : Option Command → Option (List ℕ) → Option (List ℕ) → Result Status Stop → Type 0
EndsAs None before now (Ok status) = (status ≡ Usage) × Took before now usage_line
EndsAs None before now (Err Disk) = ⊥
EndsAs None before now (Err stop) = Unit {0}
EndsAs (Some command) before now (Ok status) = IsAnswerOf command status
EndsAs (Some command) before now (Err stop) = Unit {0}
