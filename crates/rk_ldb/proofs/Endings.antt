-- How runs of commands end, and of words that spell none.
use Rattle.std.proofs.Common.{◌≡◌, ◌⊎◌, inl, inr, ℕ, List, Option, Some, None, Result, Ok, Err, refl, sym, ap, ◌∙◌, subst}
use Rattle.std.specs.Prelude.{IfOk, OnOk, IsNone, IsErrOf}
use Rattle.rk_bytes.specs.declared.model.status.Status.{Status}
use Rattle.rk_bytes.specs.declared.model.status.Status.TheVariants.{Done, Refused, Usage, DiskFault, SinkFault, Memory, NotFound}
use Rattle.rk_bytes.specs.Model.Grammar.{Command, scan, get, families, manifest_dump, dump_wal, check, repair, sst, drill, command_of}
use Rattle.rk_bytes.specs.Model.Lines.{usage_line}
use Rattle.rk_bytes.specs.Model.Output.{Took}
use Rattle.rk_ldb.specs.declared.stop.Stop.{Stop}
use Rattle.rk_ldb.specs.declared.stop.Stop.TheVariants as stop
use Rattle.rk_ldb.specs.Answers.{IsCommandAnswer, IsGetAnswer}
use Rattle.rk_ldb.specs.Built.{built, IsGet}
use Rattle.rk_ldb.specs.Ends.{IsAnswerOf, EndsAs}
use Rattle.rk_ldb.specs.Stops.{OutputStops}

command_get : (status : Status) → IsCommandAnswer status → IsGetAnswer status
command_get Done is = tt
command_get Refused is = tt
command_get Usage is = absurd is
command_get DiskFault is = absurd is
command_get SinkFault is = absurd is
command_get Memory is = absurd is
command_get NotFound is = absurd is

any_get : (command : Command) (status : Status) → IsAnswerOf command status → IsGetAnswer status
any_get (scan family how from to hex) status is = command_get status is
any_get (get key family how hex) status is = is
any_get families status is = command_get status is
any_get (manifest_dump hex) status is = command_get status is
any_get (dump_wal n hex) status is = command_get status is
any_get (check how) status is = command_get status is
any_get repair status is = command_get status is
any_get (sst n part hex) status is = command_get status is
any_get (drill n) status is = command_get status is

finds : (status : Status) → IsCommandAnswer status → status ≡ NotFound → ⊥
finds status is none = subst IsCommandAnswer none is

only_get : (command : Command) (status : Status) → IsAnswerOf command status → status ≡ NotFound → IsGet (Some command)
only_get (scan family how from to hex) status is none = absurd (finds status is none)
only_get (get key family how hex) status is none = tt
only_get families status is none = absurd (finds status is none)
only_get (manifest_dump hex) status is none = absurd (finds status is none)
only_get (dump_wal n hex) status is none = absurd (finds status is none)
only_get (check how) status is none = absurd (finds status is none)
only_get repair status is none = absurd (finds status is none)
only_get (sst n part hex) status is none = absurd (finds status is none)
only_get (drill n) status is none = absurd (finds status is none)

-- The status is that of the usage line.
abbrev IsUsage : Status → Type 0
IsUsage Usage = Unit {0}
IsUsage _ = ⊥

module _ (before now : Option (List ℕ)) where
  -- an answer, or the usage line where there is no command
  pub usage_of : (command : Option Command) (result : Result Status Stop) → EndsAs command before now result
      → IfOk result (λ status. IsGetAnswer status ⊎ ((status ≡ Usage) × (IsNone command × Took before now usage_line)))
  usage_of None (Ok status) ends = inr (ends.0, (refl, ends.1))
  usage_of (Some command) (Ok status) ends = inl (any_get command status ends)
  usage_of command (Err why) ends = tt

  pub not_found_of : (command : Option Command) (result : Result Status Stop) → EndsAs command before now result → IfOk result (λ status. status ≡ NotFound → IsGet command)
  not_found_of None (Ok status) ends = λ is. absurd (subst IsUsage (sym ends.0 ∙ is) tt)
  not_found_of (Some command) (Ok status) ends = λ is. only_get command status ends is
  not_found_of command (Err why) ends = tt

  pub no_usage_of : (command : Option Command) (result : Result Status Stop) → EndsAs command before now result → IsNone command → (result ≡ Ok Usage) ⊎ (IsErrOf result stop.Sink ⊎ IsErrOf result stop.Memory)
  no_usage_of None (Ok status) ends none = inl (ap Ok ends.0)
  no_usage_of None (Err stop.Disk) ends none = absurd ends
  no_usage_of None (Err stop.Sink) ends none = inr (inl refl)
  no_usage_of None (Err stop.Memory) ends none = inr (inr refl)
  no_usage_of (Some command) result ends none = absurd cc

  -- the end of a command that the program has
  pub ends_command : (command known : Command) (result : Result Status Stop) → command ≡ known → built (Some known) ≡ Some known → IfOk result (IsAnswerOf known) → EndsAs (built (Some command)) before now result
  ends_command command known result is has ends = subst (λ command. EndsAs command before now result) (sym (ap (λ command. built (Some command)) is ∙ has)) (by result ends)
    where
      by : (result : Result Status Stop) → IfOk result (IsAnswerOf known) → EndsAs (Some known) before now result
      by (Ok status) ends = ends
      by (Err why) ends = tt

  -- the end of one that it doesn't have
  pub ends_without : (command other : Command) (result : Result Status Stop) (n m : ℕ) → command ≡ other → built (Some other) ≡ None → OnOk result (Took before now usage_line) → IfOk result (λ status. status ≡ Usage)
      → OutputStops n m result → EndsAs (built (Some command)) before now result
  ends_without command other result n m is lacks line status stops = subst (λ command. EndsAs command before now result) (sym (ap (λ command. built (Some command)) is ∙ lacks)) (by result line status stops)
    where
      by : (result : Result Status Stop) → OnOk result (Took before now usage_line) → IfOk result (λ status. status ≡ Usage) → OutputStops n m result → EndsAs None before now result
      by (Ok ended) line status stops = (status, line)
      by (Err stop.Disk) line status stops = stops
      by (Err stop.Sink) line status stops = tt
      by (Err stop.Memory) line status stops = tt

  -- the same of the words that spell a command, or none
  pub usage_of_words : (words : List (List ℕ)) (command : Command) (result : Result Status Stop) → ◌≡◌ {A = Option Command} (Some command) (command_of words) → EndsAs (built (Some command)) before now result
      → EndsAs (built (command_of words)) before now result
  usage_of_words words command result is ends = subst (λ command. EndsAs (built command) before now result) is ends
