-- A run that finds a table's status, and the tables that it follows.
use Rattle.std.specs.Prelude.{◌≡◌, ℕ, ◌+◌, ◌-◌, ◌≤◌, List, length, drop, Option, Some, None, Result, Ok, Err}
use Rattle.rk_bytes.specs.declared.model.table.Footer.{Footer}
use Rattle.rk_bytes.specs.declared.model.table.FooterFault.{FooterFault}
use Rattle.rk_bytes.specs.declared.model.table.TrailerFault.{TrailerFault}
use Rattle.rk_bytes.specs.Model.TableStatus.{TableFault, trailer_status, table_status}
use Rattle.rk_meta.specs.declared.want.Want.{Want}
use Rattle.rk_meta.specs.declared.want.Want.TheVariants.{Tail, Block}
use Rattle.rk_table.specs.declared.status.Status.{Status}
use Rattle.rk_table.specs.declared.stage.Stage.{Stage}
use Rattle.rk_table.specs.declared.stage.Stage.TheVariants as stage
use Rattle.rk_table.specs.Told.{found, known}
use Rattle.rk_table.specs.Stages.{left_of}
use Rattle.rk_table.specs.Steps.{want_at, steps_left}

-- the length of a file, and how far the reading of its table has come
pub record RunSeen : Type 0 where
  pub length : ℕ
  pub stage : Stage

-- nothing was handed in yet
abbrev pub begun : ℕ → RunSeen
begun len = record { length = len; stage = stage.Tail }

-- what a run wants next
abbrev pub want_of : RunSeen → Want
want_of run = want_at run.length run.stage

-- how much a run has left, which each hand-in lowers
abbrev pub left : RunSeen → ℕ
left run = steps_left run.stage

-- A run follows a list of bytes: it is for one of this length, and what is left to find out is the status.
pub record Follows (run : RunSeen) (table : List ℕ) : Type 0 where
  pub same : length table ≡ run.length
  pub status : known (table_status table) ≡ left_of run.stage table

-- the status is that of these bytes
abbrev pub IsStatus : Status → List ℕ → Type 0
IsStatus status table = found status ≡ known (table_status table)

-- the last bytes are wanted, and these are no more than that
abbrev pub AsksTail : Want → ℕ → Type 0
AsksTail (Tail most) len = len ≤ most
AsksTail _ len = ⊥

-- a block is wanted
abbrev pub AsksBlock : Want → Type 0
AsksBlock (Block handle end sum) = Unit {0}
AsksBlock _ = ⊥

-- what is handed in is the end of the bytes, as it is wanted
abbrev pub HandsTail : List ℕ → Want → List ℕ → Type 0
HandsTail table (Tail most) bytes = drop (length table - most) table ≡ bytes
HandsTail table _ bytes = ⊥

-- the fault of a wanted block
abbrev pub fault_at : Want → TrailerFault → Option TableFault
fault_at (Block handle end sum) fault = Some (trailer_status handle.offset fault)
fault_at _ fault = None

-- a footer that was read in the last bytes, of which so many precede these
abbrev pub moved : ℕ → Result Footer FooterFault → Result Footer FooterFault
moved before (Ok footer) = Ok (record footer { start = before + footer.start })
moved before (Err fault) = Err fault
