-- What answers of this crate say of a table.
use Rattle.std.specs.Prelude.{◌≡◌, ℕ, List, Option, Some, None, Result, Ok, Err}
use Rattle.std.specs.Borrow.{Bor}
use Rattle.rk_bytes.specs.declared.model.table.TableRef.{TableRef}
use Rattle.rk_bytes.specs.Model.TableStatus.{TableFault, damaged, unsupported, Good}
use Rattle.rk_table.specs.declared.status.Status.{Status}
use Rattle.rk_table.specs.declared.status.Status.TheVariants as status
use Rattle.rk_table.specs.declared.status.WalkErr.{WalkErr}
use Rattle.rk_table.specs.declared.status.WalkErr.TheVariants as err

-- what is known of a table with this status, or its fault
abbrev pub found : Status → Result TableRef TableFault
found (status.Good table) = Ok table
found (status.Damaged why place) = Err (damaged why place)
found (status.Unsupported what) = Err (unsupported what)

-- what is known of a good table
abbrev pub known : Result Good TableFault → Result TableRef TableFault
known (Ok good) = Ok good.table
known (Err fault) = Err fault

-- the fault, where it isn't want of memory
abbrev pub fault_of : WalkErr → Option TableFault
fault_of (err.Damaged why place) = Some (damaged why place)
fault_of (err.Unsupported what) = Some (unsupported what)
fault_of err.Memory = None

-- An answer is what a definition gives. Of want of memory nothing is said.
abbrev pub Tells : {A : Type 0} → Result A WalkErr → Result A TableFault → Type 0
Tells (Ok x) told = told ≡ Ok x
Tells (Err (err.Damaged why place)) told = told ≡ Err (damaged why place)
Tells (Err (err.Unsupported what)) told = told ≡ Err (unsupported what)
Tells (Err err.Memory) told = Unit {0}

-- the bytes of a value, where there is one
abbrev pub value_of : Option (Bor (List ℕ)) → Option (List ℕ)
value_of (Some value) = Some value.now
value_of None = None
