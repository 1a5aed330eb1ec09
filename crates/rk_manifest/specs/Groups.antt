-- The units that lie ahead, behind the first edits of a group, and what taking an edit makes of them.
use Rattle.std.specs.Prelude.{◌≡◌, ℕ, ◌+◌, List, ◌∷◌, ◌++◌, length, Option, Some, None, Result, Ok, Err}
use Rattle.rk_bytes.specs.declared.memory.Memory.{Memory}
use Rattle.rk_bytes.specs.Model.LogItems.{Item, rec}
use Rattle.rk_bytes.specs.Model.VersionEdit.{Field}
use Rattle.rk_bytes.specs.Model.Manifest.{ManifestUnit, UnitsEnd, with_unit, parted_units, edits_of}
use Rattle.rk_version.specs.declared.unit.Unit.{Unit as LentUnit}
use Rattle.rk_version.specs.Units.{IsUnit}

-- the units of these edits and of those of the items behind them, and what ends them
abbrev pub units_ahead : List (List Field) → List Item → List ManifestUnit × UnitsEnd
units_ahead begun items =
    let read = edits_of items in
    parted_units read.ended (length begun + length read.edits) (begun ++ read.edits)

-- An edit is taken: it ends a unit, or it goes on with a group, or memory ran out.
abbrev pub TakesEdit : List (List Field) → List ℕ → Result (Option LentUnit) Memory → List (List Field) → Type 0
TakesEdit old bytes (Ok (Some unit)) new =
    (means : ManifestUnit) × IsUnit unit means × ((place : ℕ) (items : List Item) → units_ahead old (rec bytes place ∷ items) ≡ with_unit means (units_ahead new items))
TakesEdit old bytes (Ok None) new = (place : ℕ) (items : List Item) → units_ahead old (rec bytes place ∷ items) ≡ units_ahead new items
TakesEdit old bytes (Err memory) new = new ≡ old
