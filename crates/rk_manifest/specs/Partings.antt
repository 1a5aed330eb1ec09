-- How far a manifest's items are parted into units.
use Rattle.std.specs.Prelude.{◌≡◌, List, ◌∷◌, ◌++◌, Result, Ok, Err}
use Rattle.std.specs.List.{AllZip}
use Rattle.rk_bytes.specs.declared.memory.Memory.{Memory}
use Rattle.rk_bytes.specs.Model.LogItems.{Item}
use Rattle.rk_bytes.specs.Model.Manifest.{ManifestUnit, Units as StatedUnits, units_with}
use Rattle.rk_manifest.specs.declared.reading.Reading.{Reading}
use Rattle.rk_manifest.specs.declared.reading.Reading.TheVariants.{GoesOn, Ended}
use Rattle.rk_manifest.specs.declared.units.Parting.{Parting}
use Rattle.rk_manifest.specs.Fronts.{edits_in}
use Rattle.rk_manifest.specs.Groups.{units_ahead}
use Rattle.rk_version.specs.Units.{IsUnit}
use Rattle.rk_manifest.specs.Units.{AreUnits}

-- These are all units of a manifest of which these items are left.
pub record PartsInto (parting : Parting) (items : List Item) (all : StatedUnits) : Type 0 where
  pub done : List ManifestUnit
  pub are : AllZip IsUnit parting.units done
  pub whole : let ahead = units_ahead (edits_in parting.begun.edits) items in all ≡ units_with (done ++ ahead.0, ahead.1)

-- an item is taken
abbrev pub Parts : Parting → Item → Result Reading Memory → Parting → Type 0
Parts old item (Ok GoesOn) new = (items : List Item) (all : StatedUnits) → PartsInto old (item ∷ items) all → PartsInto new items all
Parts old item (Ok (Ended fault)) new = (items : List Item) (all : StatedUnits) → PartsInto old (item ∷ items) all → AreUnits (record { units = new.units; fault = fault }) all
Parts old item (Err memory) new = Unit {0}
