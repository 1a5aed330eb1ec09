-- What a manifest comes to, while its units are applied as it is read.
use Rattle.std.specs.Prelude.{◌≡◌, List, ◌∷◌, Result, Ok, Err}
use Rattle.rk_bytes.specs.declared.memory.Memory.{Memory}
use Rattle.rk_bytes.specs.declared.model.manifest.ManifestFault.{ManifestFault}
use Rattle.rk_bytes.specs.declared.model.manifest.Version.{Version}
use Rattle.rk_bytes.specs.Model.LogItems.{Item}
use Rattle.rk_manifest.specs.declared.reading.Reading.{Reading}
use Rattle.rk_manifest.specs.declared.reading.Reading.TheVariants.{GoesOn, Ended}
use Rattle.rk_manifest.specs.declared.progress.Progress.{Progress}
use Rattle.rk_manifest.specs.Fronts.{edits_in}
use Rattle.rk_manifest.specs.Groups.{units_ahead}
use Rattle.rk_manifest.specs.Last.{ended_with, last_of}

-- the last version, where these items follow
abbrev pub last_with : Progress → List Item → Result Version ManifestFault
last_with progress items = last_of progress.applied (units_ahead (edits_in progress.begun.edits) items)

-- the last version, by what was read and where these items follow, unless reading has ended
abbrev pub outcome : Reading → Progress → List Item → Result Version ManifestFault
outcome GoesOn progress items = last_with progress items
outcome (Ended fault) progress items = ended_with fault progress.applied.builder

-- An item is taken, or memory ran out.
abbrev pub TakesItem : Progress → Item → Result Reading Memory → Progress → Type 0
TakesItem old item (Ok reading) new = (items : List Item) → last_with old (item ∷ items) ≡ outcome reading new items
TakesItem old item (Err memory) new = Unit {0}
