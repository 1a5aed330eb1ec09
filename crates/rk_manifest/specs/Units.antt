-- What contracts see of the units of a manifest.
use Rattle.std.specs.Prelude.{◌≡◌}
use Rattle.std.specs.List.{All, AllZip}
use Rattle.std.specs.Result.{IsOk}
use Rattle.rk_bytes.specs.Model.VersionEdit.{edit_fields}
use Rattle.rk_bytes.specs.Model.Manifest.{Units as StatedUnits}
use Rattle.rk_log.specs.Items.{piece_bytes}
use Rattle.rk_version.specs.declared.unit.Unit.{Unit as LentUnit}
use Rattle.rk_version.specs.Units.{IsUnit}
use Rattle.rk_manifest.specs.declared.units.Units.{Units}

-- unit by unit, these stand for those, with the same fault
pub record AreUnits (read : Units) (means : StatedUnits) : Type 0 where
  pub units : AllZip IsUnit read.units means.units
  pub fault : read.fault ≡ means.fault

-- each piece of the unit reads as an edit
abbrev pub ReadsWhole : LentUnit → Type 0
ReadsWhole unit = All (λ piece. IsOk (edit_fields (piece_bytes piece))) unit.pieces
