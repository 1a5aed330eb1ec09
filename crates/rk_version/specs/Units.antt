-- What a unit that is handed in means.
use Rattle.std.specs.Prelude.{◌≡◌, List, map, Ok}
use Rattle.std.specs.List.{AllZip}
use Rattle.rk_log.specs.Items.{piece_bytes}
use Rattle.rk_log.specs.declared.item.Piece.{Piece}
use Rattle.rk_edit.specs.Read.{fields_or_none}
use Rattle.rk_bytes.specs.Model.VersionEdit.{Field, edit_fields}
use Rattle.rk_bytes.specs.Model.Manifest.{ManifestUnit}
use Rattle.rk_version.specs.declared.unit.Unit.{Unit as LentUnit}

-- its pieces are the bytes of the unit's edits, one by one
pub record IsUnit (unit : LentUnit) (means : ManifestUnit) : Type 0 where
  pub group : unit.group ≡ means.is_group
  pub edits : AllZip (λ piece edit. edit_fields (piece_bytes piece) ≡ Ok edit) unit.pieces means.edits

-- the edits that pieces read as
abbrev pub edits_of : List Piece → List (List Field)
edits_of pieces = map (λ piece. fields_or_none (edit_fields (piece_bytes piece))) pieces

-- the unit that is handed in
abbrev pub meaning : LentUnit → ManifestUnit
meaning unit = record { edits = edits_of unit.pieces; is_group = unit.group }
