-- The first edits of a group, and what an edit after them may state.
use Rattle.std.specs.Prelude.{◌≡◌, ℕ, ◌+◌, ◌-◌, ◌<◌, Bool, true, ◌||◌, ◌==◌, nat_eq, if◌then◌else◌, List, [], length, map, Option, Some, Result, Ok, Err}
use Rattle.std.specs.Option.{option_eq}
use Rattle.rk_bytes.specs.declared.model.edit.EditFault.{EditFault}
use Rattle.rk_bytes.specs.declared.model.manifest.EditWhy.TheVariants.{Read}
use Rattle.rk_bytes.specs.declared.model.manifest.ManifestFault.{ManifestFault}
use Rattle.rk_bytes.specs.declared.model.manifest.ManifestFault.TheVariants.{BadEdit, BadGroup}
use Rattle.rk_bytes.specs.Model.Numbers.{◌>>=◌}
use Rattle.rk_bytes.specs.Model.VersionEdit.{Field, group_in, edit_fields}
use Rattle.rk_bytes.specs.Model.Manifest.{stated, falls}
use Rattle.rk_log.specs.declared.item.Piece.{Piece}
use Rattle.rk_log.specs.Items.{piece_bytes}
use Rattle.rk_edit.specs.Read.{fields_or_none}

-- what an edit of these bytes states of its group, or how it doesn't read
abbrev pub stated_in : List ℕ → Result (Option ℕ) EditFault
stated_in bytes = do
  edit ← edit_fields bytes
  Ok (stated group_in edit)

-- the edits that these records are
abbrev pub edits_in : List Piece → List (List Field)
edits_in pieces = map (λ piece. fields_or_none (edit_fields (piece_bytes piece))) pieces

-- The edits are none, or the first ones of a group of which so many more come.
pub record IsFront (left : ℕ) (edits : List (List Field)) : Type 0 where
  pub falling : falls (length edits + left - 1) edits ≡ true
  pub none : left ≡ 0 → edits ≡ []
  pub some : 0 < left → 0 < length edits

-- the same of records, which all read as edits
pub record IsFrontOf (left : ℕ) (pieces : List Piece) : Type 0 where
  pub read : map (λ piece. edit_fields (piece_bytes piece)) pieces ≡ map Ok (edits_in pieces)
  pub front : IsFront left (edits_in pieces)

-- Where so many more come of a group, or none has begun, an edit that states this may come next.
abbrev pub admits : ℕ → Option ℕ → Bool
admits left told = left == 0 || option_eq nat_eq told (Some (left - 1))

-- what the next edit states, or its fault in the unit with this number
abbrev pub joined : ℕ → ℕ → List ℕ → Result (Option ℕ) ManifestFault
joined left unit bytes = elim (stated_in bytes) [
  | Err why ↦ Err (BadEdit unit (Read why))
  | Ok told ↦ (if admits left told then Ok told else Err (BadGroup unit))
]
