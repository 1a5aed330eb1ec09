-- What an edit says of its family.
use Rattle.std.specs.Prelude.{◌≡◌, true, ◌||◌, List, filter_map, Some}
use Rattle.std.specs.List.{list_any, last_or}
use Rattle.rk_bytes.specs.Model.VersionEdit.{Field, family_in, drops_family}
use Rattle.rk_bytes.specs.Model.Manifest.{stated}
use Rattle.rk_edit.specs.declared.fields.Field.{Field as LentField}
use Rattle.rk_edit.specs.declared.fields.Field.TheVariants.{Family, FamilyDrop}
use Rattle.rk_points.specs.declared.aim.Aim.{Aim}

-- what is known of an edit, with one more of its fields
abbrev pub with_field : Aim → LentField → Aim
with_field aim (Family id) = record aim { family = Some id }
with_field aim FamilyDrop = record aim { drops = true }
with_field aim _ = aim

-- what is known, and the fields that are left, make what the edit says
pub record Continues (aim : Aim) (left edit : List Field) : Type 0 where
  pub family : last_or aim.family (filter_map family_in left) ≡ stated family_in edit
  pub drops : (aim.drops || list_any drops_family left) ≡ list_any drops_family edit

-- what all fields say
pub record Aims (aim : Aim) (edit : List Field) : Type 0 where
  pub family : aim.family ≡ stated family_in edit
  pub drops : aim.drops ≡ list_any drops_family edit
