-- What is kept of the fields before.
use Rattle.std.specs.Prelude.{◌≡◌, List, is_some}
use Rattle.std.specs.List.{list_any}
use Rattle.rk_bytes.specs.Model.VersionEdit.{Field, family_add_in, drops_family}
use Rattle.rk_edit.specs.declared.before.FamilyFields.{FamilyFields}

-- whether these fields add a family, and whether they drop one
pub record Tells (kept : FamilyFields) (before : List Field) : Type 0 where
  pub adds : kept.added ≡ list_any (λ field. is_some (family_add_in field)) before
  pub drops : kept.dropped ≡ list_any drops_family before
