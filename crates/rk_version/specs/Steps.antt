-- The steps of an edit, by what is known of its fields.
use Rattle.std.specs.Prelude.{ℕ, ◌||◌, List, if◌then◌else◌, Option, Some, None, Result, Ok, Err}
use Rattle.std.specs.List.{list_any}
use Rattle.rk_bytes.specs.declared.model.manifest.ApplyFault.{ApplyFault}
use Rattle.rk_bytes.specs.declared.model.manifest.ApplyFault.TheVariants.{FamilyExists, UnknownFamily}
use Rattle.rk_bytes.specs.declared.model.manifest.Version.{Version}
use Rattle.rk_bytes.specs.Model.Manifest.{has_id, has_name, with_families, add_family}

-- the version with the family that an edit speaks of, which may be added under a name
abbrev pub known_with : ℕ → Option (List ℕ) → Version → Result Version ApplyFault
known_with id told version = elim told [
  | Some name ↦
      if list_any (has_id id) version.families || list_any (has_name name) version.families then Err (FamilyExists id)
      else Ok (with_families (add_family id name) version)
  | None ↦ if list_any (has_id id) version.families then Ok version else Err (UnknownFamily id)
]
