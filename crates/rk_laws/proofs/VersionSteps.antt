-- Steps of a version, by their parts.
use Rattle.std.proofs.Common.{◌≡◌, ℕ, ◌||◌, cond, List, Option, Some, None, Result, Ok, Err}
use Rattle.std.specs.List.{list_any}
use Rattle.rk_bytes.specs.declared.model.manifest.ApplyFault.{ApplyFault}
use Rattle.rk_bytes.specs.declared.model.manifest.ApplyFault.TheVariants.{FamilyExists, UnknownFamily}
use Rattle.rk_bytes.specs.declared.model.manifest.Version.{Version}
use Rattle.rk_bytes.specs.Model.Manifest.{has_id, has_name, with_families, add_family, in_unit}

-- the version with the family that an edit speaks of, by whether it adds one
abbrev pub known_with : ℕ → Version → Option (List ℕ) → Result Version ApplyFault
known_with id version told = elim told [
  | Some name ↦ cond (list_any (has_id id) version.families || list_any (has_name name) version.families) (Err (FamilyExists id)) (Ok (with_families (add_family id name) version))
  | None ↦ cond (list_any (has_id id) version.families) (Ok version) (Err (UnknownFamily id))
]

-- the version, unless files overlap
abbrev pub unless_found : Option ApplyFault → Version → Result Version ApplyFault
unless_found found version = elim found [ Some why ↦ Err why | None ↦ Ok version ]

pub no_overlap : (found : Option ApplyFault) (version next : Version) → unless_found found version ≡ Ok next → version ≡ next
no_overlap (Some why) version next e = absurd cc
no_overlap None version next e = cc

pub in_unit_ok : (number : ℕ) (r : Result Version ApplyFault) (next : Version) → in_unit number r ≡ Ok next → r ≡ Ok next
in_unit_ok number (Ok version) next e = cc
in_unit_ok number (Err why) next e = absurd cc
