-- What contracts see of a directory that is opened as far as whole tables go, step by step.
use Rattle.std.specs.Prelude.{ℕ, List, [], ◌∷◌, filter, filter_map, if◌then◌else◌, Option, Some, None, ok_or, Result, Ok}
use Rattle.std.specs.List.{last_or}
use Rattle.rk_bytes.specs.declared.model.manifest.FamilyState.{FamilyState}
use Rattle.rk_bytes.specs.declared.model.manifest.FileMeta.{FileMeta}
use Rattle.rk_bytes.specs.declared.model.open.OpenErr.{OpenErr}
use Rattle.rk_bytes.specs.declared.model.open.OpenErr.TheVariants.{NoUsableManifest}
use Rattle.rk_bytes.specs.declared.model.view.Point.{Point}
use Rattle.rk_bytes.specs.Model.Numbers.{◌>>=◌}
use Rattle.rk_bytes.specs.Model.FileNames.{name_of}
use Rattle.rk_bytes.specs.Model.Manifest.{ManifestUnit}
use Rattle.rk_bytes.specs.Model.Opening as opening
use Rattle.rk_bytes.specs.Model.Opening.{Files, in_order}
use Rattle.rk_bytes.specs.Model.BestEfforts.{files_at, all_pass, best_points, is_whole_in, usable_units, are_complete, number_of_manifest, best_with}
use Rattle.rk_open.specs.declared.best.Best.{Best}

-- what was opened, as the definition has it
abbrev pub best_of : Best → opening.Best
best_of best = record { state = best.state.state; manifest = best.manifest; units = best.units; points = best.points }

-- the numbers of the manifests among names, rising
abbrev pub manifests_among : List (List ℕ) → List ℕ
manifests_among names = in_order (λ number. number) (filter_map (λ name. number_of_manifest (name_of name)) names)

-- the family with these files
abbrev pub with_files : FamilyState → List FileMeta → FamilyState
with_files live files = record { id = live.id; name = live.name; log = live.log; files = files }

-- the family with the files that it has at the point
abbrev pub placed_at : List ManifestUnit → FamilyState → Point → FamilyState
placed_at units live point = with_files live (files_at units point.family point.at)

-- each of the families with the files that it has at its point
abbrev pub placed : List ManifestUnit → List FamilyState → List Point → List FamilyState
placed units (live ∷ families) (point ∷ points) = placed_at units live point ∷ placed units families points
placed units _ _ = []

-- what the manifest with this number is opened to, if these are its units
abbrev pub best_from : Files → ℕ → List ManifestUnit → Result opening.Best OpenErr
best_from files number units = best_with files number units (best_points units (all_pass (is_whole_in files) units))

-- the same, where the units are complete
abbrev pub best_if : Files → ℕ → List ManifestUnit → Result (Option opening.Best) OpenErr
best_if files number units = if are_complete units then (best_from files number units >>= λ best. Ok (Some best)) else Ok None

-- what the last of the manifests with these numbers is opened to whose units are complete
abbrev pub best_of_last : Files → List ℕ → Result opening.Best OpenErr
best_of_last files numbers =
    ok_or (last_or None (filter (λ number. are_complete (usable_units files number)) numbers)) NoUsableManifest >>= λ number. best_from files number (usable_units files number)
