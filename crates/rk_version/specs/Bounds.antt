-- What holds of each version that units amount to: families, files and tracked logs stand in rising number,
-- and the bounds of files are internal keys.
use Rattle.std.specs.Prelude.{◌≤◌, length}
use Rattle.std.specs.List.{AllByRecursion}
use Rattle.rk_bytes.specs.declared.model.manifest.FileMeta.{FileMeta}
use Rattle.rk_bytes.specs.declared.model.manifest.FamilyState.{FamilyState}
use Rattle.rk_bytes.specs.declared.model.manifest.Version.{Version}
use Rattle.rk_version.specs.Places.{Rises}

-- the file's bounds are long enough for internal keys
abbrev pub HasWholeBounds : FileMeta → Type 0
HasWholeBounds file = (8 ≤ length file.smallest) × (8 ≤ length file.largest)

-- the files of a family
pub record HasFilesInOrder (live : FamilyState) : Type 0 where
  pub rise : Rises (λ file. file.number) live.files
  pub bounds : AllByRecursion HasWholeBounds live.files

-- all of a version
pub record IsInOrder (version : Version) : Type 0 where
  pub ids : Rises (λ live. live.id) version.families
  pub files : AllByRecursion HasFilesInOrder version.families
  pub logs : Rises (λ tracked. tracked.log) version.wals
