-- How far a walk over the units of a manifest is.
use Rattle.std.specs.Prelude.{◌≡◌, ℕ, ◌≤◌, ◌<◌, Bool, List, ◌++◌, length, map, flat_map, Ok}
use Rattle.rk_bytes.specs.declared.model.manifest.FileMeta.{FileMeta}
use Rattle.rk_bytes.specs.declared.model.manifest.FamilyState.{FamilyState}
use Rattle.rk_bytes.specs.declared.model.manifest.Version.{Version}
use Rattle.rk_bytes.specs.Model.VersionEdit.{Field}
use Rattle.rk_bytes.specs.Model.Manifest.{ManifestUnit, steps_in_order, edit_step}
use Rattle.rk_bytes.specs.Model.BestEfforts.{families_at, added_by, added_files, answers_pass}
use Rattle.rk_version.specs.Places.{Rises}
use Rattle.rk_points.specs.declared.tally.Tally.{Tally}
use Rattle.rk_points.specs.declared.walk.Walk.{Walk}
use Rattle.rk_points.specs.Courses.{is_live_in, is_whole_in}
use Rattle.rk_points.specs.Tallies.{Asked, Marks, lives, none_broken, tally_of, turns_of}

-- The tally of a family tells what it was at fewer units than these, and what it is among these families, where
-- these files were asked for.
pub record Tallied (units : List ManifestUnit) (answers : List Bool) (at : ℕ) (families : List FamilyState) (asked : Asked) (id : ℕ) (tally : Tally) : Type 0 where
  pub rising : Rises (λ turn. turn.at) (turns_of tally)
  pub within : tally.now.at ≤ at
  pub was_live : (point : ℕ) → point < at → is_live_in (turns_of tally) point ≡ lives id (families_at units point)
  pub was_whole : (point : ℕ) → point < at → is_whole_in (turns_of tally) point ≡ answers_pass answers units id point
  pub live : tally.now.live ≡ lives id families
  pub whole : tally.now.whole ≡ none_broken tally.broken
  pub marks : Marks asked families id tally.broken

-- The walk is at these families, and these files are still to be asked for.
pub record Kept (units : List ManifestUnit) (answers : List Bool) (at : ℕ) (families : List FamilyState) (coming : List (FileMeta × Bool)) (walk : Walk) : Type 0 where
  pub asked : Asked
  pub ids : Rises (λ live. live.id) families
  pub files : map (λ one. one.0) asked ++ coming ≡ added_files units
  pub left : map (λ one. one.1) asked ++ walk.left.now ≡ answers
  pub each : (id : ℕ) → Tallied units answers at families asked id (tally_of id walk.tallies)

-- The walk is at a version from which these edits lead to the last one.
pub record Reached (units : List ManifestUnit) (answers : List Bool) (at : ℕ) (last : Version) (coming : List (FileMeta × Bool)) (edits : List (List Field)) (walk : Walk) : Type 0 where
  pub version : Version
  pub leads : steps_in_order edit_step edits version ≡ Ok last
  pub kept : Kept units answers at version.families (flat_map added_by edits ++ coming) walk

-- A walk over edits, of which these are left.
abbrev pub Reaches : ℕ → List (List Field) → Walk → List (List Field) → Walk → Type 0
Reaches at edits old left new =
    (units : List ManifestUnit) (answers : List Bool) (last : Version) (coming : List (FileMeta × Bool)) → length answers ≡ length (added_files units)
    → Reached units answers at last coming edits old → Reached units answers at last coming left new
