-- The version to which what was kept of edits leads back.
use Rattle.std.specs.Prelude.{ℕ, List, [], ◌∷◌, map, if◌then◌else◌}
use Rattle.rk_bytes.specs.declared.model.manifest.FamilyState.{FamilyState}
use Rattle.rk_bytes.specs.declared.model.manifest.Version.{Version}
use Rattle.rk_bytes.specs.Model.Manifest.{has_id, drop_family}
use Rattle.rk_version.specs.declared.kept.KeptEdit.{KeptEdit}
use Rattle.rk_version.specs.declared.kept.KeptFamily.{KeptFamily}
use Rattle.rk_version.specs.declared.kept.KeptFamily.TheVariants.{Missing, Dropped, Changed}
use Rattle.rk_version.specs.declared.kept.KeptFiles.{KeptFiles}
use Rattle.rk_version.specs.Keyed.{put, put_all, without_all}

-- A family before the edit: its files are those that the edit left alone, and those that are kept.
abbrev pub family_before : KeptFiles → FamilyState → FamilyState
family_before kept live = record live {
  log = kept.log;
  files = put_all (λ file. file.number) kept.files (without_all (λ file. file.number) kept.numbers live.files);
}

-- The families before the edit: the one that it spoke of wasn't live, or is the one that is kept, or had these
-- files.
abbrev pub families_before : ℕ → KeptFamily → List FamilyState → List FamilyState
families_before id Missing families = drop_family id families
families_before id (Dropped live) families = put (λ live. live.id) live families
families_before id (Changed kept) families = map (λ live. if has_id id live then family_before kept live else live) families

-- the version with its numbers and tracked logs before the edit
abbrev pub numbers_before : KeptEdit → Version → Version
numbers_before kept version = record {
  families = version.families;
  log_seen = kept.log_seen;
  next_file = kept.next_file;
  last_sequence = kept.last_sequence;
  least_log = kept.least_log;
  greatest_family = kept.greatest_family;
  wals = put_all (λ tracked. tracked.log) kept.wals (without_all (λ tracked. tracked.log) kept.tracks version.wals);
}

-- the version before the edit
abbrev pub before_edit : KeptEdit → Version → Version
before_edit kept version = numbers_before kept (record version { families = families_before kept.id kept.family version.families })

-- the version before edits, of which the last one is taken back first
abbrev pub before_edits : List KeptEdit → Version → Version
before_edits [] version = version
before_edits (kept ∷ more) version = before_edit kept (before_edits more version)
