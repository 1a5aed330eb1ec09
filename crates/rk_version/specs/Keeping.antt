-- What is kept of a version before an edit is applied to it.
use Rattle.std.specs.Prelude.{◌≡◌, ℕ, Bool, true, false, ◌++◌, List, [], ◌∷◌, filter, filter_map, find, max, nat_lt, Option, Some, None}
use Rattle.std.specs.List.{list_any}
use Rattle.rk_bytes.specs.declared.model.manifest.FamilyState.{FamilyState}
use Rattle.rk_bytes.specs.declared.model.manifest.Version.{Version}
use Rattle.rk_bytes.specs.Model.VersionEdit.{Field, delete_file, add_file, wal_add, wal_delete, drops_family}
use Rattle.rk_bytes.specs.Model.Manifest.{edit_family, has_id}
use Rattle.rk_version.specs.declared.kept.KeptEdit.{KeptEdit}
use Rattle.rk_version.specs.declared.kept.KeptFamily.{KeptFamily}
use Rattle.rk_version.specs.declared.kept.KeptFamily.TheVariants.{Missing, Dropped, Changed}
use Rattle.rk_version.specs.declared.kept.KeptFiles.{KeptFiles}
use Rattle.rk_version.specs.Keyed.{found_all}

-- the number of the file that a field deletes or adds
abbrev pub touched_in : Field → Option ℕ
touched_in (delete_file level number) = Some number
touched_in (add_file file) = Some file.number
touched_in _ = None

-- the log that a field tracks
abbrev pub tracked_in : Field → Option ℕ
tracked_in (wal_add log synced) = Some log
tracked_in _ = None

-- the least number of a log that the fields don't forget
abbrev pub least_kept : List Field → ℕ
least_kept [] = 0
least_kept (wal_delete log ∷ edit) = max log (least_kept edit)
least_kept (_ ∷ edit) = least_kept edit

-- what is kept of a family that stays
pub record KeepsFiles (kept : KeptFiles) (live : FamilyState) (edit : List Field) : Type 0 where
  pub log : kept.log ≡ live.log
  pub numbers : kept.numbers ≡ filter_map touched_in edit
  pub files : kept.files ≡ found_all (λ file. file.number) live.files kept.numbers

-- what is kept of the edit's family, where it is live and whether the edit drops it
abbrev pub KeepsFamily : KeptFamily → Option FamilyState → Bool → List Field → Type 0
KeepsFamily Missing found drops edit = found ≡ None
KeepsFamily (Dropped live) found drops edit = (found ≡ Some live) × (drops ≡ true)
KeepsFamily (Changed kept) found drops edit = (live : FamilyState) × (found ≡ Some live) × (drops ≡ false) × KeepsFiles kept live edit

-- what is kept of all that the edit changes
pub record Keeps (kept : KeptEdit) (version : Version) (edit : List Field) : Type 0 where
  pub id : kept.id ≡ edit_family edit
  pub family : KeepsFamily kept.family (find (has_id kept.id) version.families) (list_any drops_family edit) edit
  pub log_seen : kept.log_seen ≡ version.log_seen
  pub next_file : kept.next_file ≡ version.next_file
  pub last_sequence : kept.last_sequence ≡ version.last_sequence
  pub least_log : kept.least_log ≡ version.least_log
  pub greatest_family : kept.greatest_family ≡ version.greatest_family
  pub tracks : kept.tracks ≡ filter_map tracked_in edit
  pub wals : kept.wals ≡ filter (λ tracked. nat_lt tracked.log (least_kept edit)) version.wals ++ found_all (λ tracked. tracked.log) version.wals kept.tracks
