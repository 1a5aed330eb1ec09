-- The steps of an edit keep a version in order.
use Rattle.std.proofs.Common.{◌≡◌, ℕ, Bool, true, false, not, cond, List, [], ◌∷◌, map, filter, refl, sym, subst}
use Rattle.std.specs.Prelude.{nat_lt, nat_le}
use Rattle.std.specs.List.{AllByRecursion}
use Rattle.rk_bytes.specs.declared.model.manifest.FileMeta.{FileMeta}
use Rattle.rk_bytes.specs.declared.model.manifest.FamilyState.{FamilyState}
use Rattle.rk_bytes.specs.declared.model.manifest.Tracked.{Tracked}
use Rattle.rk_bytes.specs.declared.model.manifest.Version.{Version}
use Rattle.rk_bytes.specs.Model.VersionEdit.{Field, comparator, log_number, next_file, last_sequence, compact_cursor, delete_file, add_file, previous_log, least_log, family, family_add, family_drop, greatest_family, group, wal_add, wal_delete, ignored}
use Rattle.rk_bytes.specs.Model.Manifest.{has_id, has_number, add_family, drop_family, add_meta, track_field, tracked_after}
use Rattle.rk_version.specs.Places.{Rises}
use Rattle.rk_version.specs.Bounds.{HasWholeBounds, HasFilesInOrder, IsInOrder}
use Rattle.rk_version.proofs.Each.{each_append, each_filter, each_map}
use Rattle.rk_version.proofs.Rising.{rises_filter, rises_with, rises_map}

-- the families of a version in order
pub record AreInOrder (families : List FamilyState) : Type 0 where
  pub ids : Rises (λ live. live.id) families
  pub files : AllByRecursion HasFilesInOrder families

pub order_family_added : (id : ℕ) (name : List ℕ) (families : List FamilyState) → AreInOrder families → AreInOrder (add_family id name families)
order_family_added id name families o =
    let new : FamilyState = record { id = id; name = name; log = 0; files = [] } in
    record {
      ids = rises_with (λ live. live.id) new families o.ids;
      files = each_append HasFilesInOrder (filter (λ live. nat_lt live.id id) families) (new ∷ filter (λ live. nat_lt id live.id) families)
          (each_filter HasFilesInOrder (λ live. nat_lt live.id id) families o.files)
          (record { rise = tt; bounds = tt }, each_filter HasFilesInOrder (λ live. nat_lt id live.id) families o.files);
    }

pub order_family_dropped : (id : ℕ) (families : List FamilyState) → AreInOrder families → AreInOrder (drop_family id families)
order_family_dropped id families o =
    record { ids = rises_filter (λ live. live.id) (λ live. not (has_id id live)) families o.ids; files = each_filter HasFilesInOrder (λ live. not (has_id id live)) families o.files }

pub order_changed : (id : ℕ) (change : FamilyState → FamilyState) (families : List FamilyState) → ((live : FamilyState) → (change live).id ≡ live.id) → ((live : FamilyState) → HasFilesInOrder live → HasFilesInOrder (change live))
    → AreInOrder families → AreInOrder (map (λ live. cond (has_id id live) (change live) live) families)
order_changed id change families same_id so o = record {
  ids = rises_map (λ live. live.id) (λ live. live.id) (λ live. cond (has_id id live) (change live) live) families (λ live. keeps live (has_id id live)) o.ids;
  files = each_map HasFilesInOrder HasFilesInOrder (λ live. cond (has_id id live) (change live) live) families (λ live rise. one live (has_id id live) rise) o.files;
}
  where
    keeps : (live : FamilyState) (told : Bool) → (cond told (change live) live).id ≡ live.id
    keeps live true = same_id live
    keeps live false = refl

    one : (live : FamilyState) (told : Bool) → HasFilesInOrder live → HasFilesInOrder (cond told (change live) live)
    one live true rise = so live rise
    one live false rise = rise

pub order_file_deleted : (id number : ℕ) (families : List FamilyState) → AreInOrder families → AreInOrder (map (λ live. cond (has_id id live) (record live { files = filter (λ file. not (has_number number file)) live.files }) live) families)
order_file_deleted id number families o = order_changed id (λ live. record live { files = filter (λ file. not (has_number number file)) live.files }) families (λ live. refl) (λ live files. record {
  rise = rises_filter (λ file. file.number) (λ file. not (has_number number file)) live.files files.rise;
  bounds = each_filter HasWholeBounds (λ file. not (has_number number file)) live.files files.bounds;
}) o

pub order_file_added : (id : ℕ) (new : FileMeta) (families : List FamilyState) → HasWholeBounds new → AreInOrder families → AreInOrder (map (λ live. cond (has_id id live) (record live { files = add_meta new live.files }) live) families)
order_file_added id new families whole o = order_changed id (λ live. record live { files = add_meta new live.files }) families (λ live. refl) (λ live files. record {
  rise = rises_with (λ file. file.number) new live.files files.rise;
  bounds = each_append HasWholeBounds (filter (λ file. nat_lt file.number new.number) live.files) (new ∷ filter (λ file. nat_lt new.number file.number) live.files)
      (each_filter HasWholeBounds (λ file. nat_lt file.number new.number) live.files files.bounds)
      (whole, each_filter HasWholeBounds (λ file. nat_lt new.number file.number) live.files files.bounds);
}) o

pub order_logged : (id : ℕ) (log : ℕ → ℕ) (families : List FamilyState) → AreInOrder families → AreInOrder (map (λ live. cond (has_id id live) (record live { log = log live.log }) live) families)
order_logged id log families o = order_changed id (λ live. record live { log = log live.log }) families (λ live. refl) (λ live files. record { rise = files.rise; bounds = files.bounds }) o

-- the tracked logs
pub order_field : (wals : List Tracked) (field : Field) → Rises (λ tracked. tracked.log) wals → Rises (λ tracked. tracked.log) (track_field wals field)
order_field wals (wal_add log synced) rise = rises_with (λ tracked. tracked.log) _ wals rise
order_field wals (wal_delete log) rise = rises_filter (λ tracked. tracked.log) (λ tracked. nat_le log tracked.log) wals rise
order_field wals (comparator name) rise = rise
order_field wals (log_number n) rise = rise
order_field wals (next_file n) rise = rise
order_field wals (last_sequence n) rise = rise
order_field wals (compact_cursor level key) rise = rise
order_field wals (delete_file level number) rise = rise
order_field wals (add_file file) rise = rise
order_field wals (previous_log n) rise = rise
order_field wals (least_log n) rise = rise
order_field wals (family id) rise = rise
order_field wals (family_add name) rise = rise
order_field wals family_drop rise = rise
order_field wals (greatest_family id) rise = rise
order_field wals (group left) rise = rise
order_field wals (ignored tag value) rise = rise

pub order_tracked : (edit : List Field) (wals : List Tracked) → Rises (λ tracked. tracked.log) wals → Rises (λ tracked. tracked.log) (tracked_after edit wals)
order_tracked [] wals rise = rise
order_tracked (field ∷ edit) wals rise = order_tracked edit (track_field wals field) (order_field wals field rise)

-- a version whose families are changed
pub order_families : (version : Version) (families after : List FamilyState) → (AreInOrder version.families → AreInOrder after) → families ≡ after → IsInOrder version → IsInOrder (record version { families = families })
order_families version families after so is o =
    let changed = subst AreInOrder (sym is) (so (record { ids = o.ids; files = o.files })) in
    record { ids = changed.ids; files = changed.files; logs = o.logs }
