-- The families, files and tracked logs of a version stand in rising order.
use Rattle.std.proofs.Common.{◌≡◌, ℕ, suc, ◌<◌, ◌≤◌, Bool, true, false, not, ◌&&◌, ◌||◌, cond, List, [], ◌∷◌, ◌++◌, map, filter, take, Option, Some, None, Result, Ok, refl, subst, arith}
use Rattle.std.specs.Prelude.{◌==◌, nat_lt, nat_le, filter_map}
use Rattle.std.specs.List.{AllByRecursion, list_any}
use Rattle.std.specs.Ordering.{nat_cmp}
use Rattle.std.specs.declared.cmp.Ordering.TheVariants.{Less}
use Rattle.std.specs.List.Sorted.{IsStrictlySortedBy}
use Rattle.std.proofs.lemmas.Bool.{ltb-true, lt-ltb, cond-true}
use Rattle.rk_bytes.specs.declared.model.manifest.ApplyFault.{ApplyFault}
use Rattle.rk_bytes.specs.declared.model.manifest.ApplyFault.TheVariants.{UnsupportedComparator, FamilyExists, UnknownFamily, DeleteAbsent, AddPresent}
use Rattle.rk_bytes.specs.declared.model.manifest.FileMeta.{FileMeta}
use Rattle.rk_bytes.specs.declared.model.manifest.FamilyState.{FamilyState}
use Rattle.rk_bytes.specs.declared.model.manifest.Tracked.{Tracked}
use Rattle.rk_bytes.specs.declared.model.manifest.Version.{Version}
use Rattle.rk_bytes.specs.Model.Numbers.{◌>>=◌}
use Rattle.rk_bytes.specs.Model.VersionEdit.{Field, NewFile, comparator, log_number, next_file, last_sequence, compact_cursor, delete_file, add_file, previous_log, least_log, family, family_add, family_drop, greatest_family, group, wal_add, wal_delete, ignored, log_number_in, deleted_in, added_in, family_add_in, drops_family}
use Rattle.rk_bytes.specs.Model.Manifest.{ManifestUnit, stated, first_version, steps_in_order, edit_family, has_other_comparator, has_id, has_name, with_families, add_family, drop_family, family_step, has_number, with_files, delete_step, file_meta, add_meta, add_step, file_steps, risen, with_numbers, track_field, tracked_after, edit_step, overlap, unit_step, in_unit, version_after, version_at}
use Rattle.rk_bytes.proofs.Callers.Readings.{both_steps, passed, taken}
use Rattle.rk_laws.proofs.VersionSteps.{known_with, unless_found, no_overlap, in_unit_ok}
use Rattle.rk_laws.proofs.EachElement.{each_so, each_append, each_filter, each_map}

-- things whose numbers rise
abbrev Rises : {A : Type 0} → (A → ℕ) → List A → Type 0
Rises number [] = Unit {0}
Rises number (x ∷ xs) = AllByRecursion (λ y. number x < number y) xs × Rises number xs

rises_filter : {A : Type 0} (number : A → ℕ) (test : A → Bool) (xs : List A) → Rises number xs → Rises number (filter test xs)
rises_filter number test [] rises = tt
rises_filter {A} number test (x ∷ xs) rises = by (test x) (rises_filter number test xs rises.1)
  where
    by : (told : Bool) → Rises number (filter test xs) → Rises number (cond told (x ∷ filter test xs) (filter test xs))
    by true rest = (each_filter (λ y. number x < number y) test xs rises.0, rest)
    by false rest = rest

rises_append : {A : Type 0} (number : A → ℕ) (k : ℕ) (xs ys : List A) → Rises number xs → Rises number ys → AllByRecursion (λ x. number x < k) xs → AllByRecursion (λ y. k ≤ number y) ys → Rises number (xs ++ ys)
rises_append number k [] ys first second below above = second
rises_append number k (x ∷ xs) ys first second below above = (
  each_append (λ y. number x < number y) xs ys first.0 (each_so (λ y. k ≤ number y) (λ y. number x < number y) ys (λ y at. omega (arith, at, below.0)) above),
  rises_append number k xs ys first.1 second below.1 above,
)

kept : {A : Type 0} (test : A → Bool) (P : A → Type 0) (xs : List A) → ((x : A) → test x ≡ true → P x) → AllByRecursion P (filter test xs)
kept test P [] so = tt
kept {A} test P (x ∷ xs) so = by (test x) refl (kept test P xs so)
  where
    by : (told : Bool) → test x ≡ told → AllByRecursion P (filter test xs) → AllByRecursion P (cond told (x ∷ filter test xs) (filter test xs))
    by true told rest = (so x told, rest)
    by false told rest = rest

-- one more thing in its place
rises_with : {A : Type 0} (number : A → ℕ) (new : A) (xs : List A) → Rises number xs → Rises number (filter (λ x. nat_lt (number x) (number new)) xs ++ new ∷ filter (λ x. nat_lt (number new) (number x)) xs)
rises_with {A} number new xs rises =
    let above = kept (λ x. nat_lt (number new) (number x)) (λ x. number new < number x) xs (λ x told. ltb-true (number new) (number x) told) in
    let at_or_above : AllByRecursion (λ x. number new ≤ number x) (filter (λ x. nat_lt (number new) (number x)) xs) = each_so (λ x. number new < number x) (λ x. number new ≤ number x) (filter (λ x. nat_lt (number new) (number x)) xs) (λ x more. omega (arith, more)) above in
    rises_append number (number new) (filter (λ x. nat_lt (number x) (number new)) xs) (new ∷ filter (λ x. nat_lt (number new) (number x)) xs)
    (rises_filter number (λ x. nat_lt (number x) (number new)) xs rises)
    (above, rises_filter number (λ x. nat_lt (number new) (number x)) xs rises)
    (kept (λ x. nat_lt (number x) (number new)) (λ x. number x < number new) xs (λ x told. ltb-true (number x) (number new) told))
    (omega arith, at_or_above)

rises_map : {A B : Type 0} (number : A → ℕ) (other : B → ℕ) (f : A → B) (xs : List A) → ((x : A) → other (f x) ≡ number x) → Rises number xs → Rises other (map f xs)
rises_map number other f [] same rises = tt
rises_map number other f (x ∷ xs) same rises = (
  each_map (λ y. number x < number y) (λ z. other (f x) < other z) f xs (λ y less. omega (arith, less, same x, same y)) rises.0,
  rises_map number other f xs same rises.1,
)

abbrev FilesRise : FamilyState → Type 0
FilesRise live = Rises (λ file. file.number) live.files

-- the families of a version in order
record FamiliesInOrder (families : List FamilyState) : Type 0 where
  ids : Rises (λ live. live.id) families
  files : AllByRecursion FilesRise families

filtered : (test : FamilyState → Bool) (families : List FamilyState) → FamiliesInOrder families → FamiliesInOrder (filter test families)
filtered test families o = record { ids = rises_filter (λ live. live.id) test families o.ids; files = each_filter FilesRise test families o.files }

changed : (id : ℕ) (change : FamilyState → FamilyState) (families : List FamilyState) → ((live : FamilyState) → (change live).id ≡ live.id) → ((live : FamilyState) → FilesRise live → FilesRise (change live))
    → FamiliesInOrder families → FamiliesInOrder (map (λ live. cond (has_id id live) (change live) live) families)
changed id change families same_id so o = record {
  ids = rises_map (λ live. live.id) (λ live. live.id) (λ live. cond (has_id id live) (change live) live) families (λ live. keeps live (has_id id live)) o.ids;
  files = each_map FilesRise FilesRise (λ live. cond (has_id id live) (change live) live) families (λ live rise. one live (has_id id live) rise) o.files;
}
  where
    keeps : (live : FamilyState) (told : Bool) → (cond told (change live) live).id ≡ live.id
    keeps live true = same_id live
    keeps live false = refl

    one : (live : FamilyState) (told : Bool) → FilesRise live → FilesRise (cond told (change live) live)
    one live true rise = so live rise
    one live false rise = rise

-- the version's families and its tracked logs in order
record InOrder (version : Version) : Type 0 where
  families : FamiliesInOrder version.families
  logs : Rises (λ tracked. tracked.log) version.wals

order_known : (id : ℕ) (version known : Version) (told : Option (List ℕ)) → known_with id version told ≡ Ok known → InOrder version → InOrder known
order_known id version known (Some name) e o =
    let (free, e1) = passed (list_any (has_id id) version.families || list_any (has_name name) version.families) (FamilyExists id) (Ok (with_families (add_family id name) version)) known e in
    let same : with_families (add_family id name) version ≡ known = cc in
    let new : FamilyState = record { id = id; name = name; log = 0; files = [] } in
    subst (λ (known : Version). InOrder known) same (record {
      families = record {
        ids = rises_with (λ live. live.id) new version.families o.families.ids;
        files = each_append FilesRise (filter (λ live. nat_lt live.id id) version.families) (new ∷ filter (λ live. nat_lt id live.id) version.families)
            (each_filter FilesRise (λ live. nat_lt live.id id) version.families o.families.files) (tt, each_filter FilesRise (λ live. nat_lt id live.id) version.families o.families.files);
      };
      logs = o.logs;
    })
order_known id version known None e o =
    let (live, same) = taken (list_any (has_id id) version.families) (UnknownFamily id) version known e in
    subst (λ (known : Version). InOrder known) same o

order_dropped : (drops : Bool) (id : ℕ) (version : Version) → InOrder version → InOrder (cond drops (with_families (drop_family id) version) version)
order_dropped true id version o = record { families = filtered (λ live. not (has_id id live)) version.families o.families; logs = o.logs }
order_dropped false id version o = o

order_family : (edit : List Field) (version next : Version) → family_step edit version ≡ Ok next → InOrder version → InOrder next
order_family edit version next e o =
    both_steps (known_with (edit_family edit) version (stated family_add_in edit)) (λ known. Ok (cond (list_any drops_family edit) (with_families (drop_family (edit_family edit)) known) known)) next e λ known known_is e1.
    let same : cond (list_any drops_family edit) (with_families (drop_family (edit_family edit)) known) known ≡ next = cc in
    subst (λ (next : Version). InOrder next) same (order_dropped (list_any drops_family edit) (edit_family edit) known (order_known (edit_family edit) version known (stated family_add_in edit) known_is o))

order_with_files : (id : ℕ) (change : List FileMeta → List FileMeta) (version : Version) → ((files : List FileMeta) → Rises (λ file. file.number) files → Rises (λ file. file.number) (change files)) → InOrder version → InOrder (with_files id change version)
order_with_files id change version so o =
    record { families = changed id (λ live. record live { files = change live.files }) version.families (λ live. refl) (λ live rise. so live.files rise) o.families; logs = o.logs }

order_deleted : (id : ℕ) (deleted : ℕ × ℕ) (version next : Version) → delete_step id deleted version ≡ Ok next → InOrder version → InOrder next
order_deleted id deleted version next e o =
    let (there, same) = taken (list_any (λ (live : FamilyState). has_id id live && list_any (λ (file : FileMeta). has_number deleted.1 file && file.level == deleted.0) live.files) version.families) (DeleteAbsent deleted.1) (with_files id (filter (λ file. not (has_number deleted.1 file))) version) next e in
    subst (λ (next : Version). InOrder next) same (order_with_files id (filter (λ file. not (has_number deleted.1 file))) version (λ files rise. rises_filter (λ file. file.number) (λ file. not (has_number deleted.1 file)) files rise) o)

order_added : (id : ℕ) (new : NewFile) (version next : Version) → add_step id new version ≡ Ok next → InOrder version → InOrder next
order_added id new version next e o =
    let (absent, e1) = passed (list_any (λ (live : FamilyState). list_any (has_number new.number) live.files) version.families) (AddPresent new.number) (Ok (with_files id (add_meta (file_meta new)) version)) next e in
    let same : with_files id (add_meta (file_meta new)) version ≡ next = cc in
    subst (λ (next : Version). InOrder next) same (order_with_files id (add_meta (file_meta new)) version (λ files rise. rises_with (λ file. file.number) (file_meta new) files rise) o)

-- steps that keep the order, one after another
order_steps : {A : Type 0} (step : A → Version → Result Version ApplyFault) → ((x : A) (version next : Version) → step x version ≡ Ok next → InOrder version → InOrder next)
    → (xs : List A) (version next : Version) → steps_in_order step xs version ≡ Ok next → InOrder version → InOrder next
unfolding steps_in_order
order_steps step so [] version next e o = let same : version ≡ next = cc in subst (λ (next : Version). InOrder next) same o
order_steps step so (x ∷ xs) version next e o =
    both_steps (step x version) (λ middle. steps_in_order step xs middle) next e λ middle middle_is e1. order_steps step so xs middle next e1 (so x version middle middle_is o)

order_filed : (edit : List Field) (drops : Bool) (known filed : Version) → cond drops (Ok known) (file_steps edit known) ≡ Ok filed → InOrder known → InOrder filed
order_filed edit true known filed e o = let same : known ≡ filed = cc in subst (λ (filed : Version). InOrder filed) same o
order_filed edit false known filed e o =
    both_steps (steps_in_order (delete_step (edit_family edit)) (filter_map deleted_in edit) known) (λ fewer. steps_in_order (add_step (edit_family edit)) (filter_map added_in edit) fewer) filed e λ fewer fewer_is e1.
    order_steps (add_step (edit_family edit)) (order_added (edit_family edit)) (filter_map added_in edit) fewer filed e1
    (order_steps (delete_step (edit_family edit)) (order_deleted (edit_family edit)) (filter_map deleted_in edit) known fewer fewer_is o)

-- the tracked logs
order_field : (wals : List Tracked) (field : Field) → Rises (λ tracked. tracked.log) wals → Rises (λ tracked. tracked.log) (track_field wals field)
order_field wals (wal_add log synced) rise = rises_with (λ tracked. tracked.log) _ wals rise
order_field wals (wal_delete log) rise = rises_filter (λ tracked. tracked.log) (λ tracked. nat_le log tracked.log) wals rise
order_field wals (comparator name) rise = rise
order_field wals (log_number n) rise = rise
order_field wals (next_file n) rise = rise
order_field wals (last_sequence n) rise = rise
order_field wals (compact_cursor level key) rise = rise
order_field wals (delete_file level number) rise = rise
order_field wals (add_file file) rise = rise
order_field wals (previous_log n) rise = rise
order_field wals (least_log n) rise = rise
order_field wals (family id) rise = rise
order_field wals (family_add name) rise = rise
order_field wals family_drop rise = rise
order_field wals (greatest_family id) rise = rise
order_field wals (group left) rise = rise
order_field wals (ignored tag value) rise = rise

order_tracked : (edit : List Field) (wals : List Tracked) → Rises (λ tracked. tracked.log) wals → Rises (λ tracked. tracked.log) (tracked_after edit wals)
order_tracked [] wals rise = rise
order_tracked (field ∷ edit) wals rise = order_tracked edit (track_field wals field) (order_field wals field rise)

order_edit : (edit : List Field) (version next : Version) → edit_step edit version ≡ Ok next → InOrder version → InOrder next
unfolding edit_step
order_edit edit version next e o =
    let (bytewise, e1) = passed (has_other_comparator edit) UnsupportedComparator (family_step edit version >>= λ known. cond (list_any drops_family edit) (Ok known) (file_steps edit known) >>= λ filed. Ok (with_numbers edit filed)) next e in
    both_steps (family_step edit version) (λ known. cond (list_any drops_family edit) (Ok known) (file_steps edit known) >>= λ filed. Ok (with_numbers edit filed)) next e1 λ known known_is e2.
    both_steps (cond (list_any drops_family edit) (Ok known) (file_steps edit known)) (λ filed. Ok (with_numbers edit filed)) next e2 λ filed filed_is e3.
    let same : with_numbers edit filed ≡ next = cc in
    let f = order_filed edit (list_any drops_family edit) known filed filed_is (order_family edit version known known_is o) in
    subst (λ (next : Version). InOrder next) same (record {
      families = changed (edit_family edit) (λ live. record live { log = risen live.log (stated log_number_in edit) }) filed.families (λ live. refl) (λ live rise. rise) f.families;
      logs = order_tracked edit filed.wals f.logs;
    })

order_unit : (unit : ManifestUnit) (version next : Version) → unit_step unit version ≡ Ok next → InOrder version → InOrder next
unfolding unit_step
order_unit unit version next e o =
    both_steps (steps_in_order edit_step unit.edits version) (λ middle. unless_found (overlap middle.families) middle) next e λ middle middle_is e1.
    subst (λ (next : Version). InOrder next) (no_overlap (overlap middle.families) middle next e1) (order_steps edit_step order_edit unit.edits version middle middle_is o)

order_version : (number : ℕ) (units : List ManifestUnit) (version next : Version) → version_after number units version ≡ Ok next → InOrder version → InOrder next
unfolding version_after
order_version number [] version next e o = let same : version ≡ next = cc in subst (λ (next : Version). InOrder next) same o
order_version number (unit ∷ units) version next e o =
    both_steps (in_unit number (unit_step unit version)) (λ middle. version_after (suc number) units middle) next e λ middle middle_is e1.
    order_version (suc number) units middle next e1 (order_unit unit version middle (in_unit_ok number (unit_step unit version) middle middle_is) o)

sorted : {A : Type 0} (number : A → ℕ) (xs : List A) → Rises number xs → IsStrictlySortedBy nat_cmp (map number xs)
unfolding IsStrictlySortedBy
sorted number [] rises = tt
sorted number (x ∷ xs) rises = (each_map (λ y. number x < number y) (λ n. nat_cmp (number x) n ≡ Less) number xs (λ y less. cond-true (nat_lt (number x) (number y)) _ _ (lt-ltb (number x) (number y) less)) rises.0, sorted number xs rises.1)

in_order_at : (units : List ManifestUnit) (point : ℕ) (version : Version) → version_at units point ≡ Ok version → InOrder version
in_order_at units point version e = order_version 1 (take point units) first_version version e (record { families = record { ids = (tt, tt); files = (tt, tt) }; logs = tt })

pub families_in_order : (units : List ManifestUnit) (point : ℕ) (version : Version) → version_at units point ≡ Ok version → IsStrictlySortedBy nat_cmp (map (λ live. live.id) version.families)
families_in_order units point version e = sorted (λ live. live.id) version.families (in_order_at units point version e).families.ids

pub files_in_order : (units : List ManifestUnit) (point : ℕ) (version : Version) → version_at units point ≡ Ok version → AllByRecursion (λ live. IsStrictlySortedBy nat_cmp (map (λ file. file.number) live.files)) version.families
files_in_order units point version e =
    each_so FilesRise (λ live. IsStrictlySortedBy nat_cmp (map (λ file. file.number) live.files)) version.families (λ live rise. sorted (λ file. file.number) live.files rise) (in_order_at units point version e).families.files

pub logs_in_order : (units : List ManifestUnit) (point : ℕ) (version : Version) → version_at units point ≡ Ok version → IsStrictlySortedBy nat_cmp (map (λ tracked. tracked.log) version.wals)
logs_in_order units point version e = sorted (λ tracked. tracked.log) version.wals (in_order_at units point version e).logs
