-- What holds of the last version of a manifest.
use Rattle.std.proofs.Common.{◌≡◌, ℕ, zero, suc, ◌≤◌, Bool, true, false, not, ◌&&◌, ◌||◌, cond, List, [], ◌∷◌, length, take, filter, Option, Some, None, Result, Ok, Err, refl, sym, subst}
use Rattle.std.specs.Prelude.{◌==◌, filter_map, is_none, IsSome, IfSome}
use Rattle.std.specs.List.{AllByRecursion, list_any, last_or, cons_option}
use Rattle.std.specs.Option.{option_or}
use Rattle.rk_bytes.specs.declared.model.manifest.ApplyFault.{ApplyFault}
use Rattle.rk_bytes.specs.declared.model.manifest.ApplyFault.TheVariants.{UnsupportedComparator, FamilyExists, UnknownFamily, DeleteAbsent, AddPresent}
use Rattle.rk_bytes.specs.declared.model.manifest.Which.TheVariants.{LogNumber, NextFile, LastSequence}
use Rattle.rk_bytes.specs.declared.model.manifest.ManifestFault.{ManifestFault}
use Rattle.rk_bytes.specs.declared.model.manifest.ManifestFault.TheVariants.{NoFields}
use Rattle.rk_bytes.specs.declared.model.manifest.FileMeta.{FileMeta}
use Rattle.rk_bytes.specs.declared.model.manifest.FamilyState.{FamilyState}
use Rattle.rk_bytes.specs.declared.model.manifest.Version.{Version}
use Rattle.rk_bytes.specs.Model.InternalKey.{top_sequence}
use Rattle.rk_bytes.specs.Model.Numbers.{◌>>=◌}
use Rattle.rk_bytes.specs.Model.VersionEdit.{Field, NewFile, comparator, log_number, next_file, last_sequence, compact_cursor, delete_file, add_file, previous_log, least_log, family, family_add, family_drop, greatest_family, group, wal_add, wal_delete, ignored, log_number_in, last_sequence_in, deleted_in, added_in, family_add_in, drops_family}
use Rattle.rk_bytes.specs.Model.Manifest.{ManifestUnit, Units, stated, first_version, steps_in_order, edit_family, has_other_comparator, has_id, has_name, with_families, add_family, drop_family, family_step, has_number, with_files, delete_step, file_meta, add_meta, add_step, file_steps, risen, with_numbers, edit_step, overlap, unit_step, in_unit, version_after, version_at, complete, last_version, manifest_units}
use Rattle.rk_bytes.proofs.Callers.Readings.{both_steps, passed, taken}
use Rattle.rk_version.specs.Bounds.{HasFilesInOrder, IsInOrder}
use Rattle.rk_version.specs.Steps.{known_with}
use Rattle.rk_version.proofs.VersionOrder.{order_family_added, order_family_dropped, order_file_deleted, order_file_added, order_logged, order_tracked, order_families}
use Rattle.rk_open.specs.Tables.{HaveWholeBounds}
use Rattle.rk_open.specs.Versions.{IsLast, StatesAll}
use Rattle.rk_open.proofs.SoundFields.{IsSound, HasWholeKeys}
use Rattle.rk_open.proofs.SoundUnits.{AreSoundUnits, units_sound}

abbrev WithinTop : Option ℕ → Type 0
WithinTop told = IfSome told (λ n. n ≤ top_sequence)

-- The version is in order, and its last sequence number is one that an internal key can hold.
record Holds (version : Version) : Type 0 where
  order : IsInOrder version
  last : WithinTop version.last_sequence

-- the version with its families changed
families_hold : (change : List FamilyState → List FamilyState) (version next : Version) → (IsInOrder version → IsInOrder (with_families change version)) → with_families change version ≡ next → Holds version → Holds next
families_hold change version next so same h = subst (λ (next : Version). Holds next) same (record { order = so h.order; last = h.last })

known_holds : (id : ℕ) (version known : Version) (told : Option (List ℕ)) → known_with id told version ≡ Ok known → Holds version → Holds known
known_holds id version known (Some name) e h =
    let (free, e1) = passed (list_any (has_id id) version.families || list_any (has_name name) version.families) (FamilyExists id) (Ok (with_families (add_family id name) version)) known e in
    let same : with_families (add_family id name) version ≡ known = cc in
    families_hold (add_family id name) version known (order_families version (add_family id name version.families) (add_family id name version.families) (order_family_added id name version.families) refl) same h
known_holds id version known None e h =
    let (live, same) = taken (list_any (has_id id) version.families) (UnknownFamily id) version known e in
    subst (λ (known : Version). Holds known) same h

dropped_holds : (drops : Bool) (id : ℕ) (version : Version) → Holds version → Holds (cond drops (with_families (drop_family id) version) version)
dropped_holds true id version h =
    families_hold (drop_family id) version _ (order_families version (drop_family id version.families) (drop_family id version.families) (order_family_dropped id version.families) refl) refl h
dropped_holds false id version h = h

family_holds : (edit : List Field) (version next : Version) → family_step edit version ≡ Ok next → Holds version → Holds next
family_holds edit version next e h =
    both_steps (known_with (edit_family edit) (stated family_add_in edit) version) (λ known. Ok (cond (list_any drops_family edit) (with_families (drop_family (edit_family edit)) known) known)) next e λ known known_is e1.
    let same : cond (list_any drops_family edit) (with_families (drop_family (edit_family edit)) known) known ≡ next = cc in
    subst (λ (next : Version). Holds next) same (dropped_holds (list_any drops_family edit) (edit_family edit) known (known_holds (edit_family edit) version known (stated family_add_in edit) known_is h))

deleted_holds : (id : ℕ) (deleted : ℕ × ℕ) (version next : Version) → delete_step id deleted version ≡ Ok next → Holds version → Holds next
deleted_holds id deleted version next e h =
    let (there, same) = taken (list_any (λ (live : FamilyState). has_id id live && list_any (λ (file : FileMeta). has_number deleted.1 file && file.level == deleted.0) live.files) version.families) (DeleteAbsent deleted.1) (with_files id (filter (λ file. not (has_number deleted.1 file))) version) next e in
    let after = (with_files id (filter (λ file. not (has_number deleted.1 file))) version).families in
    subst (λ (next : Version). Holds next) same (record { order = order_families version after after (order_file_deleted id deleted.1 version.families) refl h.order; last = h.last })

added_holds : (id : ℕ) (new : NewFile) (version next : Version) → HasWholeKeys new → add_step id new version ≡ Ok next → Holds version → Holds next
added_holds id new version next whole e h =
    let (absent, e1) = passed (list_any (λ (live : FamilyState). list_any (has_number new.number) live.files) version.families) (AddPresent new.number) (Ok (with_files id (add_meta (file_meta new)) version)) next e in
    let same : with_files id (add_meta (file_meta new)) version ≡ next = cc in
    let after = (with_files id (add_meta (file_meta new)) version).families in
    subst (λ (next : Version). Holds next) same (record { order = order_families version after after (order_file_added id (file_meta new) version.families whole) refl h.order; last = h.last })

-- steps that keep what holds, one after another, of things that have a property
steps_hold : {A : Type 0} (P : A → Type 0) (step : A → Version → Result Version ApplyFault) → ((x : A) (version next : Version) → P x → step x version ≡ Ok next → Holds version → Holds next)
    → (xs : List A) (version next : Version) → AllByRecursion P xs → steps_in_order step xs version ≡ Ok next → Holds version → Holds next
unfolding steps_in_order
steps_hold P step so [] version next all e h = let same : version ≡ next = cc in subst (λ (next : Version). Holds next) same h
steps_hold P step so (x ∷ xs) version next all e h =
    both_steps (step x version) (λ middle. steps_in_order step xs middle) next e λ middle middle_is e1. steps_hold P step so xs middle next all.1 e1 (so x version middle all.0 middle_is h)

-- fields of one kind
pub found_sound : {A : Type 0} (field_in : Field → Option A) (P : A → Type 0) → ((field : Field) → IsSound field → IfSome (field_in field) P) → (edit : List Field) → AllByRecursion IsSound edit → AllByRecursion P (filter_map field_in edit)
found_sound field_in P so [] all = tt
found_sound {A} field_in P so (field ∷ edit) all = by (field_in field) (so field all.0) (found_sound field_in P so edit all.1)
  where
    by : (told : Option A) → IfSome told P → AllByRecursion P (filter_map field_in edit) → AllByRecursion P (cons_option told (filter_map field_in edit))
    by (Some x) one rest = (one, rest)
    by None one rest = rest

pub added_in_sound : (field : Field) → IsSound field → IfSome (added_in field) HasWholeKeys
added_in_sound (add_file file) sound = sound
added_in_sound (comparator name) sound = tt
added_in_sound (log_number n) sound = tt
added_in_sound (next_file n) sound = tt
added_in_sound (last_sequence n) sound = tt
added_in_sound (compact_cursor level key) sound = tt
added_in_sound (delete_file level number) sound = tt
added_in_sound (previous_log n) sound = tt
added_in_sound (least_log n) sound = tt
added_in_sound (family id) sound = tt
added_in_sound (family_add name) sound = tt
added_in_sound family_drop sound = tt
added_in_sound (greatest_family id) sound = tt
added_in_sound (group left) sound = tt
added_in_sound (wal_add log synced) sound = tt
added_in_sound (wal_delete log) sound = tt
added_in_sound (ignored tag value) sound = tt

last_in_sound : (field : Field) → IsSound field → WithinTop (last_sequence_in field)
last_in_sound (last_sequence n) sound = sound
last_in_sound (add_file file) sound = tt
last_in_sound (comparator name) sound = tt
last_in_sound (log_number n) sound = tt
last_in_sound (next_file n) sound = tt
last_in_sound (compact_cursor level key) sound = tt
last_in_sound (delete_file level number) sound = tt
last_in_sound (previous_log n) sound = tt
last_in_sound (least_log n) sound = tt
last_in_sound (family id) sound = tt
last_in_sound (family_add name) sound = tt
last_in_sound family_drop sound = tt
last_in_sound (greatest_family id) sound = tt
last_in_sound (group left) sound = tt
last_in_sound (wal_add log synced) sound = tt
last_in_sound (wal_delete log) sound = tt
last_in_sound (ignored tag value) sound = tt

any_deleted : (field : Field) → IsSound field → IfSome (deleted_in field) (λ deleted. Unit {0})
any_deleted field sound = by (deleted_in field)
  where
    by : (told : Option (ℕ × ℕ)) → IfSome told (λ deleted. Unit {0})
    by (Some deleted) = tt
    by None = tt

last_within : (ns : List ℕ) (told : Option ℕ) → AllByRecursion (λ n. n ≤ top_sequence) ns → WithinTop told → WithinTop (last_or told ns)
last_within [] told all within = within
last_within (n ∷ ns) told all within = last_within ns (Some n) all.1 all.0

either_within : (one two : Option ℕ) → WithinTop one → WithinTop two → WithinTop (option_or one two)
either_within (Some n) two first second = first
either_within None two first second = second

filed_holds : (edit : List Field) (drops : Bool) (known filed : Version) → AllByRecursion IsSound edit → cond drops (Ok known) (file_steps edit known) ≡ Ok filed → Holds known → Holds filed
filed_holds edit true known filed all e h = let same : known ≡ filed = cc in subst (λ (filed : Version). Holds filed) same h
filed_holds edit false known filed all e h =
    let id = edit_family edit in
    both_steps (steps_in_order (delete_step id) (filter_map deleted_in edit) known) (λ fewer. steps_in_order (add_step id) (filter_map added_in edit) fewer) filed e λ fewer fewer_is e1.
    steps_hold HasWholeKeys (add_step id) (added_holds id) (filter_map added_in edit) fewer filed (found_sound added_in HasWholeKeys added_in_sound edit all) e1
    (steps_hold (λ deleted. Unit {0}) (delete_step id) (λ deleted version next any. deleted_holds id deleted version next) (filter_map deleted_in edit) known fewer (found_sound deleted_in (λ deleted. Unit {0}) any_deleted edit all) fewer_is h)

numbers_hold : (edit : List Field) (filed : Version) → AllByRecursion IsSound edit → Holds filed → Holds (with_numbers edit filed)
numbers_hold edit filed all h =
    let after = (with_numbers edit filed).families in
    let o = order_families filed after after (order_logged (edit_family edit) (λ log. risen log (stated log_number_in edit)) filed.families) refl h.order in
    record {
      order = record { ids = o.ids; files = o.files; logs = order_tracked edit filed.wals o.logs };
      last = either_within (stated last_sequence_in edit) filed.last_sequence
          (last_within (filter_map last_sequence_in edit) None (found_sound last_sequence_in (λ n. n ≤ top_sequence) last_in_sound edit all) tt) h.last;
    }

edit_holds : (edit : List Field) (version next : Version) → AllByRecursion IsSound edit → edit_step edit version ≡ Ok next → Holds version → Holds next
unfolding edit_step
edit_holds edit version next all e h =
    let (bytewise, e1) = passed (has_other_comparator edit) UnsupportedComparator (family_step edit version >>= λ known. cond (list_any drops_family edit) (Ok known) (file_steps edit known) >>= λ filed. Ok (with_numbers edit filed)) next e in
    both_steps (family_step edit version) (λ known. cond (list_any drops_family edit) (Ok known) (file_steps edit known) >>= λ filed. Ok (with_numbers edit filed)) next e1 λ known known_is e2.
    both_steps (cond (list_any drops_family edit) (Ok known) (file_steps edit known)) (λ filed. Ok (with_numbers edit filed)) next e2 λ filed filed_is e3.
    let same : with_numbers edit filed ≡ next = cc in
    subst (λ (next : Version). Holds next) same (numbers_hold edit filed all (filed_holds edit (list_any drops_family edit) known filed all filed_is (family_holds edit version known known_is h)))

no_overlap : (found : Option ApplyFault) (version next : Version) → elim found as (λ found. Result Version ApplyFault) [ Some why ↦ Err why | None ↦ Ok version ] ≡ Ok next → version ≡ next
no_overlap (Some why) version next e = absurd cc
no_overlap None version next e = cc

unit_holds : (unit : ManifestUnit) (version next : Version) → AllByRecursion (AllByRecursion IsSound) unit.edits → unit_step unit version ≡ Ok next → Holds version → Holds next
unfolding unit_step
unit_holds unit version next all e h =
    both_steps (steps_in_order edit_step unit.edits version) (λ middle. elim (overlap middle.families) [ Some why ↦ Err why | None ↦ Ok middle ]) next e λ middle middle_is e1.
    subst (λ (next : Version). Holds next) (no_overlap (overlap middle.families) middle next e1) (steps_hold (AllByRecursion IsSound) edit_step edit_holds unit.edits version middle all middle_is h)

in_unit_ok : (number : ℕ) (r : Result Version ApplyFault) (next : Version) → in_unit number r ≡ Ok next → r ≡ Ok next
in_unit_ok number (Ok version) next e = cc
in_unit_ok number (Err why) next e = absurd cc

version_holds : (number : ℕ) (units : List ManifestUnit) (version next : Version) → AreSoundUnits units → version_after number units version ≡ Ok next → Holds version → Holds next
unfolding version_after
version_holds number [] version next all e h = let same : version ≡ next = cc in subst (λ (next : Version). Holds next) same h
version_holds number (unit ∷ units) version next all e h =
    both_steps (in_unit number (unit_step unit version)) (λ middle. version_after (suc number) units middle) next e λ middle middle_is e1.
    version_holds (suc number) units middle next all.1 e1 (unit_holds unit version middle all.0 (in_unit_ok number (unit_step unit version) middle middle_is) h)

front_units : (n : ℕ) (units : List ManifestUnit) → AreSoundUnits units → AreSoundUnits (take n units)
front_units zero units all = tt
front_units (suc n) [] all = tt
front_units (suc n) (unit ∷ units) all = (all.0, front_units n units all.1)

at_holds : (units : List ManifestUnit) (version : Version) → AreSoundUnits units → version_at units (length units) ≡ Ok version → Holds version
at_holds units version all e =
    version_holds 1 (take (length units) units) first_version version (front_units (length units) units all) e (record { order = record { ids = (tt, tt); files = (record { rise = tt; bounds = tt }, tt); logs = tt }; last = tt })

complete_states : (version next : Version) → complete version ≡ Ok next → Holds version → IsInOrder next × StatesAll next
complete_states version next e h = by version.log_seen version.next_file version.last_sequence refl refl refl e h.last
  where
    by : (seen : Bool) (file last : Option ℕ) → version.log_seen ≡ seen → version.next_file ≡ file → version.last_sequence ≡ last
        → cond (not seen) (Err (NoFields LogNumber)) (cond (is_none file) (Err (NoFields NextFile)) (cond (is_none last) (Err (NoFields LastSequence)) (Ok version))) ≡ Ok next
        → WithinTop last → IsInOrder next × StatesAll next
    by false file last seen_is file_is last_is e within = absurd cc
    by true None last seen_is file_is last_is e within = absurd cc
    by true (Some file) None seen_is file_is last_is e within = absurd cc
    by true (Some file) (Some last) seen_is file_is last_is e within =
        let same : version ≡ next = cc in
        subst (λ (next : Version). IsInOrder next × StatesAll next) same (
          h.order,
          record {
            log = seen_is;
            next_file = subst IsSome (sym file_is) refl;
            last = last;
            last_sequence = last_is;
            bound = within;
          },
        )

whole : (read : Units) (version : Version) → AreSoundUnits read.units → last_version read ≡ Ok version → IsInOrder version × StatesAll version
whole read version all e =
    both_steps (version_at read.units (length read.units)) (λ version. elim read.fault [ Some fault ↦ Err fault | None ↦ complete version ]) version e λ last last_is e1. by read.fault last e1 (at_holds read.units last all last_is)
  where
    by : (fault : Option ManifestFault) (last : Version) → elim fault as (λ fault. Result Version ManifestFault) [ Some fault ↦ Err fault | None ↦ complete last ] ≡ Ok version → Holds last → IsInOrder version × StatesAll version
    by (Some fault) last e h = absurd cc
    by None last e h = complete_states last version e h

pub last_order : (version : Version) → IsLast version → IsInOrder version
last_order version is = (whole (manifest_units is.0) version (units_sound is.0) is.1).0

pub states_all : (version : Version) → IsLast version → StatesAll version
states_all version is = (whole (manifest_units is.0) version (units_sound is.0) is.1).1

wholes : (families : List FamilyState) → AllByRecursion HasFilesInOrder families → HaveWholeBounds families
wholes [] all = tt
wholes (live ∷ families) all = (all.0.bounds, wholes families all.1)

pub last_whole : (version : Version) → IsLast version → HaveWholeBounds version.families
last_whole version is = wholes version.families (last_order version is).files

-- the version after the first so many units
pub at_whole : (units : List ManifestUnit) → AreSoundUnits units → (point : ℕ) (version : Version) → version_at units point ≡ Ok version → IsInOrder version × HaveWholeBounds version.families
at_whole units all point version e =
    let h = version_holds 1 (take point units) first_version version (front_units point units all) e (record { order = record { ids = (tt, tt); files = (record { rise = tt; bounds = tt }, tt); logs = tt }; last = tt }) in
    (h.order, wholes version.families h.order.files)
