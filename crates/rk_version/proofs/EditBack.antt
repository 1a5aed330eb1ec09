-- What is kept of an edit leads from the version after it back to the one before.
use Rattle.std.proofs.Common.{◌≡◌, ℕ, Bool, true, false, not, cond, List, [], ◌∷◌, filter, filter_map, map, Option, Some, None, Ok, refl, sym, ap, subst, ◌∙◌}
use Rattle.std.specs.Prelude.{◌==◌, ◌&&◌, ◌||◌, find, option_map}
use Rattle.std.specs.List.{AllByRecursion, list_any, cons_option}
use Rattle.std.proofs.lemmas.Bool.{eq-eqb, ne_eqb, eqb-true, eqb-false, both_ways, or_right, or_left}
use Rattle.rk_bytes.specs.declared.model.manifest.ApplyFault.TheVariants.{FamilyExists, UnknownFamily, DeleteAbsent, AddPresent, UnsupportedComparator}
use Rattle.rk_bytes.specs.declared.model.manifest.FileMeta.{FileMeta}
use Rattle.rk_bytes.specs.declared.model.manifest.FamilyState.{FamilyState}
use Rattle.rk_bytes.specs.declared.model.manifest.Version.{Version}
use Rattle.rk_bytes.specs.Model.Numbers.{◌>>=◌}
use Rattle.rk_bytes.specs.Model.VersionEdit.{Field, NewFile, deleted_in, added_in, drops_family, log_number_in, family_add_in, comparator, log_number, next_file, last_sequence, compact_cursor, delete_file, add_file, previous_log, least_log, family, family_add, family_drop, greatest_family, group, wal_add, wal_delete, ignored}
use Rattle.rk_bytes.specs.Model.Manifest.{stated, steps_in_order, edit_family, has_other_comparator, has_id, has_name, with_families, with_family, add_family, drop_family, family_step, has_number, with_files, delete_step, file_meta, add_meta, add_step, file_steps, risen, tracked_after, with_numbers, edit_step}
use Rattle.rk_bytes.proofs.Callers.Readings.{both_steps, passed, taken}
use Rattle.rk_version.specs.declared.kept.KeptEdit.{KeptEdit}
use Rattle.rk_version.specs.declared.kept.KeptFamily.{KeptFamily}
use Rattle.rk_version.specs.declared.kept.KeptFamily.TheVariants.{Missing, Dropped, Changed}
use Rattle.rk_version.specs.declared.kept.KeptFiles.{KeptFiles}
use Rattle.rk_version.specs.Bounds.{HasFilesInOrder, IsInOrder}
use Rattle.rk_version.specs.Keeping.{touched_in, KeepsFiles, KeepsFamily, Keeps}
use Rattle.rk_version.specs.Keyed.{put, put_all, is_among, without_all, with_number, found_all}
use Rattle.rk_version.specs.Steps.{known_with}
use Rattle.rk_version.specs.Undone.{family_before, families_before, before_edit}
use Rattle.rk_version.proofs.Keyed.{Holds, own_among, other_number, found_holds, found_has, found_left, found_put, same_found, put_back, of_found, not_kept}
use Rattle.rk_version.proofs.LogsBack.{log_of, logs_back}
use Rattle.rk_version.proofs.Rising.{rises_filter, rises_with, rises_map}

abbrev id_of : FamilyState → ℕ
id_of live = live.id

abbrev number_of : FileMeta → ℕ
number_of file = file.number

found_any : {A : Type 0} (test : A → Bool) (xs : List A) (x : A) → find test xs ≡ Some x → list_any test xs ≡ true
found_any test [] x e = absurd cc
found_any {A} test (y ∷ xs) x e = by (test y) e (found_any test xs x)
  where
    by : (told : Bool) → cond told (Some y) (find test xs) ≡ Some x → (find test xs ≡ Some x → list_any test xs ≡ true) → (told || list_any test xs) ≡ true
    by true e next = refl
    by false e next = next e

-- what is found where one of the families is changed
found_changed : (id : ℕ) (change : FamilyState → FamilyState) → ((live : FamilyState) → (change live).id ≡ live.id) → (m : ℕ) (xs : List FamilyState)
    → with_number id_of m (map (λ live. cond (has_id id live) (change live) live) xs) ≡ cond (m == id) (option_map change (with_number id_of m xs)) (with_number id_of m xs)
found_changed id change keeps m [] = by (m == id) None
  where
    by : (told : Bool) (o : Option FamilyState) → None ≡ cond told (option_map change None) None
    by true o = refl
    by false o = refl
found_changed id change keeps m (x ∷ xs) = by (x.id == id) refl (x.id == m) refl (found_changed id change keeps m xs)
  where
    rest : List FamilyState
    rest = map (λ live. cond (has_id id live) (change live) live) xs

    by : (own : Bool) → (x.id == id) ≡ own → (here : Bool) → (x.id == m) ≡ here
        → with_number id_of m rest ≡ cond (m == id) (option_map change (with_number id_of m xs)) (with_number id_of m xs)
        → with_number id_of m (cond own (change x) x ∷ rest) ≡ cond (m == id) (option_map change (cond here (Some x) (with_number id_of m xs))) (cond here (Some x) (with_number id_of m xs))
    by true is true there so =
        let same : (m == id) ≡ true = eq-eqb m id (sym (eqb-true x.id m there) ∙ eqb-true x.id id is) in
        let moved : ((change x).id == m) ≡ true = eq-eqb (change x).id m (keeps x ∙ eqb-true x.id m there) in
        rw (same, moved) refl
    by true is false there so =
        let moved : ((change x).id == m) ≡ false = ne_eqb (change x).id m (λ e. eqb-false x.id m there (sym (keeps x) ∙ e)) in
        rw moved so
    by false is true there so =
        let other : (m == id) ≡ false = ne_eqb m id (λ e. eqb-false x.id id is (eqb-true x.id m there ∙ e)) in
        rw (other, there) refl
    by false is false there so = rw there so

-- families with other ids are found as before
abbrev Others : ℕ → List FamilyState → List FamilyState → Type 0
Others id before after = (m : ℕ) → (m ≡ id → ⊥) → with_number id_of m after ≡ with_number id_of m before

others_changed : (id : ℕ) (change : FamilyState → FamilyState) → ((live : FamilyState) → (change live).id ≡ live.id) → (families : List FamilyState) → Others id families (map (λ live. cond (has_id id live) (change live) live) families)
others_changed id change keeps families m other = found_changed id change keeps m families ∙ rw (ne_eqb m id other) refl

-- a family is as it was, but for its log number and files with these numbers
record Alike (numbers : List ℕ) (before after : FamilyState) : Type 0 where
  same_id : after.id ≡ before.id
  same_name : after.name ≡ before.name
  left : (m : ℕ) → is_among numbers m ≡ false → with_number number_of m after.files ≡ with_number number_of m before.files

-- so is the family with this id, and all else
record Near (numbers : List ℕ) (id : ℕ) (before after : Version) : Type 0 where
  others : Others id before.families after.families
  own : (live : FamilyState) → with_number id_of id before.families ≡ Some live → (now : FamilyState) × (with_number id_of id after.families ≡ Some now) × Alike numbers live now
  wals : after.wals ≡ before.wals

near_same : (numbers : List ℕ) (id : ℕ) (before after : Version) → before ≡ after → Near numbers id before after
near_same numbers id before after same = subst (λ (after : Version). Near numbers id before after) same (record {
  others = λ m other. refl;
  own = λ live e. (live, e, record { same_id = refl; same_name = refl; left = λ m free. refl });
  wals = refl;
})

near_then : (numbers : List ℕ) (id : ℕ) (a b c : Version) → Near numbers id a b → Near numbers id b c → Near numbers id a c
near_then numbers id a b c first second = record {
  others = λ m other. second.others m other ∙ first.others m other;
  own = λ live e.
      let (middle, found, alike) = first.own live e in
      let (now, last, more) = second.own middle found in (
        now,
        last,
        record {
          same_id = more.same_id ∙ alike.same_id;
          same_name = more.same_name ∙ alike.same_name;
          left = λ m free. more.left m free ∙ alike.left m free;
        },
      );
  wals = second.wals ∙ first.wals;
}

near_changed : (numbers : List ℕ) (id : ℕ) (change : FamilyState → FamilyState) → ((live : FamilyState) → Alike numbers live (change live)) → (version : Version) → Near numbers id version (with_family id change version)
near_changed numbers id change alike version = record {
  others = others_changed id change (λ live. (alike live).same_id) version.families;
  own = λ live e. (change live, found_changed id change (λ live. (alike live).same_id) id version.families ∙ rw (eq-eqb id id refl) (ap (option_map change) e), alike live);
  wals = refl;
}

-- the steps of files
module _ (numbers : List ℕ) (id : ℕ) where
  near_deleted : (deleted : ℕ × ℕ) → is_among numbers deleted.1 ≡ true → (version next : Version) → delete_step id deleted version ≡ Ok next → Near numbers id version next
  near_deleted deleted there version next e =
      let (found, same) = taken (list_any (λ (live : FamilyState). has_id id live && list_any (λ (file : FileMeta). has_number deleted.1 file && file.level == deleted.0) live.files) version.families) (DeleteAbsent deleted.1) (with_files id (filter (λ file. not (has_number deleted.1 file))) version) next e in
      subst (λ (next : Version). Near numbers id version next) same (near_changed numbers id (λ live. record live { files = filter (λ file. not (has_number deleted.1 file)) live.files }) (λ live. record {
        same_id = refl;
        same_name = refl;
        left = λ m free. found_left number_of (λ n. not (n == deleted.1)) m live.files ∙ rw (ne_eqb m deleted.1 (λ e. other_number numbers deleted.1 m there free (sym e))) refl;
      }) version)

  near_deletions : (deleted : List (ℕ × ℕ)) → AllByRecursion (λ d. is_among numbers d.1 ≡ true) deleted → (version next : Version) → steps_in_order (delete_step id) deleted version ≡ Ok next → Near numbers id version next
  unfolding steps_in_order
  near_deletions [] there version next e = let same : version ≡ next = cc in near_same numbers id version next same
  near_deletions (one ∷ more) there version next e =
      both_steps (delete_step id one version) (λ middle. steps_in_order (delete_step id) more middle) next e λ middle middle_is e1.
      near_then numbers id version middle next (near_deleted one there.0 version middle middle_is) (near_deletions more there.1 middle next e1)

  near_added : (new : NewFile) → is_among numbers new.number ≡ true → (version next : Version) → add_step id new version ≡ Ok next → Near numbers id version next
  near_added new there version next e =
      let (absent, e1) = passed (list_any (λ (live : FamilyState). list_any (has_number new.number) live.files) version.families) (AddPresent new.number) (Ok (with_files id (add_meta (file_meta new)) version)) next e in
      let same : with_files id (add_meta (file_meta new)) version ≡ next = cc in
      subst (λ (next : Version). Near numbers id version next) same (near_changed numbers id (λ live. record live { files = add_meta (file_meta new) live.files }) (λ live. record {
        same_id = refl;
        same_name = refl;
        left = λ m free. found_put number_of (file_meta new) m live.files ∙ rw (ne_eqb new.number m (λ e. other_number numbers new.number m there free e)) refl;
      }) version)

  near_additions : (news : List NewFile) → AllByRecursion (λ (new : NewFile). is_among numbers new.number ≡ true) news → (version next : Version) → steps_in_order (add_step id) news version ≡ Ok next → Near numbers id version next
  unfolding steps_in_order
  near_additions [] there version next e = let same : version ≡ next = cc in near_same numbers id version next same
  near_additions (new ∷ more) there version next e =
      both_steps (add_step id new version) (λ middle. steps_in_order (add_step id) more middle) next e λ middle middle_is e1.
      near_then numbers id version middle next (near_added new there.0 version middle middle_is) (near_additions more there.1 middle next e1)

deleted_touched : (field : Field) (d : ℕ × ℕ) → deleted_in field ≡ Some d → touched_in field ≡ Some d.1
deleted_touched (delete_file level number) d e = let same : (level, number) ≡ d = cc in ap (λ (d : ℕ × ℕ). Some d.1) same
deleted_touched (comparator name) d e = absurd cc
deleted_touched (log_number n) d e = absurd cc
deleted_touched (next_file n) d e = absurd cc
deleted_touched (last_sequence n) d e = absurd cc
deleted_touched (compact_cursor level key) d e = absurd cc
deleted_touched (add_file file) d e = absurd cc
deleted_touched (previous_log n) d e = absurd cc
deleted_touched (least_log n) d e = absurd cc
deleted_touched (family id) d e = absurd cc
deleted_touched (family_add name) d e = absurd cc
deleted_touched family_drop d e = absurd cc
deleted_touched (greatest_family id) d e = absurd cc
deleted_touched (group left) d e = absurd cc
deleted_touched (wal_add log synced) d e = absurd cc
deleted_touched (wal_delete log) d e = absurd cc
deleted_touched (ignored tag value) d e = absurd cc

added_touched : (field : Field) (new : NewFile) → added_in field ≡ Some new → touched_in field ≡ Some new.number
added_touched (add_file file) new e = let same : file ≡ new = cc in ap (λ (file : NewFile). Some file.number) same
added_touched (comparator name) d e = absurd cc
added_touched (log_number n) d e = absurd cc
added_touched (next_file n) d e = absurd cc
added_touched (last_sequence n) d e = absurd cc
added_touched (compact_cursor level key) d e = absurd cc
added_touched (delete_file level number) d e = absurd cc
added_touched (previous_log n) d e = absurd cc
added_touched (least_log n) d e = absurd cc
added_touched (family id) d e = absurd cc
added_touched (family_add name) d e = absurd cc
added_touched family_drop d e = absurd cc
added_touched (greatest_family id) d e = absurd cc
added_touched (group left) d e = absurd cc
added_touched (wal_add log synced) d e = absurd cc
added_touched (wal_delete log) d e = absurd cc
added_touched (ignored tag value) d e = absurd cc

-- parts of fields whose numbers are among what the fields touch
parts_touched : {A : Type 0} (part : Field → Option A) (number : A → ℕ) → ((field : Field) (a : A) → part field ≡ Some a → touched_in field ≡ Some (number a))
    → (numbers : List ℕ) (edit : List Field) → Holds numbers (filter_map touched_in edit) → AllByRecursion (λ a. is_among numbers (number a) ≡ true) (filter_map part edit)
parts_touched part number touches numbers [] holds = tt
parts_touched {A} part number touches numbers (field ∷ edit) holds = by (part field) refl (touched_in field) refl holds (parts_touched part number touches numbers edit)
  where
    none_some : (a : A) (o : Option ℕ) → o ≡ None → o ≡ Some (number a) → ⊥
    none_some a o none some = cc

    one : (n : ℕ) (a : A) (o : Option ℕ) → o ≡ Some n → o ≡ Some (number a) → n ≡ number a
    one n a o first second = cc

    by : (o : Option A) → part field ≡ o → (t : Option ℕ) → touched_in field ≡ t → Holds numbers (cons_option t (filter_map touched_in edit))
        → (Holds numbers (filter_map touched_in edit) → AllByRecursion (λ a. is_among numbers (number a) ≡ true) (filter_map part edit)) → AllByRecursion (λ a. is_among numbers (number a) ≡ true) (cons_option o (filter_map part edit))
    by None e None et holds next = next holds
    by None e (Some n) et holds next = next (λ m there. holds m (or_right (m == n) (is_among (filter_map touched_in edit) m) there))
    by (Some a) e None et holds next = absurd (none_some a (touched_in field) et (touches field a e))
    by (Some a) e (Some n) et holds next =
        let same : n ≡ number a = one n a (touched_in field) et (touches field a e) in (
          holds (number a) (subst (λ n. is_among (n ∷ filter_map touched_in edit) (number a) ≡ true) (sym same) (own_among (number a) (filter_map touched_in edit))),
          next (λ m there. holds m (or_right (m == n) (is_among (filter_map touched_in edit) m) there)),
        )

near_files : (edit : List Field) (version next : Version) → file_steps edit version ≡ Ok next → Near (filter_map touched_in edit) (edit_family edit) version next
near_files edit version next e =
    let numbers = filter_map touched_in edit in
    let id = edit_family edit in
    both_steps (steps_in_order (delete_step id) (filter_map deleted_in edit) version) (λ fewer. steps_in_order (add_step id) (filter_map added_in edit) fewer) next e λ fewer fewer_is e1.
    near_then numbers id version fewer next
    (near_deletions numbers id (filter_map deleted_in edit) (parts_touched deleted_in (λ (d : ℕ × ℕ). d.1) deleted_touched numbers edit (λ n there. there)) version fewer fewer_is)
    (near_additions numbers id (filter_map added_in edit) (parts_touched added_in (λ (new : NewFile). new.number) added_touched numbers edit (λ n there. there)) fewer next e1)

near_filed : (edit : List Field) (drops : Bool) (known filed : Version) → cond drops (Ok known) (file_steps edit known) ≡ Ok filed → Near (filter_map touched_in edit) (edit_family edit) known filed
near_filed edit true known filed e = let same : known ≡ filed = cc in near_same (filter_map touched_in edit) (edit_family edit) known filed same
near_filed edit false known filed e = near_files edit known filed e

-- the log number of the family, and the tracked logs
near_families_logged : (edit : List Field) (version : Version) → Near (filter_map touched_in edit) (edit_family edit) version (record version { families = (with_numbers edit version).families })
near_families_logged edit version =
    near_changed (filter_map touched_in edit) (edit_family edit) (λ live. record live { log = risen live.log (stated log_number_in edit) }) (λ live. record { same_id = refl; same_name = refl; left = λ m free. refl }) version

-- the edit's family comes or goes
others_known : (id : ℕ) (version known : Version) (name : Option (List ℕ)) → known_with id name version ≡ Ok known → Others id version.families known.families
others_known id version known None e =
    let (there, same) = taken (list_any (has_id id) version.families) (UnknownFamily id) version known e in
    subst (λ (known : Version). Others id version.families known.families) same (λ m other. refl)
others_known id version known (Some name) e =
    let (free, e1) = passed (list_any (has_id id) version.families || list_any (has_name name) version.families) (FamilyExists id) (Ok (with_families (add_family id name) version)) known e in
    let same : with_families (add_family id name) version ≡ known = cc in
    let new : FamilyState = record { id = id; name = name; log = 0; files = [] } in
    subst (λ (known : Version). Others id version.families known.families) same
    (λ m other. found_put id_of new m version.families ∙ rw (ne_eqb id m (λ e. other (sym e))) refl)

others_dropped : (id : ℕ) (drops : Bool) (known next : Version) → cond drops (with_families (drop_family id) known) known ≡ next → Others id known.families next.families
others_dropped id true known next e =
    subst (λ (next : Version). Others id known.families next.families) e
    (λ m other. found_left id_of (λ n. not (n == id)) m known.families ∙ rw (ne_eqb m id other) refl)
others_dropped id false known next e = subst (λ (next : Version). Others id known.families next.families) e (λ m other. refl)

wals_known : (id : ℕ) (version known : Version) (name : Option (List ℕ)) → known_with id name version ≡ Ok known → known.wals ≡ version.wals
wals_known id version known None e =
    let (there, same) = taken (list_any (has_id id) version.families) (UnknownFamily id) version known e in sym (ap (λ (v : Version). v.wals) same)
wals_known id version known (Some name) e =
    let (free, e1) = passed (list_any (has_id id) version.families || list_any (has_name name) version.families) (FamilyExists id) (Ok (with_families (add_family id name) version)) known e in
    let same : with_families (add_family id name) version ≡ known = cc in sym (ap (λ (v : Version). v.wals) same)

wals_dropped : (id : ℕ) (drops : Bool) (known next : Version) → cond drops (with_families (drop_family id) known) known ≡ next → next.wals ≡ known.wals
wals_dropped id true known next e = sym (ap (λ (v : Version). v.wals) e)
wals_dropped id false known next e = sym (ap (λ (v : Version). v.wals) e)

-- a family that is there and isn't dropped stays as it is
same_known : (id : ℕ) (version known : Version) (name : Option (List ℕ)) → list_any (has_id id) version.families ≡ true → known_with id name version ≡ Ok known → version ≡ known
same_known id version known None there e = (taken (list_any (has_id id) version.families) (UnknownFamily id) version known e).1
same_known id version known (Some name) there e =
    let (free, e1) = passed (list_any (has_id id) version.families || list_any (has_name name) version.families) (FamilyExists id) (Ok (with_families (add_family id name) version)) known e in
    absurd (both_ways (list_any (has_id id) version.families || list_any (has_name name) version.families) free (or_left (list_any (has_id id) version.families) (list_any (has_name name) version.families) there))

-- the families after an edit
record After (edit : List Field) (before after : Version) : Type 0 where
  others : Others (edit_family edit) before.families after.families
  own : list_any drops_family edit ≡ false → (live : FamilyState) → with_number id_of (edit_family edit) before.families ≡ Some live
      → (now : FamilyState) × (with_number id_of (edit_family edit) after.families ≡ Some now) × Alike (filter_map touched_in edit) live now
  wals : after.wals ≡ tracked_after edit before.wals

after_edit : (edit : List Field) (version next : Version) → edit_step edit version ≡ Ok next → After edit version next
unfolding edit_step
after_edit edit version next e =
    let id = edit_family edit in
    let (bytewise, e1) = passed (has_other_comparator edit) UnsupportedComparator (family_step edit version >>= λ known. cond (list_any drops_family edit) (Ok known) (file_steps edit known) >>= λ filed. Ok (with_numbers edit filed)) next e in
    both_steps (family_step edit version) (λ known. cond (list_any drops_family edit) (Ok known) (file_steps edit known) >>= λ filed. Ok (with_numbers edit filed)) next e1 λ known known_is e2.
    both_steps (cond (list_any drops_family edit) (Ok known) (file_steps edit known)) (λ filed. Ok (with_numbers edit filed)) next e2 λ filed filed_is e3.
    let same : with_numbers edit filed ≡ next = cc in
    both_steps (known_with id (stated family_add_in edit) version) (λ known. Ok (cond (list_any drops_family edit) (with_families (drop_family id) known) known)) known known_is λ first first_is e4.
    let dropped : cond (list_any drops_family edit) (with_families (drop_family id) first) first ≡ known = cc in
    let filed_near = near_filed edit (list_any drops_family edit) known filed filed_is in
    let logged_near = near_families_logged edit filed in
    subst (λ (next : Version). After edit version next) same (record {
      others = λ m other. logged_near.others m other ∙ filed_near.others m other ∙ others_dropped id (list_any drops_family edit) first known dropped m other ∙ others_known id version first (stated family_add_in edit) first_is m other;
      own = λ stays live found.
          let first_same = same_known id version first (stated family_add_in edit) (found_any (has_id id) version.families live found) first_is in
          let known_same : first ≡ known = sym (ap (λ drops. cond drops (with_families (drop_family id) first) first) stays) ∙ dropped in
          let start = near_same (filter_map touched_in edit) id version known (first_same ∙ known_same) in
          (near_then (filter_map touched_in edit) id version known _ start (near_then (filter_map touched_in edit) id known filed _ filed_near logged_near)).own live found;
      wals = ap (tracked_after edit) (filed_near.wals ∙ wals_dropped id (list_any drops_family edit) first known dropped ∙ wals_known id version first (stated family_add_in edit) first_is);
    })

-- the files of a family before the edit
files_back : (edit : List Field) (kept : KeptFiles) (live now : FamilyState) → KeepsFiles kept live edit → Alike (filter_map touched_in edit) live now → HasFilesInOrder live → HasFilesInOrder now → family_before kept now ≡ live
files_back edit kept live now keeps alike order order_now =
    λ i. record { id = alike.same_id i; name = alike.same_name i; log = keeps.log i; files = files i }
  where
    numbers : kept.numbers ≡ filter_map touched_in edit
    numbers = keeps.numbers

    left : (m : ℕ) → with_number number_of m (found_all number_of live.files kept.numbers) ≡ None → with_number number_of m (without_all number_of kept.numbers now.files) ≡ with_number number_of m live.files
    left m none = found_left number_of (λ n. not (is_among kept.numbers n)) m now.files ∙ by (is_among kept.numbers m) refl
      where
        by : (told : Bool) → is_among kept.numbers m ≡ told → cond (not told) (with_number number_of m now.files) None ≡ with_number number_of m live.files
        by true is = sym (not_kept number_of live.files kept.numbers m is none)
        by false is = alike.left m (ap (λ numbers. is_among numbers m) (sym numbers) ∙ is)

    files : put_all number_of kept.files (without_all number_of kept.numbers now.files) ≡ live.files
    files =
        ap (λ kept_files. put_all number_of kept_files (without_all number_of kept.numbers now.files)) keeps.files
        ∙ put_back number_of live.files (found_all number_of live.files kept.numbers) (without_all number_of kept.numbers now.files) order.rise
        (rises_filter number_of (λ file. not (is_among kept.numbers file.number)) now.files order_now.rise) (of_found number_of live.files kept.numbers) left

-- the families before the edit
module _ (edit : List Field) (version next : Version) (order : IsInOrder version) (order_next : IsInOrder next) (after : After edit version next) where
  families_back : (family : KeptFamily) → KeepsFamily family (with_number id_of (edit_family edit) version.families) (list_any drops_family edit) edit → families_before (edit_family edit) family next.families ≡ version.families
  families_back Missing none =
      same_found id_of (drop_family (edit_family edit) next.families) version.families (rises_filter id_of (λ live. not (has_id (edit_family edit) live)) next.families order_next.ids) order.ids
      (λ m. found_left id_of (λ n. not (n == edit_family edit)) m next.families ∙ by m (m == edit_family edit) refl)
    where
      by : (m : ℕ) (told : Bool) → (m == edit_family edit) ≡ told → cond (not told) (with_number id_of m next.families) None ≡ with_number id_of m version.families
      by m true is = sym (ap (λ m. with_number id_of m version.families) (eqb-true m (edit_family edit) is) ∙ none)
      by m false is = after.others m (eqb-false m (edit_family edit) is)
  families_back (Dropped live) kept =
      same_found id_of (put id_of live next.families) version.families (rises_with id_of live next.families order_next.ids) order.ids
      (λ m. found_put id_of live m next.families ∙ by m (live.id == m) refl)
    where
      own : live.id ≡ edit_family edit
      own = found_has id_of (edit_family edit) version.families live kept.0

      by : (m : ℕ) (told : Bool) → (live.id == m) ≡ told → cond told (Some live) (with_number id_of m next.families) ≡ with_number id_of m version.families
      by m true is = sym (ap (λ m. with_number id_of m version.families) (sym (eqb-true live.id m is) ∙ own) ∙ kept.0)
      by m false is = after.others m (λ e. eqb-false live.id m is (own ∙ sym e))
  families_back (Changed kept) (live, found, stays, keeps) =
      let (now, found_now, alike) = after.own stays live found in
      let same = files_back edit kept live now keeps alike (found_holds HasFilesInOrder (has_id (edit_family edit)) version.families live order.files found) (found_holds HasFilesInOrder (has_id (edit_family edit)) next.families now order_next.files found_now) in
      same_found id_of (map (λ live. cond (has_id (edit_family edit) live) (family_before kept live) live) next.families) version.families
      (rises_map id_of id_of (λ live. cond (has_id (edit_family edit) live) (family_before kept live) live) next.families (λ live. keeps_id live (has_id (edit_family edit) live)) order_next.ids) order.ids
      (λ m. found_changed (edit_family edit) (family_before kept) (λ live. refl) m next.families ∙ by now found_now same m (m == edit_family edit) refl)
    where
      keeps_id : (live : FamilyState) (told : Bool) → (cond told (family_before kept live) live).id ≡ live.id
      keeps_id live true = refl
      keeps_id live false = refl

      by : (now : FamilyState) → with_number id_of (edit_family edit) next.families ≡ Some now → family_before kept now ≡ live → (m : ℕ) (told : Bool) → (m == edit_family edit) ≡ told
          → cond told (option_map (family_before kept) (with_number id_of m next.families)) (with_number id_of m next.families) ≡ with_number id_of m version.families
      by now found_now same m true is =
          ap (λ m. option_map (family_before kept) (with_number id_of m next.families)) (eqb-true m (edit_family edit) is) ∙ ap (option_map (family_before kept)) found_now ∙ ap Some same
          ∙ sym (ap (λ m. with_number id_of m version.families) (eqb-true m (edit_family edit) is) ∙ found)
      by now found_now same m false is = after.others m (eqb-false m (edit_family edit) is)

-- what is kept leads back
pub led_back : (kept : KeptEdit) (edit : List Field) (version next : Version) → Keeps kept version edit → IsInOrder version → IsInOrder next → edit_step edit version ≡ Ok next → before_edit kept next ≡ version
led_back kept edit version next keeps order order_next e =
    λ i. record {
      families = families i;
      log_seen = keeps.log_seen i;
      next_file = keeps.next_file i;
      last_sequence = keeps.last_sequence i;
      least_log = keeps.least_log i;
      greatest_family = keeps.greatest_family i;
      wals = logs i;
    }
  where
    after : After edit version next
    after = after_edit edit version next e

    families : families_before kept.id kept.family next.families ≡ version.families
    families =
        ap (λ id. families_before id kept.family next.families) keeps.id
        ∙ families_back edit version next order order_next after kept.family (subst (λ id. KeepsFamily kept.family (with_number id_of id version.families) (list_any drops_family edit) edit) keeps.id keeps.family)

    logs : put_all log_of kept.wals (without_all log_of kept.tracks next.wals) ≡ version.wals
    logs = logs_back edit version.wals next.wals kept.wals kept.tracks order.logs order_next.logs keeps.tracks keeps.wals after.wals
