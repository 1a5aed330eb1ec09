-- Which families are live and which of their files are broken, from one edit to the next.
use Rattle.std.proofs.Common.{◌≡◌, ℕ, suc, ◌+◌, Bool, true, false, not, ◌||◌, ◌&&◌, cond, List, [], ◌∷◌, ◌++◌, length, map, filter, drop, Option, Some, None, Ok, refl, sym, ap, subst, ◌∙◌, append_assoc, arith}
use Rattle.std.specs.Prelude.{◌==◌, filter_map}
use Rattle.std.specs.List.{list_any}
use Rattle.std.proofs.lemmas.Bool.{or_parts}
use Rattle.std.proofs.lemmas.List.{map-append, length-append, length-map}
use Rattle.rk_bytes.specs.declared.model.manifest.ApplyFault.TheVariants.{UnsupportedComparator, FamilyExists, UnknownFamily, DeleteAbsent, AddPresent}
use Rattle.rk_bytes.specs.declared.model.manifest.FileMeta.{FileMeta}
use Rattle.rk_bytes.specs.declared.model.manifest.FamilyState.{FamilyState}
use Rattle.rk_bytes.specs.declared.model.manifest.Version.{Version}
use Rattle.rk_bytes.specs.Model.Numbers.{◌>>=◌}
use Rattle.rk_bytes.specs.Model.VersionEdit.{Field, NewFile, log_number_in, deleted_in, added_in, family_add_in, drops_family}
use Rattle.rk_bytes.specs.Model.Manifest.{ManifestUnit, stated, steps_in_order, edit_family, has_other_comparator, has_id, has_name, with_families, add_family, drop_family, family_step, has_number, with_files, delete_step, file_meta, add_meta, add_step, file_steps, risen, with_numbers, edit_step}
use Rattle.rk_bytes.specs.Model.BestEfforts.{added_by, added_files}
use Rattle.rk_bytes.proofs.Callers.Readings.{both_steps, passed, taken}
use Rattle.rk_version.specs.Places.{Rises}
use Rattle.rk_version.specs.Steps.{known_with}
use Rattle.rk_version.proofs.Rising.{rises_filter, rises_with, rises_map}
use Rattle.rk_points.specs.Tallies.{without, without_all, next_answer, with_answer, with_all, answers_after, Asked, lives, Marks}
use Rattle.rk_points.proofs.Marks.{holds_added, lives_added, lives_born, lives_dropped, lives_left, holds_dropped, holds_left, lives_changed, holds_unchanged, holds_changed}
use Rattle.rk_points.proofs.MarkedFiles.{One, marks_same, marks_uncounted, marks_nothing, marks_deleted, marks_deleted_other, marks_added, marks_added_other}

abbrev pub Adds : Type 0
Adds = List (FileMeta × Bool)

-- the files that were asked for and those that are to come, with their answers
pub record Supplied (units : List ManifestUnit) (answers : List Bool) (asked : Asked) (left : List Bool) (coming : Adds) : Type 0 where
  pub files : map (λ one. one.0) asked ++ coming ≡ added_files units
  pub answers_left : map (λ one. one.1) asked ++ left ≡ answers

module _ (units : List ManifestUnit) (answers : List Bool) (enough : length answers ≡ length (added_files units)) where
  -- the next file is asked for
  pub supplied_more : (asked : Asked) (left : List Bool) (added : FileMeta × Bool) (coming : Adds) → Supplied units answers asked left (added ∷ coming)
      → Supplied units answers (asked ++ (added, next_answer left) ∷ []) (drop 1 left) coming
  supplied_more asked [] added coming s =
      let files : length asked + suc (length coming) ≡ length (added_files units) = simp (length-append, length-map) at (ap length s.files) in
      let told : length asked + 0 ≡ length answers = simp (length-append, length-map) at (ap length s.answers_left) in
      absurd (omega arith)
  supplied_more asked (told ∷ left) added coming s = record {
    files = ap (λ front. front ++ coming) (map-append (λ (one : One). one.0) asked ((added, told) ∷ [])) ∙ append_assoc (map (λ (one : One). one.0) asked) (added ∷ []) coming ∙ s.files;
    answers_left = ap (λ front. front ++ left) (map-append (λ (one : One). one.1) asked ((added, told) ∷ [])) ∙ append_assoc (map (λ (one : One). one.1) asked) (told ∷ []) left ∙ s.answers_left;
  }

  module _ (own : ℕ) (live_of : ℕ → Bool) (broken_of : ℕ → List ℕ) where
    -- the families within an edit of one of them, with the numbers of its broken files
    pub record Mid (families : List FamilyState) (asked : Asked) (broken : List ℕ) : Type 0 where
      pub ids : Rises (λ live. live.id) families
      pub live : (id : ℕ) → (id == own) ≡ false → live_of id ≡ lives id families
      pub others : (id : ℕ) → (id == own) ≡ false → Marks asked families id (broken_of id)
      pub marks : Marks asked families own broken

    -- the same with what is known of answers
    pub record After (families : List FamilyState) (left : List Bool) (coming : Adds) (broken : List ℕ) (living : Bool) : Type 0 where
      pub asked : Asked
      pub supplied : Supplied units answers asked left coming
      pub mid : Mid families asked broken
      pub own_live : lives own families ≡ living

    mid_born : (name : List ℕ) (families : List FamilyState) (asked : Asked) (broken : List ℕ) → lives own families ≡ false → Mid families asked broken → Mid (add_family own name families) asked broken
    mid_born name families asked broken free mid = record {
      ids = rises_with (λ live. live.id) (record { id = own; name = name; log = 0; files = [] }) families mid.ids;
      live = λ id apart. mid.live id apart ∙ sym (lives_added own name families free id apart);
      others = λ id apart. marks_same asked families (add_family own name families) id (broken_of id) (holds_added own name families free id) (mid.others id apart);
      marks = marks_same asked families (add_family own name families) own broken (holds_added own name families free own) mid.marks;
    }

    mid_known : (asked : Asked) (broken : List ℕ) (version known : Version) (told : Option (List ℕ)) → known_with own told version ≡ Ok known → Mid version.families asked broken
        → Mid known.families asked broken × (lives own known.families ≡ true)
    mid_known asked broken version known (Some name) e mid =
        let (free, e1) = passed (list_any (has_id own) version.families || list_any (has_name name) version.families) (FamilyExists own) (Ok (with_families (add_family own name) version)) known e in
        let same : with_families (add_family own name) version ≡ known = cc in
        let none = (or_parts (list_any (has_id own) version.families) (list_any (has_name name) version.families) free).0 in
        subst (λ (known : Version). Mid known.families asked broken × (lives own known.families ≡ true)) same (mid_born name version.families asked broken none mid, lives_born own name version.families none)
    mid_known asked broken version known None e mid =
        let (live, same) = taken (list_any (has_id own) version.families) (UnknownFamily own) version known e in
        subst (λ (known : Version). Mid known.families asked broken × (lives own known.families ≡ true)) same (mid, live)

    mid_dropped : (families : List FamilyState) (asked : Asked) (broken : List ℕ) → Mid families asked broken → Mid (drop_family own families) asked []
    mid_dropped families asked broken mid = record {
      ids = rises_filter (λ live. live.id) (λ live. not (has_id own live)) families mid.ids;
      live = λ id apart. mid.live id apart ∙ sym (lives_left own families id apart);
      others = λ id apart. marks_same asked families (drop_family own families) id (broken_of id) (λ number. holds_left own families id number apart) (mid.others id apart);
      marks = marks_nothing asked (drop_family own families) own (holds_dropped own families);
    }

    -- a change of the family that keeps its id
    ids_changed : (change : FamilyState → FamilyState) (same_id : (live : FamilyState) → (change live).id ≡ live.id) (families : List FamilyState)
        → Rises (λ live. live.id) families → Rises (λ live. live.id) (map (λ live. cond (has_id own live) (change live) live) families)
    ids_changed change same_id families ids = rises_map (λ live. live.id) (λ live. live.id) (λ live. cond (has_id own live) (change live) live) families (λ live. by live (has_id own live)) ids
      where
        by : (live : FamilyState) (told : Bool) → (cond told (change live) live).id ≡ live.id
        by live true = same_id live
        by live false = refl

    mid_deleted : (asked : Asked) (broken : List ℕ) (deleted : ℕ × ℕ) (version next : Version) → delete_step own deleted version ≡ Ok next → Mid version.families asked broken → lives own version.families ≡ true
        → Mid next.families asked (without deleted.1 broken) × (lives own next.families ≡ true)
    mid_deleted asked broken deleted version next e mid live =
        let (there, same) = taken (list_any (λ (live : FamilyState). has_id own live && list_any (λ (file : FileMeta). has_number deleted.1 file && file.level == deleted.0) live.files) version.families) (DeleteAbsent deleted.1) (with_files own (filter (λ file. not (has_number deleted.1 file))) version) next e in
        subst (λ (next : Version). Mid next.families asked (without deleted.1 broken) × (lives own next.families ≡ true)) same (
          record {
            ids = ids_changed fewer (λ live. refl) version.families mid.ids;
            live = λ id apart. mid.live id apart ∙ sym (lives_changed own fewer (λ live. refl) version.families id);
            others = λ id apart. marks_deleted_other own deleted.1 version.families asked id (broken_of id) apart (mid.others id apart);
            marks = marks_deleted own deleted.1 version.families asked broken mid.marks;
          },
          lives_changed own fewer (λ live. refl) version.families own ∙ live,
        )
      where
        fewer : FamilyState → FamilyState
        fewer live = record live { files = filter (λ file. not (has_number deleted.1 file)) live.files }

    mid_deletions : (asked : Asked) (broken : List ℕ) (deleted : List (ℕ × ℕ)) (version next : Version) → steps_in_order (delete_step own) deleted version ≡ Ok next → Mid version.families asked broken
        → lives own version.families ≡ true → Mid next.families asked (without_all deleted broken) × (lives own next.families ≡ true)
    unfolding steps_in_order
    mid_deletions asked broken [] version next e mid live =
        let same : version ≡ next = cc in
        subst (λ (next : Version). Mid next.families asked broken × (lives own next.families ≡ true)) same (mid, live)
    mid_deletions asked broken (one ∷ more) version next e mid live =
        both_steps (delete_step own one version) (λ middle. steps_in_order (delete_step own) more middle) next e λ middle middle_is e1.
        let (there, living) = mid_deleted asked broken one version middle middle_is mid live in
        mid_deletions asked (without one.1 broken) more middle next e1 there living

    mid_added : (asked : Asked) (broken : List ℕ) (told : Bool) (new : NewFile) (version next : Version) → add_step own new version ≡ Ok next → Mid version.families asked broken → lives own version.families ≡ true
        → Mid next.families (asked ++ ((file_meta new, true), told) ∷ []) (with_answer told new.number broken) × (lives own next.families ≡ true)
    mid_added asked broken told new version next e mid live =
        let (free, e1) = passed (list_any (λ (live : FamilyState). list_any (has_number new.number) live.files) version.families) (AddPresent new.number) (Ok (with_files own (add_meta (file_meta new)) version)) next e in
        let same : with_files own (add_meta (file_meta new)) version ≡ next = cc in
        subst (λ (next : Version). Mid next.families (asked ++ ((file_meta new, true), told) ∷ []) (with_answer told new.number broken) × (lives own next.families ≡ true)) same (
          record {
            ids = ids_changed more (λ live. refl) version.families mid.ids;
            live = λ id apart. mid.live id apart ∙ sym (lives_changed own more (λ live. refl) version.families id);
            others = λ id apart. marks_added_other own (file_meta new) told version.families free asked id (broken_of id) apart (mid.others id apart);
            marks = marks_added own (file_meta new) told version.families free asked broken live mid.marks;
          },
          lives_changed own more (λ live. refl) version.families own ∙ live,
        )
      where
        more : FamilyState → FamilyState
        more live = record live { files = add_meta (file_meta new) live.files }

    abbrev looked_at : Bool → List NewFile → Adds
    looked_at counted news = map (λ (new : NewFile). (file_meta new, counted)) news

    mid_additions : (asked : Asked) (left : List Bool) (coming : Adds) (broken : List ℕ) (news : List NewFile) (version next : Version) → steps_in_order (add_step own) news version ≡ Ok next
        → Supplied units answers asked left (looked_at true news ++ coming) → Mid version.families asked broken → lives own version.families ≡ true
        → After next.families (answers_after news left) coming (with_all news left broken) true
    unfolding steps_in_order
    mid_additions asked left coming broken [] version next e s mid live =
        let same : version ≡ next = cc in
        subst (λ (next : Version). After next.families left coming broken true) same (record { asked = asked; supplied = s; mid = mid; own_live = live })
    mid_additions asked left coming broken (new ∷ more) version next e s mid live =
        both_steps (add_step own new version) (λ middle. steps_in_order (add_step own) more middle) next e λ middle middle_is e1.
        let (there, living) = mid_added asked broken (next_answer left) new version middle middle_is mid live in
        mid_additions (asked ++ ((file_meta new, true), next_answer left) ∷ []) (drop 1 left) coming (with_answer (next_answer left) new.number broken) more middle next e1
        (supplied_more asked left (file_meta new, true) (looked_at true more ++ coming) s) there living

    mid_uncounted : (asked : Asked) (file : FileMeta) (told : Bool) (families : List FamilyState) (broken : List ℕ) → Mid families asked broken → Mid families (asked ++ ((file, false), told) ∷ []) broken
    mid_uncounted asked file told families broken mid = record {
      ids = mid.ids;
      live = mid.live;
      others = λ id apart. marks_uncounted asked file told families id (broken_of id) (mid.others id apart);
      marks = marks_uncounted asked file told families own broken mid.marks;
    }

    mid_passed : (asked : Asked) (left : List Bool) (coming : Adds) (broken : List ℕ) (living : Bool) (news : List NewFile) (families : List FamilyState)
        → Supplied units answers asked left (looked_at false news ++ coming) → Mid families asked broken → lives own families ≡ living → After families (answers_after news left) coming broken living
    mid_passed asked left coming broken living [] families s mid live = record { asked = asked; supplied = s; mid = mid; own_live = live }
    mid_passed asked left coming broken living (new ∷ more) families s mid live =
        mid_passed (asked ++ ((file_meta new, false), next_answer left) ∷ []) (drop 1 left) coming broken living more families
        (supplied_more asked left (file_meta new, false) (looked_at false more ++ coming) s) (mid_uncounted asked (file_meta new) (next_answer left) families broken mid) live

    -- the broken files after the edit
    abbrev counted_files : Bool → List Field → List Bool → List ℕ → List ℕ
    counted_files drops edit left broken = cond drops [] (with_all (filter_map added_in edit) left (without_all (filter_map deleted_in edit) broken))

    mid_filed : (asked : Asked) (left : List Bool) (coming : Adds) (broken : List ℕ) (edit : List Field) (drops : Bool) (known filed : Version) → own ≡ edit_family edit
        → cond drops (Ok (cond drops (with_families (drop_family (edit_family edit)) known) known)) (file_steps edit (cond drops (with_families (drop_family (edit_family edit)) known) known)) ≡ Ok filed
        → Supplied units answers asked left (looked_at (not drops) (filter_map added_in edit) ++ coming) → Mid known.families asked broken → lives own known.families ≡ true
        → After filed.families (answers_after (filter_map added_in edit) left) coming (counted_files drops edit left broken) (not drops)
    mid_filed asked left coming broken edit true known filed own_is e s mid live =
        let same : with_families (drop_family (edit_family edit)) known ≡ filed = cc in
        subst (λ (filed : Version). After filed.families (answers_after (filter_map added_in edit) left) coming [] false) (ap (λ id. with_families (drop_family id) known) own_is ∙ same)
        (mid_passed asked left coming [] false (filter_map added_in edit) (drop_family own known.families) s (mid_dropped known.families asked broken mid) (lives_dropped own known.families))
    mid_filed asked left coming broken edit false known filed own_is e s mid live =
        both_steps (steps_in_order (delete_step (edit_family edit)) (filter_map deleted_in edit) known) (λ fewer. steps_in_order (add_step (edit_family edit)) (filter_map added_in edit) fewer) filed e λ fewer fewer_is e1.
        let (there, living) = mid_deletions asked broken (filter_map deleted_in edit) known fewer (ap (λ id. steps_in_order (delete_step id) (filter_map deleted_in edit) known) own_is ∙ fewer_is) mid live in
        mid_additions asked left coming (without_all (filter_map deleted_in edit) broken) (filter_map added_in edit) fewer filed (ap (λ id. steps_in_order (add_step id) (filter_map added_in edit) fewer) own_is ∙ e1) s there living

    after_numbers : (left : List Bool) (coming : Adds) (broken : List ℕ) (living : Bool) (edit : List Field) (version : Version) → own ≡ edit_family edit → After version.families left coming broken living
        → After (with_numbers edit version).families left coming broken living
    after_numbers left coming broken living edit version own_is after =
        subst (λ id. After (map (λ live. cond (has_id id live) (record live { log = risen live.log (stated log_number_in edit) }) live) version.families) left coming broken living) own_is (record {
          asked = after.asked;
          supplied = after.supplied;
          mid = record {
            ids = ids_changed logged (λ live. refl) version.families after.mid.ids;
            live = λ id apart. after.mid.live id apart ∙ sym (lives_changed own logged (λ live. refl) version.families id);
            others = λ id apart. marks_same after.asked version.families (map (λ live. cond (has_id own live) (logged live) live) version.families) id (broken_of id) (λ number. holds_unchanged own logged (λ live. refl) version.families id number apart) (after.mid.others id apart);
            marks = marks_same after.asked version.families (map (λ live. cond (has_id own live) (logged live) live) version.families) own broken (λ number. holds_changed own logged (λ live. refl) version.families number) after.mid.marks;
          };
          own_live = lives_changed own logged (λ live. refl) version.families own ∙ after.own_live;
        })
      where
        logged : FamilyState → FamilyState
        logged live = record live { log = risen live.log (stated log_number_in edit) }

    pub edit_marked : (asked : Asked) (left : List Bool) (coming : Adds) (broken : List ℕ) (edit : List Field) (version next : Version) → own ≡ edit_family edit → edit_step edit version ≡ Ok next
        → Supplied units answers asked left (added_by edit ++ coming) → Mid version.families asked broken
        → After next.families (answers_after (filter_map added_in edit) left) coming (counted_files (list_any drops_family edit) edit left broken) (not (list_any drops_family edit))
    unfolding edit_step
    edit_marked asked left coming broken edit version next own_is e s mid =
        let (bytewise, e1) = passed (has_other_comparator edit) UnsupportedComparator (family_step edit version >>= λ known. cond (list_any drops_family edit) (Ok known) (file_steps edit known) >>= λ filed. Ok (with_numbers edit filed)) next e in
        both_steps (family_step edit version) (λ known. cond (list_any drops_family edit) (Ok known) (file_steps edit known) >>= λ filed. Ok (with_numbers edit filed)) next e1 λ left_over left_is e2.
        both_steps (cond (list_any drops_family edit) (Ok left_over) (file_steps edit left_over)) (λ filed. Ok (with_numbers edit filed)) next e2 λ filed filed_is e3.
        both_steps (known_with (edit_family edit) (stated family_add_in edit) version) (λ known. Ok (cond (list_any drops_family edit) (with_families (drop_family (edit_family edit)) known) known)) left_over left_is λ known known_is e4.
        let same : with_numbers edit filed ≡ next = cc in
        let dropped : left_over ≡ cond (list_any drops_family edit) (with_families (drop_family (edit_family edit)) known) known = cc in
        let (there, living) = mid_known asked broken version known (stated family_add_in edit) (ap (λ id. known_with id (stated family_add_in edit) version) own_is ∙ known_is) mid in
        subst (λ (next : Version). After next.families (answers_after (filter_map added_in edit) left) coming (counted_files (list_any drops_family edit) edit left broken) (not (list_any drops_family edit))) same
        (after_numbers (answers_after (filter_map added_in edit) left) coming (counted_files (list_any drops_family edit) edit left broken) (not (list_any drops_family edit)) edit filed own_is
        (mid_filed asked left coming broken edit (list_any drops_family edit) known filed own_is
        (ap (λ (known : Version). cond (list_any drops_family edit) (Ok known) (file_steps edit known)) (sym dropped) ∙ filed_is) s there living))
