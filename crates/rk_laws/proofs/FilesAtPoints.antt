-- The files at a point are those that units added last.
use Rattle.std.proofs.Common.{◌≡◌, ℕ, suc, Bool, true, false, not, ◌&&◌, ◌||◌, cond, List, [], ◌∷◌, ◌++◌, map, filter, take, drop, Option, Some, None, Result, Ok, Err, refl, sym, ◌∙◌, ap, subst, append_assoc}
use Rattle.std.specs.Prelude.{◌==◌, nat_lt, zip, flat_map, filter_map, option_map, unwrap_or}
use Rattle.std.specs.List.{AllByRecursion, last_or, list_any}
use Rattle.std.proofs.lemmas.Bool.{eqb-false, ne_eqb, eq-eqb}
use Rattle.std.proofs.lemmas.Grind.{flat_map-append}
use Rattle.std.proofs.lemmas.List.{append-nil, take-append-drop, map-append}
use Rattle.std.proofs.lemmas.List.Elements.{filter-append}
use Rattle.rk_bytes.specs.declared.model.manifest.ManifestFault.{ManifestFault}
use Rattle.rk_bytes.specs.declared.model.manifest.ApplyFault.TheVariants.{UnsupportedComparator, FamilyExists, UnknownFamily, DeleteAbsent, AddPresent}
use Rattle.rk_bytes.specs.declared.model.manifest.FileMeta.{FileMeta}
use Rattle.rk_bytes.specs.declared.model.manifest.FamilyState.{FamilyState}
use Rattle.rk_bytes.specs.declared.model.manifest.Version.{Version}
use Rattle.rk_bytes.specs.Model.Numbers.{◌>>=◌}
use Rattle.rk_bytes.specs.Model.VersionEdit.{Field, NewFile, log_number_in, deleted_in, added_in, family_add_in, drops_family}
use Rattle.rk_bytes.specs.Model.Manifest.{ManifestUnit, stated, first_version, steps_in_order, edit_family, has_other_comparator, has_id, has_name, with_families, add_family, drop_family, family_step, has_number, with_files, delete_step, file_meta, add_meta, add_step, file_steps, risen, with_numbers, edit_step, overlap, unit_step, in_unit, version_after, version_at}
use Rattle.rk_bytes.specs.Model.BestEfforts.{families_at, files_at, added_by, added_files, listed, all_pass, answer_for, answers_pass}
use Rattle.rk_bytes.proofs.Callers.Readings.{both_steps, passed, taken}
use Rattle.rk_laws.proofs.VersionSteps.{known_with, unless_found, no_overlap, in_unit_ok}
use Rattle.rk_laws.proofs.EachElement.{none_passes, each_so, each_both, each_append, each_filter, each_map, each_flat_map, same_list_all}

abbrev Adds : Type 0
Adds = List (FileMeta × Bool)

abbrev counts : ℕ → FileMeta × Bool → Bool
counts number added = added.1 && has_number number added.0

-- the last file of a number that was added
abbrev last_added : Adds → ℕ → Option FileMeta
last_added adds number = last_or None (map (λ added. added.0) (filter (counts number) adds))

abbrev Put : Adds → FileMeta → Type 0
Put adds file = last_added adds file.number ≡ Some file

abbrev Placed : Adds → List FamilyState → Type 0
Placed adds families = AllByRecursion (λ live. AllByRecursion (Put adds) live.files) families

last_or-append : {A : Type 0} (o : Option A) (xs ys : List A) → last_or o (xs ++ ys) ≡ last_or (last_or o xs) ys
last_or-append o [] ys = refl
last_or-append o (x ∷ xs) ys = last_or-append (Some x) xs ys

last_added-append : (adds more : Adds) (number : ℕ) → last_added (adds ++ more) number ≡ last_or (last_added adds number) (map (λ added. added.0) (filter (counts number) more))
last_added-append adds more number =
    ap (λ (xs : Adds). last_or None (map (λ (added : FileMeta × Bool). added.0) xs)) (filter-append (counts number) adds more)
    ∙ ap (last_or None) (map-append (λ (added : FileMeta × Bool). added.0) (filter (counts number) adds) (filter (counts number) more))
    ∙ last_or-append None (map (λ (added : FileMeta × Bool). added.0) (filter (counts number) adds)) (map (λ (added : FileMeta × Bool). added.0) (filter (counts number) more))

-- what is added and doesn't count for a number leaves its last file
still_put : (adds more : Adds) (file : FileMeta) → filter (counts file.number) more ≡ [] → Put adds file → Put (adds ++ more) file
still_put adds more file none put =
    last_added-append adds more file.number
    ∙ ap (λ (xs : Adds). last_or (last_added adds file.number) (map (λ (added : FileMeta × Bool). added.0) xs)) none
    ∙ put

-- one more file of another number, and of its own
not_counted : (number : ℕ) (new : FileMeta) → (new.number == number) ≡ false → filter (counts number) ((new, true) ∷ []) ≡ []
not_counted number new other = ap (λ told. let r : Adds = cond told ((new, true) ∷ []) [] in r) other

new_put : (adds : Adds) (new : FileMeta) → Put (adds ++ (new, true) ∷ []) new
new_put adds new =
    last_added-append adds ((new, true) ∷ []) new.number
    ∙ ap (λ told. let kept : Adds = cond told ((new, true) ∷ []) [] in last_or (last_added adds new.number) (map (λ (added : FileMeta × Bool). added.0) kept)) (eq-eqb new.number new.number refl)

-- the families with one of them changed
placed_changed : (adds adds' : Adds) (id : ℕ) (change : FamilyState → FamilyState) (P : FamilyState → Type 0) (families : List FamilyState)
    → ((live : FamilyState) → AllByRecursion (Put adds) live.files × P live → AllByRecursion (Put adds') live.files)
    → ((live : FamilyState) → AllByRecursion (Put adds) live.files × P live → AllByRecursion (Put adds') (change live).files)
    → AllByRecursion (λ live. AllByRecursion (Put adds) live.files × P live) families → Placed adds' (map (λ live. cond (has_id id live) (change live) live) families)
placed_changed adds adds' id change P families same changed placed =
    each_map (λ live. AllByRecursion (Put adds) live.files × P live) (λ live. AllByRecursion (Put adds') live.files) (λ live. cond (has_id id live) (change live) live) families one placed
  where
    one : (live : FamilyState) → AllByRecursion (Put adds) live.files × P live → AllByRecursion (Put adds') (cond (has_id id live) (change live) live).files
    one live p = by (has_id id live)
      where
        by : (told : Bool) → AllByRecursion (Put adds') (cond told (change live) live).files
        by true = changed live p
        by false = same live p

abbrev Nothing : FamilyState → Type 0
Nothing live = Unit {0}

with_nothing : (adds : Adds) (families : List FamilyState) → Placed adds families → AllByRecursion (λ live. AllByRecursion (Put adds) live.files × Nothing live) families
with_nothing adds families placed = each_so (λ live. AllByRecursion (Put adds) live.files) (λ live. AllByRecursion (Put adds) live.files × Nothing live) families (λ live p. (p, tt)) placed

-- the families of an edit
placed_dropped : (adds : Adds) (drops : Bool) (id : ℕ) (version : Version) → Placed adds version.families → Placed adds (cond drops (with_families (drop_family id) version) version).families
placed_dropped adds true id version placed = each_filter (λ live. AllByRecursion (Put adds) live.files) (λ live. not (has_id id live)) version.families placed
placed_dropped adds false id version placed = placed

placed_known : (adds : Adds) (id : ℕ) (version known : Version) (told : Option (List ℕ)) → known_with id version told ≡ Ok known → Placed adds version.families → Placed adds known.families
placed_known adds id version known (Some name) e placed =
    let (free, e1) = passed (list_any (has_id id) version.families || list_any (has_name name) version.families) (FamilyExists id) (Ok (with_families (add_family id name) version)) known e in
    let same : with_families (add_family id name) version ≡ known = cc in
    subst (λ (known : Version). Placed adds known.families) same
    (each_append (λ live. AllByRecursion (Put adds) live.files) (filter (λ live. nat_lt live.id id) version.families) (record { id = id; name = name; log = 0; files = [] } ∷ filter (λ live. nat_lt id live.id) version.families)
    (each_filter (λ live. AllByRecursion (Put adds) live.files) (λ live. nat_lt live.id id) version.families placed)
    (tt, each_filter (λ live. AllByRecursion (Put adds) live.files) (λ live. nat_lt id live.id) version.families placed))
placed_known adds id version known None e placed =
    let (live, same) = taken (list_any (has_id id) version.families) (UnknownFamily id) version known e in
    subst (λ (known : Version). Placed adds known.families) same placed

placed_family : (adds : Adds) (edit : List Field) (version next : Version) → family_step edit version ≡ Ok next → Placed adds version.families → Placed adds next.families
placed_family adds edit version next e placed =
    both_steps (known_with (edit_family edit) version (stated family_add_in edit)) (λ known. Ok (cond (list_any drops_family edit) (with_families (drop_family (edit_family edit)) known) known)) next e λ known known_is e1.
    let same : cond (list_any drops_family edit) (with_families (drop_family (edit_family edit)) known) known ≡ next = cc in
    subst (λ (next : Version). Placed adds next.families) same
    (placed_dropped adds (list_any drops_family edit) (edit_family edit) known (placed_known adds (edit_family edit) version known (stated family_add_in edit) known_is placed))

-- a deleted file, and all of an edit
placed_deleted : (adds : Adds) (id : ℕ) (deleted : ℕ × ℕ) (version next : Version) → delete_step id deleted version ≡ Ok next → Placed adds version.families → Placed adds next.families
placed_deleted adds id deleted version next e placed =
    let (there, same) = taken (list_any (λ (live : FamilyState). has_id id live && list_any (λ (file : FileMeta). has_number deleted.1 file && file.level == deleted.0) live.files) version.families) (DeleteAbsent deleted.1) (with_files id (filter (λ file. not (has_number deleted.1 file))) version) next e in
    subst (λ (next : Version). Placed adds next.families) same
    (placed_changed adds adds id (λ live. record live { files = filter (λ file. not (has_number deleted.1 file)) live.files }) Nothing version.families (λ live p. p.0)
    (λ live p. each_filter (Put adds) (λ file. not (has_number deleted.1 file)) live.files p.0) (with_nothing adds version.families placed))

placed_deletions : (adds : Adds) (id : ℕ) (deleted : List (ℕ × ℕ)) (version next : Version) → steps_in_order (delete_step id) deleted version ≡ Ok next → Placed adds version.families → Placed adds next.families
unfolding steps_in_order
placed_deletions adds id [] version next e placed = let same : version ≡ next = cc in subst (λ (next : Version). Placed adds next.families) same placed
placed_deletions adds id (one ∷ more) version next e placed =
    both_steps (delete_step id one version) (λ middle. steps_in_order (delete_step id) more middle) next e λ middle middle_is e1.
    placed_deletions adds id more middle next e1 (placed_deleted adds id one version middle middle_is placed)

-- an added file, and all of an edit
placed_added : (adds : Adds) (id : ℕ) (new : NewFile) (version next : Version) → add_step id new version ≡ Ok next → Placed adds version.families → Placed (adds ++ (file_meta new, true) ∷ []) next.families
placed_added adds id new version next e placed =
    let (absent, e1) = passed (list_any (λ (live : FamilyState). list_any (has_number new.number) live.files) version.families) (AddPresent new.number) (Ok (with_files id (add_meta (file_meta new)) version)) next e in
    let same : with_files id (add_meta (file_meta new)) version ≡ next = cc in
    subst (λ (next : Version). Placed more next.families) same
    (placed_changed adds more id (λ live. record live { files = add_meta (file_meta new) live.files }) Fresh version.families moved added
    (each_both (λ live. AllByRecursion (Put adds) live.files) Fresh version.families placed (none_passes (λ live. list_any (has_number new.number) live.files) version.families absent)))
  where
    more : Adds
    more = adds ++ (file_meta new, true) ∷ []

    Fresh : FamilyState → Type 0
    Fresh live = list_any (has_number new.number) live.files ≡ false

    moved : (live : FamilyState) → AllByRecursion (Put adds) live.files × Fresh live → AllByRecursion (Put more) live.files
    moved live p =
        each_so (λ file. Put adds file × (has_number new.number file ≡ false)) (Put more) live.files
        (λ file q. still_put adds ((file_meta new, true) ∷ []) file (not_counted file.number (file_meta new) (ne_eqb new.number file.number (λ e. eqb-false file.number new.number q.1 (sym e)))) q.0)
        (each_both (Put adds) (λ file. has_number new.number file ≡ false) live.files p.0 (none_passes (has_number new.number) live.files p.1))

    added : (live : FamilyState) → AllByRecursion (Put adds) live.files × Fresh live → AllByRecursion (Put more) (add_meta (file_meta new) live.files)
    added live p =
        let still = moved live p in
        each_append (Put more) (filter (λ file. nat_lt file.number new.number) live.files) (file_meta new ∷ filter (λ file. nat_lt new.number file.number) live.files)
        (each_filter (Put more) (λ file. nat_lt file.number new.number) live.files still)
        (new_put adds (file_meta new), each_filter (Put more) (λ file. nat_lt new.number file.number) live.files still)

abbrev looked_at : Bool → List NewFile → Adds
looked_at told news = map (λ new. (file_meta new, told)) news

placed_additions : (adds : Adds) (id : ℕ) (news : List NewFile) (version next : Version) → steps_in_order (add_step id) news version ≡ Ok next → Placed adds version.families → Placed (adds ++ looked_at true news) next.families
unfolding steps_in_order
placed_additions adds id [] version next e placed =
    let same : version ≡ next = cc in
    subst (λ (adds : Adds). Placed adds next.families) (sym (append-nil adds)) (subst (λ (next : Version). Placed adds next.families) same placed)
placed_additions adds id (new ∷ more) version next e placed =
    both_steps (add_step id new version) (λ middle. steps_in_order (add_step id) more middle) next e λ middle middle_is e1.
    subst (λ (adds : Adds). Placed adds next.families) (append_assoc adds ((file_meta new, true) ∷ []) (looked_at true more))
    (placed_additions (adds ++ (file_meta new, true) ∷ []) id more middle next e1 (placed_added adds id new version middle middle_is placed))

-- files that aren't looked at
uncounted : (number : ℕ) (news : List NewFile) → filter (counts number) (looked_at false news) ≡ []
uncounted number [] = refl
uncounted number (new ∷ more) = uncounted number more

placed_filed : (adds : Adds) (edit : List Field) (drops : Bool) (known filed : Version) → cond drops (Ok known) (file_steps edit known) ≡ Ok filed → Placed adds known.families → Placed (adds ++ looked_at (not drops) (filter_map added_in edit)) filed.families
placed_filed adds edit true known filed e placed =
    let same : known ≡ filed = cc in
    let more = adds ++ looked_at false (filter_map added_in edit) in
    subst (λ (filed : Version). Placed more filed.families) same
    (each_so (λ live. AllByRecursion (Put adds) live.files) (λ live. AllByRecursion (Put more) live.files) known.families
    (λ live p. each_so (Put adds) (Put more) live.files (λ file put. still_put adds (looked_at false (filter_map added_in edit)) file (uncounted file.number (filter_map added_in edit)) put) p) placed)
placed_filed adds edit false known filed e placed =
    both_steps (steps_in_order (delete_step (edit_family edit)) (filter_map deleted_in edit) known) (λ fewer. steps_in_order (add_step (edit_family edit)) (filter_map added_in edit) fewer) filed e λ fewer fewer_is e1.
    placed_additions adds (edit_family edit) (filter_map added_in edit) fewer filed e1 (placed_deletions adds (edit_family edit) (filter_map deleted_in edit) known fewer fewer_is placed)

placed_numbers : (adds : Adds) (edit : List Field) (version : Version) → Placed adds version.families → Placed adds (with_numbers edit version).families
placed_numbers adds edit version placed =
    placed_changed adds adds (edit_family edit) (λ live. record live { log = risen live.log (stated log_number_in edit) }) Nothing version.families (λ live p. p.0) (λ live p. p.0) (with_nothing adds version.families placed)

placed_edit : (adds : Adds) (edit : List Field) (version next : Version) → edit_step edit version ≡ Ok next → Placed adds version.families → Placed (adds ++ added_by edit) next.families
unfolding edit_step
placed_edit adds edit version next e placed =
    let (bytewise, e1) = passed (has_other_comparator edit) UnsupportedComparator (family_step edit version >>= λ known. cond (list_any drops_family edit) (Ok known) (file_steps edit known) >>= λ filed. Ok (with_numbers edit filed)) next e in
    both_steps (family_step edit version) (λ known. cond (list_any drops_family edit) (Ok known) (file_steps edit known) >>= λ filed. Ok (with_numbers edit filed)) next e1 λ known known_is e2.
    both_steps (cond (list_any drops_family edit) (Ok known) (file_steps edit known)) (λ filed. Ok (with_numbers edit filed)) next e2 λ filed filed_is e3.
    let same : with_numbers edit filed ≡ next = cc in
    subst (λ (next : Version). Placed (adds ++ added_by edit) next.families) same
    (placed_numbers (adds ++ added_by edit) edit filed (placed_filed adds edit (list_any drops_family edit) known filed filed_is (placed_family adds edit version known known_is placed)))

placed_edits : (adds : Adds) (edits : List (List Field)) (version next : Version) → steps_in_order edit_step edits version ≡ Ok next → Placed adds version.families → Placed (adds ++ flat_map added_by edits) next.families
unfolding steps_in_order
placed_edits adds [] version next e placed =
    let same : version ≡ next = cc in
    subst (λ (adds : Adds). Placed adds next.families) (sym (append-nil adds)) (subst (λ (next : Version). Placed adds next.families) same placed)
placed_edits adds (edit ∷ edits) version next e placed =
    both_steps (edit_step edit version) (λ middle. steps_in_order edit_step edits middle) next e λ middle middle_is e1.
    subst (λ (adds : Adds). Placed adds next.families) (append_assoc adds (added_by edit) (flat_map added_by edits))
    (placed_edits (adds ++ added_by edit) edits middle next e1 (placed_edit adds edit version middle middle_is placed))

placed_unit : (adds : Adds) (unit : ManifestUnit) (version next : Version) → unit_step unit version ≡ Ok next → Placed adds version.families → Placed (adds ++ flat_map added_by unit.edits) next.families
unfolding unit_step
placed_unit adds unit version next e placed =
    both_steps (steps_in_order edit_step unit.edits version) (λ middle. unless_found (overlap middle.families) middle) next e λ middle middle_is e1.
    subst (λ (next : Version). Placed (adds ++ flat_map added_by unit.edits) next.families) (no_overlap (overlap middle.families) middle next e1) (placed_edits adds unit.edits version middle middle_is placed)

placed_version : (adds : Adds) (number : ℕ) (units : List ManifestUnit) (version next : Version) → version_after number units version ≡ Ok next → Placed adds version.families → Placed (adds ++ added_files units) next.families
unfolding version_after
placed_version adds number [] version next e placed =
    let same : version ≡ next = cc in
    subst (λ (adds : Adds). Placed adds next.families) (sym (append-nil adds)) (subst (λ (next : Version). Placed adds next.families) same placed)
placed_version adds number (unit ∷ units) version next e placed =
    both_steps (in_unit number (unit_step unit version)) (λ middle. version_after (suc number) units middle) next e λ middle middle_is e1.
    subst (λ (adds : Adds). Placed adds next.families) (append_assoc adds (flat_map added_by unit.edits) (added_files units))
    (placed_version (adds ++ flat_map added_by unit.edits) (suc number) units middle next e1 (placed_unit adds unit version middle (in_unit_ok number (unit_step unit version) middle middle_is) placed))

placed_at : (units : List ManifestUnit) (point : ℕ) → Placed (added_files (take point units)) (families_at units point)
placed_at units point = by (version_at units point) refl
  where
    by : (told : Result Version ManifestFault) → version_at units point ≡ told → Placed (added_files (take point units)) (elim told [ Ok version ↦ version.families | Err why ↦ [] ])
    by (Ok version) e = placed_version [] 1 (take point units) first_version version e (tt, tt)
    by (Err why) e = tt

-- answers of a test, beside what they are for
beside : (is_whole : FileMeta → Bool) (adds more : Adds) → zip adds (map is_whole (map (λ added. added.0) (adds ++ more))) ≡ map (λ added. (added, is_whole added.0)) adds
beside is_whole [] more = refl
beside is_whole (added ∷ adds) more = ap (λ rest. (added, is_whole added.0) ∷ rest) (beside is_whole adds more)

answers_of : (is_whole : FileMeta → Bool) (number : ℕ) (adds : Adds)
    → map (λ (a : (FileMeta × Bool) × Bool). a.1) (filter (λ (a : (FileMeta × Bool) × Bool). a.0.1 && has_number number a.0.0) (map (λ added. (added, is_whole added.0)) adds)) ≡ map is_whole (map (λ added. added.0) (filter (counts number) adds))
answers_of is_whole number [] = refl
answers_of is_whole number (added ∷ adds) = by (counts number added) (answers_of is_whole number adds)
  where
    kept : List ((FileMeta × Bool) × Bool)
    kept = filter (λ (a : (FileMeta × Bool) × Bool). a.0.1 && has_number number a.0.0) (map (λ added. (added, is_whole added.0)) adds)

    by : (told : Bool) → map (λ (a : (FileMeta × Bool) × Bool). a.1) kept ≡ map is_whole (map (λ added. added.0) (filter (counts number) adds))
        → map (λ (a : (FileMeta × Bool) × Bool). a.1) (cond told ((added, is_whole added.0) ∷ kept) kept) ≡ map is_whole (map (λ (added : FileMeta × Bool). added.0) (cond told (added ∷ filter (counts number) adds) (filter (counts number) adds)))
    by true rest = ap (λ more. is_whole added.0 ∷ more) rest
    by false rest = rest

last_or-map : {A B : Type 0} (f : A → B) (o : Option A) (xs : List A) → last_or (option_map f o) (map f xs) ≡ option_map f (last_or o xs)
last_or-map f o [] = refl
last_or-map f o (x ∷ xs) = last_or-map f (Some x) xs

one_answer : (is_whole : FileMeta → Bool) (adds more : Adds) (file : FileMeta) → Put adds file → answer_for (zip adds (map is_whole (map (λ added. added.0) (adds ++ more)))) file.number ≡ is_whole file
one_answer is_whole adds more file put =
    ap (λ answers. answer_for answers file.number) (beside is_whole adds more)
    ∙ ap (λ xs. unwrap_or (last_or None xs) false) (answers_of is_whole file.number adds)
    ∙ ap (λ o. unwrap_or o false) (last_or-map is_whole None (map (λ added. added.0) (filter (counts file.number) adds)))
    ∙ ap (λ o. unwrap_or (option_map is_whole o) false) put

pub answers_of_test : (units : List ManifestUnit) (is_whole : FileMeta → Bool) (id point : ℕ) → answers_pass (map is_whole (listed units)) units id point ≡ all_pass is_whole units id point
answers_of_test units is_whole id point =
    same_list_all (λ file. answer_for (zip adds (map is_whole (listed units))) file.number) is_whole (files_at units id point)
    (each_so (Put adds) (λ file. answer_for (zip adds (map is_whole (listed units))) file.number ≡ is_whole file) (files_at units id point) one
    (each_flat_map (Put adds) (λ live. live.files) (filter (has_id id) (families_at units point)) (each_filter (λ live. AllByRecursion (Put adds) live.files) (has_id id) (families_at units point) (placed_at units point))))
  where
    adds : Adds
    adds = added_files (take point units)

    whole : adds ++ added_files (drop point units) ≡ added_files units
    whole = sym (flat_map-append (λ (unit : ManifestUnit). flat_map added_by unit.edits) (take point units) (drop point units)) ∙ ap added_files (take-append-drop point units)

    one : (file : FileMeta) → Put adds file → answer_for (zip adds (map is_whole (listed units))) file.number ≡ is_whole file
    one file put = ap (λ all. answer_for (zip adds (map is_whole (map (λ (added : FileMeta × Bool). added.0) all))) file.number) (sym whole) ∙ one_answer is_whole adds (added_files (drop point units)) file put
