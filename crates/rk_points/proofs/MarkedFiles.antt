-- Which files of a family are broken, from one deleted or added file to the next.
use Rattle.std.proofs.Common.{◌≡◌, ℕ, Bool, true, false, not, ◌&&◌, ◌||◌, cond, List, [], ◌∷◌, ◌++◌, map, filter, Option, Some, None, refl, sym, ap, ◌∙◌, inl, inr}
use Rattle.std.specs.Prelude.{◌==◌, ◌⊎◌, unwrap_or}
use Rattle.std.specs.List.{list_any, last_or}
use Rattle.std.proofs.lemmas.Bool.{eqb-true, eq-eqb, ne_eqb, and_left, or_parts, cases_eq}
use Rattle.std.proofs.lemmas.List.{map-append}
use Rattle.std.proofs.lemmas.List.Elements.{filter-append}
use Rattle.rk_bytes.specs.declared.model.manifest.FileMeta.{FileMeta}
use Rattle.rk_bytes.specs.declared.model.manifest.FamilyState.{FamilyState}
use Rattle.rk_bytes.specs.Model.Manifest.{has_id, has_number, add_meta}
use Rattle.rk_bytes.specs.Model.BestEfforts.{answer_for}
use Rattle.rk_points.specs.Tallies.{without, with_answer, Asked, lives, holds, Marks}
use Rattle.rk_points.proofs.Marks.{any_kept, any_lost, any_same, any_none, any_put, any_put_own, holds_unchanged, holds_changed}

abbrev pub One : Type 0
One = (FileMeta × Bool) × Bool

-- the answer that counts for a number
abbrev counts : ℕ → One → Bool
counts number a = a.0.1 && has_number number a.0.0

last_or-append : {A : Type 0} (o : Option A) (xs ys : List A) → last_or o (xs ++ ys) ≡ last_or (last_or o xs) ys
last_or-append o [] ys = refl
last_or-append o (x ∷ xs) ys = last_or-append (Some x) xs ys

-- the answer for a number, with one more
pub answer_more : (asked : Asked) (one : One) (number : ℕ) → answer_for (asked ++ one ∷ []) number ≡ cond (counts number one) one.1 (answer_for asked number)
answer_more asked one number =
    ap (λ (xs : Asked). unwrap_or (last_or None (map (λ (a : One). a.1) xs)) false) (filter-append (counts number) asked (one ∷ []))
    ∙ ap (λ xs. unwrap_or (last_or None xs) false) (map-append (λ (a : One). a.1) (filter (counts number) asked) (filter (counts number) (one ∷ [])))
    ∙ ap (λ o. unwrap_or o false) (last_or-append None (map (λ (a : One). a.1) (filter (counts number) asked)) (map (λ (a : One). a.1) (filter (counts number) (one ∷ []))))
    ∙ by (counts number one)
  where
    by : (told : Bool) → unwrap_or (last_or (last_or None (map (λ (a : One). a.1) (filter (counts number) asked))) (map (λ (a : One). a.1) (cond told (one ∷ []) []))) false
        ≡ cond told one.1 (unwrap_or (last_or None (map (λ (a : One). a.1) (filter (counts number) asked))) false)
    by true = refl
    by false = refl

-- a file that isn't looked at
pub answer_uncounted : (asked : Asked) (file : FileMeta) (told : Bool) (number : ℕ) → answer_for (asked ++ ((file, false), told) ∷ []) number ≡ answer_for asked number
answer_uncounted asked file told number = answer_more asked ((file, false), told) number

and_none : (a : Bool) → (a && false) ≡ false
and_none true = refl
and_none false = refl

-- another family
pub marks_same : (asked : Asked) (families after : List FamilyState) (id : ℕ) (broken : List ℕ) → ((number : ℕ) → holds id number after ≡ holds id number families) → Marks asked families id broken → Marks asked after id broken
marks_same asked families after id broken same marks = λ number. marks number ∙ ap (λ told. told && not (answer_for asked number)) (sym (same number))

pub marks_uncounted : (asked : Asked) (file : FileMeta) (told : Bool) (families : List FamilyState) (id : ℕ) (broken : List ℕ) → Marks asked families id broken → Marks (asked ++ ((file, false), told) ∷ []) families id broken
marks_uncounted asked file told families id broken marks = λ number. marks number ∙ ap (λ told. holds id number families && not told) (sym (answer_uncounted asked file told number))

pub marks_nothing : (asked : Asked) (families : List FamilyState) (id : ℕ) → ((number : ℕ) → holds id number families ≡ false) → Marks asked families id []
marks_nothing asked families id none = λ number. sym (and_left (holds id number families) (not (answer_for asked number)) (none number))

-- broken numbers without one
module _ (number : ℕ) (broken : List ℕ) where
  pub among_gone : list_any (λ other. other == number) (without number broken) ≡ false
  among_gone = any_lost (λ other. other == number) (λ other. not (other == number)) broken (λ other e. ap not e)

  pub among_left : (n : ℕ) → (n ≡ number → ⊥) → list_any (λ other. other == n) (without number broken) ≡ list_any (λ other. other == n) broken
  among_left n apart = any_kept (λ other. other == n) (λ other. not (other == number)) broken (λ other e. ap not (ne_eqb other number (λ same. apart (sym (eqb-true other n e) ∙ same))))

  -- and with one whose answer this is
  pub among_other : (told : Bool) (n : ℕ) → (n ≡ number → ⊥) → list_any (λ other. other == n) (with_answer told number broken) ≡ list_any (λ other. other == n) broken
  among_other true n apart = refl
  among_other false n apart =
      any_put (λ (other : ℕ). other) (λ other. other == n) number broken n (λ other e. eqb-true other n e) apart
      ∙ ap (λ told. told || list_any (λ other. other == n) broken) (ne_eqb number n (λ e. apart (sym e)))

  pub among_own : (told : Bool) → list_any (λ other. other == number) broken ≡ false → list_any (λ other. other == number) (with_answer told number broken) ≡ not told
  among_own true none = none
  among_own false none = any_put_own (λ (other : ℕ). other) (λ other. other == number) number broken (λ other e. eqb-true other number e) ∙ eq-eqb number number refl

-- a file is deleted
module _ (own number : ℕ) (families : List FamilyState) where
  abbrev fewer : FamilyState → FamilyState
  fewer live = record live { files = filter (λ file. not (has_number number file)) live.files }

  abbrev after_delete : List FamilyState
  after_delete = map (λ live. cond (has_id own live) (fewer live) live) families

  deleted_gone : holds own number after_delete ≡ false
  deleted_gone = holds_changed own fewer (λ live. refl) families number ∙ any_none (λ live. has_id own live && list_any (has_number number) (fewer live).files) families
      (λ live. ap (λ told. has_id own live && told) (any_lost (has_number number) (λ file. not (has_number number file)) live.files (λ file e. ap not e)) ∙ and_none (has_id own live))

  deleted_left : (n : ℕ) → (n ≡ number → ⊥) → holds own n after_delete ≡ holds own n families
  deleted_left n apart = holds_changed own fewer (λ live. refl) families n
      ∙ any_same (λ live. has_id own live && list_any (has_number n) (fewer live).files) (λ live. has_id own live && list_any (has_number n) live.files) families
      (λ live. ap (λ told. has_id own live && told) (any_kept (has_number n) (λ file. not (has_number number file)) live.files
      (λ file e. ap not (ne_eqb file.number number (λ same. apart (sym (eqb-true file.number n e) ∙ same))))))

  pub marks_deleted : (asked : Asked) (broken : List ℕ) → Marks asked families own broken → Marks asked after_delete own (without number broken)
  marks_deleted asked broken marks n = by (cases_eq n number)
    where
      by : (n ≡ number) ⊎ (n ≡ number → ⊥) → list_any (λ other. other == n) (without number broken) ≡ (holds own n after_delete && not (answer_for asked n))
      by (inl same) =
          ap (λ n. list_any (λ other. other == n) (without number broken)) same ∙ among_gone number broken
          ∙ sym (and_left (holds own n after_delete) (not (answer_for asked n)) (ap (λ n. holds own n after_delete) same ∙ deleted_gone))
      by (inr apart) = among_left number broken n apart ∙ marks n ∙ ap (λ told. told && not (answer_for asked n)) (sym (deleted_left n apart))

  pub marks_deleted_other : (asked : Asked) (id : ℕ) (broken : List ℕ) → (id == own) ≡ false → Marks asked families id broken → Marks asked after_delete id broken
  marks_deleted_other asked id broken apart marks = marks_same asked families after_delete id broken (λ n. holds_unchanged own fewer (λ live. refl) families id n apart) marks

-- a file is added whose number is free
module _ (own : ℕ) (new : FileMeta) (told : Bool) (families : List FamilyState) (free : list_any (λ live. list_any (has_number new.number) live.files) families ≡ false) where
  abbrev more : FamilyState → FamilyState
  more live = record live { files = add_meta new live.files }

  abbrev after_add : List FamilyState
  after_add = map (λ live. cond (has_id own live) (more live) live) families

  abbrev with_new : Asked → Asked
  with_new asked = asked ++ ((new, true), told) ∷ []

  free_here : (id : ℕ) → holds id new.number families ≡ false
  free_here id = by families free
    where
      by : (xs : List FamilyState) → list_any (λ live. list_any (has_number new.number) live.files) xs ≡ false → holds id new.number xs ≡ false
      by [] e = refl
      by (x ∷ xs) e =
          let (first, rest) = or_parts (list_any (has_number new.number) x.files) (list_any (λ (live : FamilyState). list_any (has_number new.number) live.files) xs) e in
          (λ i. (ap (λ told. has_id id x && told) first ∙ and_none (has_id id x)) i || by xs rest i)

  answer_own : (asked : Asked) → answer_for (with_new asked) new.number ≡ told
  answer_own asked = answer_more asked ((new, true), told) new.number ∙ ap (λ (own : Bool). cond own told (answer_for asked new.number)) (eq-eqb new.number new.number refl)

  answer_other : (asked : Asked) (n : ℕ) → (n ≡ new.number → ⊥) → answer_for (with_new asked) n ≡ answer_for asked n
  answer_other asked n apart = answer_more asked ((new, true), told) n ∙ ap (λ (own : Bool). cond own told (answer_for asked n)) (ne_eqb new.number n (λ e. apart (sym e)))

  has_new : lives own families ≡ true → holds own new.number after_add ≡ true
  has_new live = holds_changed own more (λ live. refl) families new.number
      ∙ any_same (λ live. has_id own live && list_any (has_number new.number) (more live).files) (has_id own) families
      (λ live. ap (λ told. has_id own live && told) (any_put_own (λ (file : FileMeta). file.number) (has_number new.number) new live.files (λ file e. eqb-true file.number new.number e) ∙ eq-eqb new.number new.number refl) ∙ and_true (has_id own live))
      ∙ live
    where
      and_true : (a : Bool) → (a && true) ≡ a
      and_true true = refl
      and_true false = refl

  has_others : (n : ℕ) → (n ≡ new.number → ⊥) → holds own n after_add ≡ holds own n families
  has_others n apart = holds_changed own more (λ live. refl) families n
      ∙ any_same (λ live. has_id own live && list_any (has_number n) (more live).files) (λ live. has_id own live && list_any (has_number n) live.files) families
      (λ live. ap (λ told. has_id own live && told) (any_put (λ (file : FileMeta). file.number) (has_number n) new live.files n (λ file e. eqb-true file.number n e) apart
      ∙ ap (λ told. told || list_any (has_number n) live.files) (ne_eqb new.number n (λ e. apart (sym e)))))

  pub marks_added : (asked : Asked) (broken : List ℕ) → lives own families ≡ true → Marks asked families own broken → Marks (with_new asked) after_add own (with_answer told new.number broken)
  marks_added asked broken live marks n = by (cases_eq n new.number)
    where
      by : (n ≡ new.number) ⊎ (n ≡ new.number → ⊥) → list_any (λ other. other == n) (with_answer told new.number broken) ≡ (holds own n after_add && not (answer_for (with_new asked) n))
      by (inl same) =
          ap (λ n. list_any (λ other. other == n) (with_answer told new.number broken)) same
          ∙ among_own new.number broken told (marks new.number ∙ and_left (holds own new.number families) (not (answer_for asked new.number)) (free_here own))
          ∙ (λ i. sym (ap (λ n. holds own n after_add) same ∙ has_new live) i && not (sym (ap (answer_for (with_new asked)) same ∙ answer_own asked) i))
      by (inr apart) =
          among_other new.number broken told n apart ∙ marks n
          ∙ (λ i. sym (has_others n apart) i && not (sym (answer_other asked n apart) i))

  pub marks_added_other : (asked : Asked) (id : ℕ) (broken : List ℕ) → (id == own) ≡ false → Marks asked families id broken → Marks (with_new asked) after_add id broken
  marks_added_other asked id broken apart marks n = by (cases_eq n new.number)
    where
      same_files : holds id n after_add ≡ holds id n families
      same_files = holds_unchanged own more (λ live. refl) families id n apart

      by : (n ≡ new.number) ⊎ (n ≡ new.number → ⊥) → list_any (λ other. other == n) broken ≡ (holds id n after_add && not (answer_for (with_new asked) n))
      by (inl same) =
          let none : holds id n families ≡ false = ap (λ n. holds id n families) same ∙ free_here id in
          marks n ∙ and_left (holds id n families) (not (answer_for asked n)) none ∙ sym (and_left (holds id n after_add) (not (answer_for (with_new asked) n)) (same_files ∙ none))
      by (inr other) = marks n ∙ (λ i. sym same_files i && not (sym (answer_other asked n other) i))
