-- What may follow the first edits of a group, and what it makes of them.
use Rattle.std.proofs.Common.{◌≡◌, ◌⊎◌, inl, inr, ℕ, zero, suc, ◌+◌, ◌-◌, ◌<◌, true, false, List, [], ◌∷◌, ◌++◌, length, Option, Some, None, Result, Ok, Err, refl, sym, ◌∙◌, ap, subst, arith}
use Rattle.std.specs.Prelude.{nat_eq, ◌==◌, ◌||◌}
use Rattle.std.specs.Option.{option_eq}
use Rattle.std.proofs.Math.Dec.{eqb-suc-zero}
use Rattle.std.proofs.lemmas.Bool.{eqb-true, eq-eqb, false≢true}
use Rattle.std.proofs.lemmas.List.{length-append}
use Rattle.rk_bytes.specs.declared.model.edit.EditFault.{EditFault}
use Rattle.rk_bytes.specs.Model.Numbers.{◌>>=◌}
use Rattle.rk_bytes.specs.Model.VersionEdit.{Field, group_in, edit_fields}
use Rattle.rk_bytes.specs.Model.Manifest.{stated, falls}
use Rattle.rk_manifest.specs.Fronts.{stated_in, admits, IsFront}
use Rattle.rk_manifest.proofs.PartingLemmas.{falls-push}

-- ---- an edit that reads

pub record IsEdit (bytes : List ℕ) (told : Option ℕ) : Type 0 where
  pub edit : List Field
  pub reads : edit_fields bytes ≡ Ok edit
  pub states : stated group_in edit ≡ told

pub edit_of : (bytes : List ℕ) (told : Option ℕ) → stated_in bytes ≡ Ok told → IsEdit bytes told
edit_of bytes told is = by (edit_fields bytes) refl is
  where
    by : (read : Result (List Field) EditFault) → edit_fields bytes ≡ read → read >>= (λ edit. Ok (stated group_in edit)) ≡ Ok told → IsEdit bytes told
    by (Ok edit) reads is = record { edit = edit; reads = reads; states = cc }
    by (Err why) reads is = absurd (let other : Err why ≡ Ok told = is in cc)

-- ---- what may come next

-- either no group has begun, or the edit states one fewer
pub admitted : (left : ℕ) (told : Option ℕ) → admits left told ≡ true → (left ≡ 0) ⊎ (told ≡ Some (left - 1))
admitted zero told is = inl refl
admitted (suc left) None is = absurd (false≢true (ap (λ t. t || false) (sym (eqb-suc-zero left)) ∙ is))
admitted (suc left) (Some n) is = inr (ap Some (eqb-true n (suc left - 1) (ap (λ t. t || n == (suc left - 1)) (sym (eqb-suc-zero left)) ∙ is)))

pub not_admitted : (left : ℕ) (told : Option ℕ) → admits left told ≡ false → (0 < left) × (told ≡ Some (left - 1) → ⊥)
not_admitted zero told is = absurd (false≢true (sym is))
not_admitted (suc left) told is = (
  omega arith,
  λ same. false≢true
      (sym is ∙ ap (λ t. t || option_eq nat_eq told (Some (suc left - 1))) (eqb-suc-zero left) ∙ ap (λ told. option_eq nat_eq told (Some (suc left - 1))) same ∙ eq-eqb (suc left - 1) (suc left - 1) refl),
)

-- an edit that states no group comes where none has begun
pub admitted_alone : (left : ℕ) → admits left None ≡ true → left ≡ 0
admitted_alone zero is = refl
admitted_alone (suc left) is = absurd (false≢true (ap (λ t. t || false) (sym (eqb-suc-zero left)) ∙ is))

-- ---- one more edit of a group

pub falls_up_to : (left n : ℕ) (edits : List (List Field)) → IsFront left edits → admits left (Some n) ≡ true → falls (length edits + n) edits ≡ true
falls_up_to left n edits front is = by (admitted left (Some n) is)
  where
    by : ((left ≡ 0) ⊎ (Some n ≡ Some (left - 1))) → falls (length edits + n) edits ≡ true
    by (inl none) = subst (λ edits. falls (length edits + n) edits ≡ true) (sym (front.none none)) refl
    by (inr same) = some left front same
      where
        some : (left : ℕ) → IsFront left edits → Some n ≡ Some (left - 1) → falls (length edits + n) edits ≡ true
        some zero front same = subst (λ edits. falls (length edits + n) edits ≡ true) (sym (front.none refl)) refl
        some (suc left) front same =
            let n_is : n ≡ suc left - 1 = cc in
            let as_many : length edits + suc left - 1 ≡ length edits + n = omega (arith, n_is) in
            ap (λ k. falls k edits) (sym as_many) ∙ front.falling

pub falls_with : (left n : ℕ) (edits : List (List Field)) (edit : List Field) → IsFront left edits → admits left (Some n) ≡ true → stated group_in edit ≡ Some n → falls (length edits + n) (edits ++ edit ∷ []) ≡ true
falls_with left n edits edit front is told =
    let same : n ≡ length edits + n - length edits = omega arith in
    falls-push (length edits + n) edits edit (falls_up_to left n edits front is) (told ∙ ap Some same)

pub front-push : (left n : ℕ) (edits : List (List Field)) (edit : List Field) → IsFront left edits → admits left (Some n) ≡ true → stated group_in edit ≡ Some n → 0 < n → IsFront n (edits ++ edit ∷ [])
front-push left n edits edit front is told more =
    let longer : length (edits ++ edit ∷ []) + n - 1 ≡ length edits + n = omega (arith, length-append edits (edit ∷ [])) in
    record {
      falling = ap (λ k. falls k (edits ++ edit ∷ [])) longer ∙ falls_with left n edits edit front is told;
      none = λ none. absurd (omega arith);
      some = λ some. omega (arith, length-append edits (edit ∷ []));
    }
