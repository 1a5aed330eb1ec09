-- Facts of each element of a list.
use Rattle.std.proofs.Common.{◌≡◌, Bool, true, false, cond, List, [], ◌∷◌, ◌++◌, map, filter, refl, ap, ◌∙◌, inl, inr}
use Rattle.std.specs.Prelude.{flat_map, ◌&&◌}
use Rattle.std.specs.List.{AllByRecursion, list_any, list_all}
use Rattle.std.proofs.lemmas.Bool.{false≢true, or_parts, or_cases}

-- elements of which none passes a test, and of which one does
pub none_passes : {A : Type 0} (test : A → Bool) (xs : List A) → list_any test xs ≡ false → AllByRecursion (λ x. test x ≡ false) xs
none_passes test [] e = tt
none_passes test (x ∷ xs) e = let (first, more) = or_parts (test x) (list_any test xs) e in (first, none_passes test xs more)

pub one_passes : {A : Type 0} (test : A → Bool) (P : A → Type 0) (xs : List A) → list_any test xs ≡ true → AllByRecursion P xs → (x : A) × (test x ≡ true) × P x
one_passes test P [] e all = absurd (false≢true e)
one_passes test P (x ∷ xs) e all = elim (or_cases (test x) (list_any test xs) e) [
  | inl first ↦ (x, first, all.0)
  | inr more ↦ one_passes test P xs more all.1
]

pub each_so : {A : Type 0} (P Q : A → Type 0) (xs : List A) → ((x : A) → P x → Q x) → AllByRecursion P xs → AllByRecursion Q xs
each_so P Q [] so all = tt
each_so P Q (x ∷ xs) so all = (so x all.0, each_so P Q xs so all.1)

pub each_is : {A : Type 0} (P : A → Type 0) (xs : List A) → ((x : A) → P x) → AllByRecursion P xs
each_is P [] so = tt
each_is P (x ∷ xs) so = (so x, each_is P xs so)

pub each_both : {A : Type 0} (P Q : A → Type 0) (xs : List A) → AllByRecursion P xs → AllByRecursion Q xs → AllByRecursion (λ x. P x × Q x) xs
each_both P Q [] p q = tt
each_both P Q (x ∷ xs) p q = ((p.0, q.0), each_both P Q xs p.1 q.1)

pub each_append : {A : Type 0} (P : A → Type 0) (xs ys : List A) → AllByRecursion P xs → AllByRecursion P ys → AllByRecursion P (xs ++ ys)
each_append P [] ys p q = q
each_append P (x ∷ xs) ys p q = (p.0, each_append P xs ys p.1 q)

pub each_parts : {A : Type 0} (P : A → Type 0) (xs ys : List A) → AllByRecursion P (xs ++ ys) → AllByRecursion P xs × AllByRecursion P ys
each_parts P [] ys all = (tt, all)
each_parts P (x ∷ xs) ys all = let (first, more) = each_parts P xs ys all.1 in ((all.0, first), more)

pub each_filter : {A : Type 0} (P : A → Type 0) (test : A → Bool) (xs : List A) → AllByRecursion P xs → AllByRecursion P (filter test xs)
each_filter P test [] p = tt
each_filter {A} P test (x ∷ xs) p = by (test x) (each_filter P test xs p.1)
  where
    by : (told : Bool) → AllByRecursion P (filter test xs) → AllByRecursion P (cond told (x ∷ filter test xs) (filter test xs))
    by true rest = (p.0, rest)
    by false rest = rest

pub each_map : {A B : Type 0} (P : A → Type 0) (Q : B → Type 0) (f : A → B) (xs : List A) → ((x : A) → P x → Q (f x)) → AllByRecursion P xs → AllByRecursion Q (map f xs)
each_map P Q f [] so p = tt
each_map P Q f (x ∷ xs) so p = (so x p.0, each_map P Q f xs so p.1)

pub each_flat_map : {A B : Type 0} (P : B → Type 0) (f : A → List B) (xs : List A) → AllByRecursion (λ x. AllByRecursion P (f x)) xs → AllByRecursion P (flat_map f xs)
each_flat_map P f [] p = tt
each_flat_map P f (x ∷ xs) p = each_append P (f x) (flat_map f xs) p.0 (each_flat_map P f xs p.1)

-- two tests that agree on each element
pub same_list_all : {A : Type 0} (p q : A → Bool) (xs : List A) → AllByRecursion (λ x. p x ≡ q x) xs → list_all p xs ≡ list_all q xs
same_list_all p q [] same = refl
same_list_all p q (x ∷ xs) same = ap (λ t. t && list_all p xs) same.0 ∙ ap (λ t. q x && t) (same_list_all p q xs same.1)
