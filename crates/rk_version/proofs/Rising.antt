-- Edits of things in rising number leave them so.
use Rattle.std.proofs.Common.{◌≡◌, ℕ, ◌<◌, ◌≤◌, Bool, true, false, cond, List, [], ◌∷◌, ◌++◌, map, filter, refl, arith}
use Rattle.std.specs.Prelude.{nat_lt}
use Rattle.std.specs.List.{AllByRecursion}
use Rattle.std.proofs.lemmas.Bool.{ltb-true}
use Rattle.rk_version.specs.Places.{Rises}
use Rattle.rk_version.proofs.Each.{each_so, each_append, each_filter, each_map}

pub rises_filter : {A : Type 0} (number : A → ℕ) (test : A → Bool) (xs : List A) → Rises number xs → Rises number (filter test xs)
rises_filter number test [] rises = tt
rises_filter {A} number test (x ∷ xs) rises = by (test x) (rises_filter number test xs rises.1)
  where
    by : (told : Bool) → Rises number (filter test xs) → Rises number (cond told (x ∷ filter test xs) (filter test xs))
    by true rest = (each_filter (λ y. number x < number y) test xs rises.0, rest)
    by false rest = rest

rises_append : {A : Type 0} (number : A → ℕ) (k : ℕ) (xs ys : List A) → Rises number xs → Rises number ys → AllByRecursion (λ x. number x < k) xs → AllByRecursion (λ y. k ≤ number y) ys → Rises number (xs ++ ys)
rises_append number k [] ys first second below above = second
rises_append number k (x ∷ xs) ys first second below above = (
  each_append (λ y. number x < number y) xs ys first.0 (each_so (λ y. k ≤ number y) (λ y. number x < number y) ys (λ y at. omega (arith, at, below.0)) above),
  rises_append number k xs ys first.1 second below.1 above,
)

kept : {A : Type 0} (test : A → Bool) (P : A → Type 0) (xs : List A) → ((x : A) → test x ≡ true → P x) → AllByRecursion P (filter test xs)
kept test P [] so = tt
kept {A} test P (x ∷ xs) so = by (test x) refl (kept test P xs so)
  where
    by : (told : Bool) → test x ≡ told → AllByRecursion P (filter test xs) → AllByRecursion P (cond told (x ∷ filter test xs) (filter test xs))
    by true told rest = (so x told, rest)
    by false told rest = rest

-- one more thing in its place
pub rises_with : {A : Type 0} (number : A → ℕ) (new : A) (xs : List A) → Rises number xs → Rises number (filter (λ x. nat_lt (number x) (number new)) xs ++ new ∷ filter (λ x. nat_lt (number new) (number x)) xs)
rises_with {A} number new xs rises =
    let above = kept (λ x. nat_lt (number new) (number x)) (λ x. number new < number x) xs (λ x told. ltb-true (number new) (number x) told) in
    let at_or_above : AllByRecursion (λ x. number new ≤ number x) (filter (λ x. nat_lt (number new) (number x)) xs) = each_so (λ x. number new < number x) (λ x. number new ≤ number x) (filter (λ x. nat_lt (number new) (number x)) xs) (λ x more. omega (arith, more)) above in
    rises_append number (number new) (filter (λ x. nat_lt (number x) (number new)) xs) (new ∷ filter (λ x. nat_lt (number new) (number x)) xs)
    (rises_filter number (λ x. nat_lt (number x) (number new)) xs rises)
    (above, rises_filter number (λ x. nat_lt (number new) (number x)) xs rises)
    (kept (λ x. nat_lt (number x) (number new)) (λ x. number x < number new) xs (λ x told. ltb-true (number x) (number new) told))
    (omega arith, at_or_above)

pub rises_map : {A B : Type 0} (number : A → ℕ) (other : B → ℕ) (f : A → B) (xs : List A) → ((x : A) → other (f x) ≡ number x) → Rises number xs → Rises other (map f xs)
rises_map number other f [] same rises = tt
rises_map number other f (x ∷ xs) same rises = (
  each_map (λ y. number x < number y) (λ z. other (f x) < other z) f xs (λ y less. omega (arith, less, same x, same y)) rises.0,
  rises_map number other f xs same rises.1,
)
