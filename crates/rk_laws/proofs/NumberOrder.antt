-- Things in the rising order of their numbers.
use Rattle.std.proofs.Common.{◌≡◌, ℕ, zero, suc, ◌<◌, ◌≤◌, Bool, true, false, not, List, [], ◌∷◌, ◌++◌, length, cond, refl, arith}
use Rattle.std.proofs.lemmas.Bool.{ltb-true, ltb-false, le-leb, lt-leb, leb-true}
use Rattle.std.proofs.lemmas.List.Sorted.{IsPermutation-refl, IsPermutation-cons, IsPermutation-middle, IsPermutation-sym, IsPermutation-trans}
use Rattle.std.specs.Prelude.{filter, nat_lt, nat_le, slice_index_or}
use Rattle.std.specs.List.{AllByRecursion}
use Rattle.std.specs.List.Sorted.{IsPermutation, IsNonDecreasingBy}
use Rattle.rk_bytes.specs.Model.Opening.{in_order}
use Rattle.rk_laws.proofs.ReplayLaw.{all_append, all_map}

-- a number is below another, or the other isn't above it
other_way : (a n : ℕ) (b : Bool) → nat_lt a n ≡ b → nat_le n a ≡ not b
other_way a n true is = lt-leb n a (ltb-true a n is)
other_way a n false is = le-leb n a (ltb-false a n is)

all_at : {A : Type 0} (P : A → Type 0) (xs : List A) → AllByRecursion P xs → (j : ℕ) (d : A) → j < length xs → P (slice_index_or xs j d)
all_at P [] all j d inside = absurd (omega arith)
all_at P (x ∷ xs) all zero d inside = all.0
all_at P (x ∷ xs) all (suc j) d inside = all_at P xs all.1 j d (omega arith)

all_filter : {A : Type 0} (P : A → Type 0) (test : A → Bool) (xs : List A) → AllByRecursion P xs → AllByRecursion P (filter test xs)
all_filter P test [] all = tt
all_filter P test (x ∷ xs) all = by (test x) (all_filter P test xs all.1)
  where
    by : (b : Bool) → AllByRecursion P (filter test xs) → AllByRecursion P (cond b (x ∷ filter test xs) (filter test xs))
    by true later = (all.0, later)
    by false later = later

module _ {A : Type 0} (number : A → ℕ) where
  abbrev below : ℕ → List A → List A
  below n things = filter (λ other. nat_lt (number other) n) things

  abbrev from : ℕ → List A → List A
  from n things = filter (λ other. nat_le n (number other)) things

  -- each thing is below a number or isn't
  parted : (n : ℕ) (things : List A) → IsPermutation things (below n things ++ from n things)
  parted n [] = IsPermutation-refl []
  parted n (x ∷ xs) = by (nat_lt (number x) n) (nat_le n (number x)) (other_way (number x) n (nat_lt (number x) n) refl) (parted n xs)
    where
      by : (b c : Bool) → c ≡ not b → IsPermutation xs (below n xs ++ from n xs) → IsPermutation (x ∷ xs) (cond b (x ∷ below n xs) (below n xs) ++ cond c (x ∷ from n xs) (from n xs))
      by true true e later = cc
      by true false e later = IsPermutation-cons x xs (below n xs ++ from n xs) later
      by false true e later =
          IsPermutation-trans (x ∷ xs) (x ∷ (below n xs ++ from n xs)) (below n xs ++ x ∷ from n xs) (IsPermutation-cons x xs (below n xs ++ from n xs) later)
          (IsPermutation-sym (below n xs ++ x ∷ from n xs) (x ∷ (below n xs ++ from n xs)) (IsPermutation-middle (below n xs) x (from n xs)))
      by false false e later = cc

  pub in_order-same : (things : List A) → IsPermutation things (in_order number things)
  in_order-same [] = IsPermutation-refl []
  in_order-same (x ∷ xs) =
      let others = in_order number xs in
      let n = number x in
      IsPermutation-trans (x ∷ xs) (x ∷ others) (below n others ++ x ∷ from n others) (IsPermutation-cons x xs others (in_order-same xs))
      (IsPermutation-trans (x ∷ others) (x ∷ (below n others ++ from n others)) (below n others ++ x ∷ from n others) (IsPermutation-cons x others (below n others ++ from n others) (parted n others))
      (IsPermutation-sym (below n others ++ x ∷ from n others) (x ∷ (below n others ++ from n others)) (IsPermutation-middle (below n others) x (from n others))))

  -- no number falls
  Rises : List A → Type 0
  Rises [] = Unit {0}
  Rises (x ∷ xs) = AllByRecursion (λ y. number x ≤ number y) xs × Rises xs

  rises_filter : (test : A → Bool) (xs : List A) → Rises xs → Rises (filter test xs)
  unfolding Rises
  rises_filter test [] rises = tt
  rises_filter test (x ∷ xs) rises = by (test x) (rises_filter test xs rises.1)
    where
      by : (b : Bool) → Rises (filter test xs) → Rises (cond b (x ∷ filter test xs) (filter test xs))
      by true later = (all_filter (λ y. number x ≤ number y) test xs rises.0, later)
      by false later = later

  all_below : (n : ℕ) (xs : List A) → AllByRecursion (λ y. number y ≤ n) (below n xs)
  all_below n [] = tt
  all_below n (x ∷ xs) = by (nat_lt (number x) n) refl (all_below n xs)
    where
      by : (b : Bool) → nat_lt (number x) n ≡ b → AllByRecursion (λ y. number y ≤ n) (below n xs) → AllByRecursion (λ y. number y ≤ n) (cond b (x ∷ below n xs) (below n xs))
      by true is later = (let less : number x < n = ltb-true (number x) n is in omega arith, later)
      by false is later = later

  all_from : (n : ℕ) (xs : List A) → AllByRecursion (λ y. n ≤ number y) (from n xs)
  all_from n [] = tt
  all_from n (x ∷ xs) = by (nat_le n (number x)) refl (all_from n xs)
    where
      by : (b : Bool) → nat_le n (number x) ≡ b → AllByRecursion (λ y. n ≤ number y) (from n xs) → AllByRecursion (λ y. n ≤ number y) (cond b (x ∷ from n xs) (from n xs))
      by true is later = (leb-true n (number x) is, later)
      by false is later = later

  rises_joined : (m : ℕ) (xs ys : List A) → AllByRecursion (λ y. number y ≤ m) xs → AllByRecursion (λ y. m ≤ number y) ys → Rises xs → Rises ys → Rises (xs ++ ys)
  unfolding Rises
  rises_joined m [] ys low high rx ry = ry
  rises_joined m (x ∷ xs) ys low high rx ry =
      (all_append (λ y. number x ≤ number y) xs ys rx.0 (all_map (λ y. m ≤ number y) (λ y. number x ≤ number y) (λ y up. let down : number x ≤ m = low.0 in omega arith) ys high), rises_joined m xs ys low.1 high rx.1 ry)

  in_order_rises : (things : List A) → Rises (in_order number things)
  unfolding Rises
  in_order_rises [] = tt
  in_order_rises (x ∷ xs) =
      let others = in_order number xs in
      let n = number x in
      let later = in_order_rises xs in
      let same : n ≤ n = omega arith in
      rises_joined n (below n others) (x ∷ from n others) (all_below n others) (same, all_from n others) (rises_filter (λ other. nat_lt (number other) n) others later)
      (all_from n others, rises_filter (λ other. nat_le n (number other)) others later)

  rises_at : (xs : List A) → Rises xs → IsNonDecreasingBy number xs
  unfolding Rises
  rises_at [] rises i j d order inside = absurd (omega arith)
  rises_at (x ∷ xs) rises zero zero d order inside = omega arith
  rises_at (x ∷ xs) rises zero (suc j) d order inside = all_at (λ y. number x ≤ number y) xs rises.0 j d (omega arith)
  rises_at (x ∷ xs) rises (suc i) zero d order inside = absurd (omega arith)
  rises_at (x ∷ xs) rises (suc i) (suc j) d order inside = rises_at xs rises.1 i j d (omega arith) (omega arith)

  pub in_order-rises : (things : List A) → IsNonDecreasingBy number (in_order number things)
  in_order-rises things = rises_at (in_order number things) (in_order_rises things)
