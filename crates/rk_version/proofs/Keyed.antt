-- Things in rising number, by what each number finds among them.
use Rattle.std.proofs.Common.{◌≡◌, ℕ, zero, suc, ◌+◌, ◌<◌, ◌≤◌, length, get_or, drop, append_assoc, add-one, drop-cons, Bool, true, false, not, cond, ◌⊎◌, inl, inr, List, [], ◌∷◌, ◌++◌, filter, Option, Some, None, refl, sym, ap, subst, ◌∙◌, arith}
use Rattle.std.specs.Prelude.{◌==◌, ◌||◌, nat_lt, find}
use Rattle.std.specs.List.{AllByRecursion, list_any, cons_option}
use Rattle.std.specs.Option.{option_or}
use Rattle.std.proofs.lemmas.Bool.{lt-ltb, le-ltb, eq-eqb, ne_eqb, eqb-true, both_ways, or_left}
use Rattle.std.proofs.lemmas.List.Folds.{find-append}
use Rattle.rk_version.specs.Keyed.{put, put_all, is_among, without_all, with_number, found_all}
use Rattle.rk_version.specs.Places.{Rises}
use Rattle.rk_version.proofs.Each.{each_so, each_append, each_filter}
use Rattle.rk_version.proofs.Rising.{rises_with}

-- one of two numbers is less, or they are the same
compared : (a b : ℕ) → (a < b) ⊎ ((a ≡ b) ⊎ (b < a))
compared zero zero = inr (inl refl)
compared zero (suc b) = inl (omega arith)
compared (suc a) zero = inr (inr (omega arith))
compared (suc a) (suc b) = elim (compared a b) [
  | inl less ↦ inl (omega arith)
  | inr more ↦ elim more [ inl same ↦ inr (inl (ap suc same)) | inr greater ↦ inr (inr (omega arith)) ]
]

or_none : {A : Type 0} (o : Option A) → option_or o None ≡ o
or_none None = refl
or_none (Some x) = refl

module _ {A : Type 0} (number : A → ℕ) where
  -- the thing that is found has the number
  pub found_has : (m : ℕ) (xs : List A) (x : A) → with_number number m xs ≡ Some x → number x ≡ m
  found_has m [] x e = absurd cc
  found_has m (y ∷ xs) x e = by (number y == m) refl e (found_has m xs x)
    where
      by : (told : Bool) → (number y == m) ≡ told → cond told (Some y) (with_number number m xs) ≡ Some x → (with_number number m xs ≡ Some x → number x ≡ m) → number x ≡ m
      by true is e next = let same : y ≡ x = cc in subst (λ x. number x ≡ m) same (eqb-true (number y) m is)
      by false is e next = next e

  -- nothing is found where all numbers are others
  pub none_found : (m : ℕ) (xs : List A) → AllByRecursion (λ x. number x ≡ m → ⊥) xs → with_number number m xs ≡ None
  none_found m [] all = refl
  none_found m (x ∷ xs) all = rw (ne_eqb (number x) m all.0) (none_found m xs all.1)

  -- what is found after a test of numbers
  pub found_left : (test : ℕ → Bool) (m : ℕ) (xs : List A) → with_number number m (filter (λ x. test (number x)) xs) ≡ cond (test m) (with_number number m xs) None
  found_left test m [] = by (test m) None
    where
      by : (told : Bool) (o : Option A) → o ≡ cond told o o
      by true o = refl
      by false o = refl
  found_left test m (x ∷ xs) = by (number x == m) refl (test (number x)) refl (found_left test m xs)
    where
      rest : List A
      rest = filter (λ x. test (number x)) xs

      kept : (told : Bool) → cond told (cond true (Some x) (with_number number m xs)) None ≡ cond told (Some x) None
      kept true = refl
      kept false = refl

      by : (here : Bool) → (number x == m) ≡ here → (passes : Bool) → test (number x) ≡ passes → with_number number m rest ≡ cond (test m) (with_number number m xs) None
          → with_number number m (cond passes (x ∷ rest) rest) ≡ cond (test m) (cond here (Some x) (with_number number m xs)) None
      by true is true passes so =
          let own : test m ≡ true = ap test (sym (eqb-true (number x) m is)) ∙ passes in
          rw (is, own) refl
      by true is false passes so =
          let own : test m ≡ false = ap test (sym (eqb-true (number x) m is)) ∙ passes in
          so ∙ rw (own) refl
      by false is true passes so = rw (is) so
      by false is false passes so = so

  -- what is found with one more thing
  pub found_put : (new : A) (m : ℕ) (xs : List A) → with_number number m (put number new xs) ≡ cond (number new == m) (Some new) (with_number number m xs)
  found_put new m xs =
      find-append (λ x. number x == m) (filter (λ x. nat_lt (number x) (number new)) xs) (new ∷ filter (λ x. nat_lt (number new) (number x)) xs)
      ∙ (λ i. option_or (found_left (λ n. nat_lt n (number new)) m xs i) (cond (number new == m) (Some new) (found_left (λ n. nat_lt (number new) n) m xs i)))
      ∙ elim (compared (number new) m) [
        | inl less ↦ rw (le-ltb m (number new) (omega arith), ne_eqb (number new) m (λ e. omega arith), lt-ltb (number new) m less) refl
        | inr more ↦ elim more [
          | inl same ↦ rw (le-ltb m (number new) (omega arith), eq-eqb (number new) m same) refl
          | inr greater ↦ rw (lt-ltb m (number new) greater, ne_eqb (number new) m (λ e. omega arith), le-ltb (number new) m (omega arith)) (or_none (with_number number m xs))
        ]
      ]

  -- after a test that the number fails nothing changes where the things with the number go first
  left_again : (test : ℕ → Bool) (n : ℕ) → test n ≡ false → (xs : List A) → filter (λ x. test (number x)) (filter (λ x. not (number x == n)) xs) ≡ filter (λ x. test (number x)) xs
  left_again test n fails [] = refl
  left_again test n fails (x ∷ xs) = by (number x == n) refl (test (number x)) refl (left_again test n fails xs)
    where
      gone : List A
      gone = filter (λ x. not (number x == n)) xs

      by : (here : Bool) → (number x == n) ≡ here → (passes : Bool) → test (number x) ≡ passes → filter (λ x. test (number x)) gone ≡ filter (λ x. test (number x)) xs
          → filter (λ x. test (number x)) (cond (not here) (x ∷ gone) gone) ≡ cond passes (x ∷ filter (λ x. test (number x)) xs) (filter (λ x. test (number x)) xs)
      by true is true passes so = absurd (both_ways (test n) fails (sym (ap test (eqb-true (number x) n is)) ∙ passes))
      by true is false passes so = so
      by false is true passes so = rw passes (ap (λ rest. x ∷ rest) so)
      by false is false passes so = rw passes so

  pub put_again : (new : A) (xs : List A) → put number new (filter (λ x. not (number x == number new)) xs) ≡ put number new xs
  put_again new xs =
      λ i. left_again (λ n. nat_lt n (number new)) (number new) (le-ltb (number new) (number new) (omega arith)) xs i
      ++ new ∷ left_again (λ n. nat_lt (number new) n) (number new) (le-ltb (number new) (number new) (omega arith)) xs i

  pub gone_of : (n : ℕ) (xs : List A) → list_any (λ x. number x == n) (filter (λ x. not (number x == n)) xs) ≡ false
  gone_of n [] = refl
  gone_of n (x ∷ xs) = by (number x == n) refl (gone_of n xs)
    where
      gone : List A
      gone = filter (λ x. not (number x == n)) xs

      by : (here : Bool) → (number x == n) ≡ here → list_any (λ x. number x == n) gone ≡ false → list_any (λ x. number x == n) (cond (not here) (x ∷ gone) gone) ≡ false
      by true is so = so
      by false is so = rw is so

  -- without one more of them
  pub without_more : (n : ℕ) (numbers : List ℕ) (xs : List A) → without_all number (n ∷ numbers) xs ≡ without_all number numbers (filter (λ x. not (number x == n)) xs)
  without_more n numbers [] = refl
  without_more n numbers (x ∷ xs) = by (number x == n) (is_among numbers (number x)) refl (without_more n numbers xs)
    where
      both : List A
      both = without_all number (n ∷ numbers) xs

      rest : List A
      rest = filter (λ x. not (number x == n)) xs

      by : (here : Bool) (among : Bool) → is_among numbers (number x) ≡ among → both ≡ without_all number numbers rest
          → cond (not (here || among)) (x ∷ both) both ≡ without_all number numbers (cond (not here) (x ∷ rest) rest)
      by true among is so = so
      by false true is so = rw is so
      by false false is so = rw is (ap (λ rest. x ∷ rest) so)

  pub without_none : (xs : List A) → without_all number [] xs ≡ xs
  without_none [] = refl
  without_none (x ∷ xs) = ap (λ rest. x ∷ rest) (without_none xs)

  pub each_put_all : (P : A → Type 0) (kept xs : List A) → AllByRecursion P kept → AllByRecursion P xs → AllByRecursion P (put_all number kept xs)
  each_put_all P [] xs all rest = rest
  each_put_all P (new ∷ kept) xs all rest =
      each_put_all P kept (put number new xs) all.1
      (each_append P (filter (λ x. nat_lt (number x) (number new)) xs) (new ∷ filter (λ x. nat_lt (number new) (number x)) xs)
      (each_filter P (λ x. nat_lt (number x) (number new)) xs rest) (all.0, each_filter P (λ x. nat_lt (number new) (number x)) xs rest))

  pub each_found : (P : A → Type 0) (all : List A) (numbers : List ℕ) → AllByRecursion P all → AllByRecursion P (found_all number all numbers)
  each_found P all [] each = tt
  each_found P all (n ∷ numbers) each = by (with_number number n all) refl (each_found P all numbers each)
    where
      one : (xs : List A) (x : A) → AllByRecursion P xs → with_number number n xs ≡ Some x → P x
      one [] x each e = absurd cc
      one (y ∷ xs) x each e = here (number y == n) e (one xs x each.1)
        where
          here : (told : Bool) → cond told (Some y) (with_number number n xs) ≡ Some x → (with_number number n xs ≡ Some x → P x) → P x
          here true e next = let same : y ≡ x = cc in subst P same each.0
          here false e next = next e

      by : (o : Option A) → with_number number n all ≡ o → AllByRecursion P (found_all number all numbers) → AllByRecursion P (cons_option o (found_all number all numbers))
      by None e rest = rest
      by (Some x) e rest = (one all x each e, rest)

  pub rises_put_all : (kept xs : List A) → Rises number xs → Rises number (put_all number kept xs)
  rises_put_all [] xs rises = rises
  rises_put_all (new ∷ kept) xs rises = rises_put_all kept (put number new xs) (rises_with number new xs rises)

  -- lists in which each number finds the same are the same
  pub same_found : (xs ys : List A) → Rises number xs → Rises number ys → ((m : ℕ) → with_number number m xs ≡ with_number number m ys) → xs ≡ ys
  same_found [] [] rx ry same = refl
  same_found [] (y ∷ ys) rx ry same = let e = same (number y) in absurd (one_there y ys e)
    where
      one_there : (y : A) (ys : List A) → None ≡ with_number number (number y) (y ∷ ys) → ⊥
      one_there y ys e = let own : with_number number (number y) (y ∷ ys) ≡ Some y = rw (eq-eqb (number y) (number y) refl) refl in cc
  same_found (x ∷ xs) [] rx ry same = let e = same (number x) in absurd (one_there x xs e)
    where
      one_there : (x : A) (xs : List A) → with_number number (number x) (x ∷ xs) ≡ None → ⊥
      one_there x xs e = let own : with_number number (number x) (x ∷ xs) ≡ Some x = rw (eq-eqb (number x) (number x) refl) refl in cc
  same_found (x ∷ xs) (y ∷ ys) rx ry same = elim (compared (number x) (number y)) [
    | inl less ↦ absurd (not_there x xs (y ∷ ys) (same (number x)) (less, each_so (λ z. number y < number z) (λ z. number x < number z) ys (λ z more. omega (arith, less, more)) ry.0))
    | inr more ↦ elim more [
      | inl equal ↦ (λ i. first equal i ∷ same_found xs ys rx.1 ry.1 (rest equal) i)
      | inr greater ↦ absurd (not_there y ys (x ∷ xs) (sym (same (number y))) (greater, each_so (λ z. number x < number z) (λ z. number y < number z) xs (λ z more. omega (arith, greater, more)) rx.0))
    ]
  ]
    where
      not_there : (x : A) (xs ys : List A) → with_number number (number x) (x ∷ xs) ≡ with_number number (number x) ys → AllByRecursion (λ z. number x < number z) ys → ⊥
      not_there x xs ys e above =
          let own : with_number number (number x) (x ∷ xs) ≡ Some x = rw (eq-eqb (number x) (number x) refl) refl in
          let none : with_number number (number x) ys ≡ None = none_found (number x) ys (each_so (λ z. number x < number z) (λ z. number z ≡ number x → ⊥) ys (λ z more e. omega (arith, more, e)) above) in
          cc

      first : number x ≡ number y → x ≡ y
      first equal =
          let own : with_number number (number x) (x ∷ xs) ≡ Some x = rw (eq-eqb (number x) (number x) refl) refl in
          let other : with_number number (number x) (y ∷ ys) ≡ Some y = rw (eq-eqb (number y) (number x) (sym equal)) refl in
          let e = same (number x) in
          cc

      rest : number x ≡ number y → (m : ℕ) → with_number number m xs ≡ with_number number m ys
      rest equal m = elim (compared (number x) m) [
        | inl less ↦ later m (λ e. omega (arith, less, e))
        | inr more ↦ elim more [
          | inl own ↦
              none_found m xs (each_so (λ z. number x < number z) (λ z. number z ≡ m → ⊥) xs (λ z above e. omega (arith, above, e, own)) rx.0)
              ∙ sym (none_found m ys (each_so (λ z. number y < number z) (λ z. number z ≡ m → ⊥) ys (λ z above e. omega (arith, above, e, own, equal)) ry.0))
          | inr greater ↦ later m (λ e. omega (arith, greater, e))
        ]
      ]
        where
          later : (m : ℕ) → (number x ≡ m → ⊥) → with_number number m xs ≡ with_number number m ys
          later m other =
              let here : with_number number m (x ∷ xs) ≡ with_number number m xs = rw (ne_eqb (number x) m other) refl in
              let there : with_number number m (y ∷ ys) ≡ with_number number m ys = rw (ne_eqb (number y) m (λ e. other (equal ∙ e))) refl in
              sym here ∙ same m ∙ there

  -- things of a list that are put back
  module _ (all : List A) where
    -- each of them is the one that its number finds in the list
    abbrev pub AreOf : List A → Type 0
    AreOf kept = AllByRecursion (λ k. with_number number (number k) all ≡ Some k) kept

    pub found_put_all : (kept xs : List A) (m : ℕ) → AreOf kept → (with_number number m kept ≡ None → with_number number m xs ≡ with_number number m all) → with_number number m (put_all number kept xs) ≡ with_number number m all
    found_put_all [] xs m of so = so refl
    found_put_all (k ∷ kept) xs m of so = found_put_all kept (put number k xs) m of.1 (λ none. by (number k == m) refl none)
      where
        by : (here : Bool) → (number k == m) ≡ here → with_number number m kept ≡ None → with_number number m (put number k xs) ≡ with_number number m all
        by true is none = found_put k m xs ∙ rw is (sym of.0 ∙ ap (λ n. with_number number n all) (eqb-true (number k) m is))
        by false is none =
            let absent : with_number number m (k ∷ kept) ≡ None = rw is none in
            found_put k m xs ∙ rw is (so absent)

    -- the list is there again
    pub put_back : (kept xs : List A) → Rises number all → Rises number xs → AreOf kept → ((m : ℕ) → with_number number m kept ≡ None → with_number number m xs ≡ with_number number m all) → put_all number kept xs ≡ all
    put_back kept xs rises rises' of so =
        same_found (put_all number kept xs) all (rises_put_all kept xs rises') rises (λ m. found_put_all kept xs m of (so m))

    -- those that are found of some numbers
    pub of_found : (numbers : List ℕ) → AreOf (found_all number all numbers)
    of_found [] = tt
    of_found (n ∷ numbers) = by (with_number number n all) refl (of_found numbers)
      where
        by : (o : Option A) → with_number number n all ≡ o → AreOf (found_all number all numbers) → AreOf (cons_option o (found_all number all numbers))
        by None e rest = rest
        by (Some x) e rest = (ap (λ n. with_number number n all) (found_has n all x e) ∙ e, rest)

    -- a number that isn't found among them isn't there, if it is one of the numbers
    pub not_kept : (numbers : List ℕ) (m : ℕ) → is_among numbers m ≡ true → with_number number m (found_all number all numbers) ≡ None → with_number number m all ≡ None
    not_kept [] m among none = absurd cc
    not_kept (n ∷ numbers) m among none = by (with_number number n all) refl (m == n) refl among none (not_kept numbers m)
      where
        none_some : (x : A) (o : Option A) → o ≡ None → o ≡ Some x → ⊥
        none_some x o none some = cc

        by : (o : Option A) → with_number number n all ≡ o → (here : Bool) → (m == n) ≡ here → (here || is_among numbers m) ≡ true → with_number number m (cons_option o (found_all number all numbers)) ≡ None
            → (is_among numbers m ≡ true → with_number number m (found_all number all numbers) ≡ None → with_number number m all ≡ None) → with_number number m all ≡ None
        by None e true is among none next = ap (λ n. with_number number n all) (eqb-true m n is) ∙ e
        by None e false is among none next = next among none
        by (Some x) e true is among none next =
            let has : number x ≡ m = found_has n all x e ∙ sym (eqb-true m n is) in
            let found : with_number number m (x ∷ found_all number all numbers) ≡ Some x = rw (eq-eqb (number x) m has) refl in
            absurd (none_some x _ none found)
        by (Some x) e false is among none next = next among (rest (number x == m) refl none)
          where
            rest : (here : Bool) → (number x == m) ≡ here → cond here (Some x) (with_number number m (found_all number all numbers)) ≡ None → with_number number m (found_all number all numbers) ≡ None
            rest true is none = absurd cc
            rest false is none = none

-- what holds of each holds of the one that is found
pub found_holds : {A : Type 0} (P : A → Type 0) (test : A → Bool) (xs : List A) (x : A) → AllByRecursion P xs → find test xs ≡ Some x → P x
found_holds P test [] x all e = absurd cc
found_holds {A} P test (y ∷ xs) x all e = by (test y) e (found_holds P test xs x all.1)
  where
    by : (told : Bool) → cond told (Some y) (find test xs) ≡ Some x → (find test xs ≡ Some x → P x) → P x
    by true e next = let same : y ≡ x = cc in subst P same all.0
    by false e next = next e

pub other_number : (numbers : List ℕ) (n m : ℕ) → is_among numbers n ≡ true → is_among numbers m ≡ false → n ≡ m → ⊥
other_number numbers n m there free same = both_ways (is_among numbers m) free (sym (ap (is_among numbers) same) ∙ there)

-- the numbers of a part are among these
abbrev pub Holds : List ℕ → List ℕ → Type 0
Holds numbers part = (n : ℕ) → is_among part n ≡ true → is_among numbers n ≡ true

pub own_among : (n : ℕ) (rest : List ℕ) → is_among (n ∷ rest) n ≡ true
own_among n rest = or_left (n == n) (is_among rest n) (eq-eqb n n refl)

left_number : (xs : List ℕ) (i : ℕ) → i < length xs → drop i xs ≡ get_or xs i 0 ∷ drop (i + 1) xs
left_number xs i in' = rw add-one (drop-cons xs i 0 in')

left_thing : {A : Type 0} (xs : List A) (i : ℕ) (d : A) → i < length xs → drop i xs ≡ get_or xs i d ∷ drop (i + 1) xs
left_thing xs i d in' = rw add-one (drop-cons xs i d in')

pub nothing_left : {A : Type 0} (xs : List A) (i : ℕ) → length xs ≤ i → drop i xs ≡ []
nothing_left [] zero past = refl
nothing_left [] (suc i) past = refl
nothing_left (x ∷ xs) zero past = absurd (omega arith)
nothing_left (x ∷ xs) (suc i) past = nothing_left xs i (omega arith)

-- steps of loops over numbers, and over things that are put among others
module _ {A : Type 0} (number : A → ℕ) where
  pub more_found : (all : List A) (numbers : List ℕ) (i : ℕ) → i < length numbers → (before now goal : List A) (x : A) → now ≡ before ++ x ∷ [] → with_number number (get_or numbers i 0) all ≡ Some x
      → before ++ found_all number all (drop i numbers) ≡ goal → now ++ found_all number all (drop (i + 1) numbers) ≡ goal
  more_found all numbers i in' before now goal x now_is found so =
      let rest = found_all number all (drop (i + 1) numbers) in
      ap (λ now. now ++ rest) now_is ∙ append_assoc before (x ∷ []) rest
      ∙ sym (ap (λ numbers. before ++ found_all number all numbers) (left_number numbers i in') ∙ ap (λ o. before ++ cons_option o rest) found) ∙ so

  pub none_more : (all : List A) (numbers : List ℕ) (i : ℕ) → i < length numbers → (before goal : List A) → with_number number (get_or numbers i 0) all ≡ None
      → before ++ found_all number all (drop i numbers) ≡ goal → before ++ found_all number all (drop (i + 1) numbers) ≡ goal
  none_more all numbers i in' before goal none so =
      sym (ap (λ numbers. before ++ found_all number all numbers) (left_number numbers i in') ∙ ap (λ o. before ++ cons_option o (found_all number all (drop (i + 1) numbers))) none) ∙ so

  pub put_more : (kept : List A) (i : ℕ) (d : A) → i < length kept → (before now goal : List A) → now ≡ put number (get_or kept i d) before → Rises number before × (put_all number (drop i kept) before ≡ goal)
      → Rises number now × (put_all number (drop (i + 1) kept) now ≡ goal)
  put_more kept i d in' before now goal now_is so = (
    subst (Rises number) (sym now_is) (rises_with number (get_or kept i d) before so.0),
    ap (put_all number (drop (i + 1) kept)) now_is ∙ sym (ap (λ kept. put_all number kept before) (left_thing kept i d in')) ∙ so.1,
  )

  pub gone_more : (numbers : List ℕ) (i : ℕ) → i < length numbers → (before now goal : List A) → now ≡ filter (λ x. not (number x == get_or numbers i 0)) before → without_all number (drop i numbers) before ≡ goal
      → without_all number (drop (i + 1) numbers) now ≡ goal
  gone_more numbers i in' before now goal now_is so =
      ap (without_all number (drop (i + 1) numbers)) now_is ∙ sym (without_more number (get_or numbers i 0) (drop (i + 1) numbers) before)
      ∙ sym (ap (λ numbers. without_all number numbers before) (left_number numbers i in')) ∙ so

  pub all_gone : (numbers : List ℕ) (i : ℕ) → length numbers ≤ i → (now goal : List A) → without_all number (drop i numbers) now ≡ goal → now ≡ goal
  all_gone numbers i past now goal so = sym (ap (λ numbers. without_all number numbers now) (nothing_left numbers i past) ∙ without_none number now) ∙ so
