-- What a search among things in rising number finds, and what edits make of them there.
use Rattle.std.proofs.Common.{◌≡◌, ℕ, zero, suc, ◌<◌, ◌≤◌, Bool, true, false, not, cond, List, [], ◌∷◌, ◌++◌, length, get_or, set, take, drop, map, filter, Some, None, Result, Ok, Err, is_ok, sym, refl, ap, subst, ◌∙◌, arith}
use Rattle.std.specs.Prelude.{◌==◌, ◌||◌, ◌&&◌, nat_lt, find}
use Rattle.std.specs.List.{AllByRecursion, list_any}
use Rattle.std.specs.List.Sorted.{IsSearchInRange, IsBinarySearchResult, IsNonDecreasingBy}
use Rattle.std.specs.Ordering.{nat_cmp, ordering_index}
use Rattle.std.proofs.lemmas.Bool.{lt-ltb, le-ltb, eq-eqb, ne_eqb, and_left, or_right}
use Rattle.std.proofs.lemmas.Bool.Decides.{nat_tests}
use Rattle.std.proofs.lemmas.Cmp.{ranked}
use Rattle.rk_version.specs.Places.{Rises, IsAt, IsFree, IsPlace}
use Rattle.rk_version.proofs.Each.{each_so}

comparison_rises : (a b n : ℕ) → a ≤ b → ordering_index (nat_cmp a n) ≤ ordering_index (nat_cmp b n)
comparison_rises a b n up = grind (arith, nat_tests)

or_none : (a b : Bool) → b ≡ false → (a || b) ≡ a
or_none true b e = refl
or_none false b e = e

module _ {A : Type 0} (number : A → ℕ) where
  pub each_at : (P : A → Type 0) (i : ℕ) (xs : List A) (d : A) → i < length xs → AllByRecursion P xs → P (get_or xs i d)
  each_at P i [] d in' all = absurd (omega arith)
  each_at P zero (x ∷ xs) d in' all = all.0
  each_at P (suc i) (x ∷ xs) d in' all = each_at P i xs d (omega arith) all.1

  front_so : (P : A → Type 0) (i : ℕ) (xs : List A) → i ≤ length xs → ((k : ℕ) (d : A) → k < i → P (get_or xs k d)) → AllByRecursion P (take i xs)
  front_so P zero xs in' at = tt
  front_so P (suc i) [] in' at = absurd (omega arith)
  front_so P (suc i) (x ∷ xs) in' at = (at 0 x (omega arith), front_so P i xs (omega arith) (λ k d less. at (suc k) d (omega arith)))

  pub rest_so : (P : A → Type 0) (i : ℕ) (xs : List A) → ((k : ℕ) (d : A) → i ≤ k → k < length xs → P (get_or xs k d)) → AllByRecursion P (drop i xs)
  rest_so P zero [] at = tt
  rest_so P zero (x ∷ xs) at = (at 0 x (omega arith) (omega arith), rest_so P 0 xs (λ k d more in'. at (suc k) d (omega arith) (omega arith)))
  rest_so P (suc i) [] at = tt
  rest_so P (suc i) (x ∷ xs) at = rest_so P i xs (λ k d more in'. at (suc k) d (omega arith) (omega arith))

  rises_at : (xs : List A) → Rises number xs → (i j : ℕ) (d : A) → i ≤ j → j < length xs → number (get_or xs i d) ≤ number (get_or xs j d)
  rises_at [] rises i j d order in' = absurd (omega arith)
  rises_at (x ∷ xs) rises zero zero d order in' = omega arith
  rises_at (x ∷ xs) rises zero (suc j) d order in' = let above = each_at (λ y. number x < number y) j xs d (omega arith) rises.0 in omega (arith, above)
  rises_at (x ∷ xs) rises (suc i) zero d order in' = absurd (omega arith)
  rises_at (x ∷ xs) rises (suc i) (suc j) d order in' = rises_at xs rises.1 i j d (omega arith) (omega arith)

  searchable : (n : ℕ) (xs : List A) → Rises number xs → IsNonDecreasingBy (λ x. ordering_index (nat_cmp (number x) n)) xs
  searchable n xs rises i j d order in' = comparison_rises (number (get_or xs i d)) (number (get_or xs j d)) n (rises_at xs rises i j d order in')

  pub lower_before : (n i : ℕ) (xs : List A) → i < length xs → Rises number xs → ((d : A) → number (get_or xs i d) ≡ n) → AllByRecursion (λ x. number x < n) (take i xs)
  lower_before n i [] in' rises here = absurd (omega arith)
  lower_before n zero (x ∷ xs) in' rises here = tt
  lower_before n (suc i) (x ∷ xs) in' rises here =
      let above = each_at (λ y. number x < number y) i xs x (omega arith) rises.0 in (omega (arith, above, here x), lower_before n i xs (omega arith) rises.1 here)

  pub greater_after : (n i : ℕ) (xs : List A) → i < length xs → Rises number xs → ((d : A) → number (get_or xs i d) ≡ n) → AllByRecursion (λ x. n < number x) (drop (suc i) xs)
  greater_after n i [] in' rises here = absurd (omega arith)
  greater_after n zero (x ∷ xs) in' rises here = each_so (λ y. number x < number y) (λ y. n < number y) xs (λ y more. omega (arith, more, here x)) rises.0
  greater_after n (suc i) (x ∷ xs) in' rises here = greater_after n i xs (omega arith) rises.1 here

  -- a binary search finds the number's place
  pub place_found : (n : ℕ) (xs : List A) (r : Result ℕ ℕ) → Rises number xs → IsSearchInRange r (length xs) → IsBinarySearchResult (λ x. nat_cmp (number x) n) xs r → IsPlace number n xs r
  place_found n xs (Ok place) rises in' equal =
      let here : (d : A) → number (get_or xs place d) ≡ n = λ d. ranked _ n _ (sym (equal d)) in
      record { within = in'; before = lower_before n place xs in' rises here; here = here; after = greater_after n place xs in' rises here }
  place_found n xs (Err place) rises in' parted =
      let facts = parted (searchable n xs rises) in
      record {
        within = in';
        before = front_so (λ x. number x < n) place xs in' (λ k d less. ranked _ n _ (sym (facts.0 k d (omega arith) less)));
        after = rest_so (λ x. n < number x) place xs (λ k d more less. ranked _ n _ (sym (facts.1 k d more less)));
      }

module _ {A : Type 0} (number : A → ℕ) (n : ℕ) where
  all_kept : (test : A → Bool) (xs : List A) → AllByRecursion (λ x. test x ≡ true) xs → filter test xs ≡ xs
  all_kept test [] all = refl
  all_kept test (x ∷ xs) all = rw all.0 (ap (λ rest. x ∷ rest) (all_kept test xs all.1))

  none_kept : (test : A → Bool) (xs : List A) → AllByRecursion (λ x. test x ≡ false) xs → filter test xs ≡ []
  none_kept test [] all = refl
  none_kept test (x ∷ xs) all = rw all.0 (none_kept test xs all.1)

  none_there : (test : A → Bool) (xs : List A) → AllByRecursion (λ x. test x ≡ false) xs → list_any test xs ≡ false
  none_there test [] all = refl
  none_there test (x ∷ xs) all = rw all.0 (none_there test xs all.1)

  abbrev is_n : A → Bool
  is_n x = number x == n

  not_lower : (xs : List A) → AllByRecursion (λ x. number x < n) xs → AllByRecursion (λ x. is_n x ≡ false) xs
  not_lower xs all = each_so (λ x. number x < n) (λ x. is_n x ≡ false) xs (λ x less. ne_eqb (number x) n (λ e. omega arith)) all

  not_greater : (xs : List A) → AllByRecursion (λ x. n < number x) xs → AllByRecursion (λ x. is_n x ≡ false) xs
  not_greater xs all = each_so (λ x. n < number x) (λ x. is_n x ≡ false) xs (λ x more. ne_eqb (number x) n (λ e. omega arith)) all

  others_kept : (xs : List A) → AllByRecursion (λ x. is_n x ≡ false) xs → filter (λ x. not (is_n x)) xs ≡ xs
  others_kept xs all = all_kept (λ x. not (is_n x)) xs (each_so (λ x. is_n x ≡ false) (λ x. not (is_n x) ≡ true) xs (λ x e. ap not e) all)

  pub removed : (place : ℕ) (xs : List A) → IsAt number n xs place → filter (λ x. not (is_n x)) xs ≡ take place xs ++ drop (suc place) xs
  removed place [] at = let in' = at.within in absurd (omega arith)
  removed zero (x ∷ xs) at = rw (eq-eqb (number x) n (at.here x)) (others_kept xs (not_greater xs at.after))
  removed (suc place) (x ∷ xs) at = rw (ne_eqb (number x) n (let less = at.before.0 in λ e. omega arith)) (ap (λ rest. x ∷ rest) (removed place xs (later at)))
    where
      later : IsAt number n (x ∷ xs) (suc place) → IsAt number n xs place
      later at = record { within = let in' = at.within in omega arith; before = at.before.1; here = at.here; after = at.after }

  pub there_at : (place : ℕ) (xs : List A) → IsAt number n xs place → list_any is_n xs ≡ true
  there_at place [] at = let in' = at.within in absurd (omega arith)
  there_at zero (x ∷ xs) at = rw (eq-eqb (number x) n (at.here x)) refl
  there_at (suc place) (x ∷ xs) at = or_right (is_n x) (list_any is_n xs) (there_at place xs (record { within = let in' = at.within in omega arith; before = at.before.1; here = at.here; after = at.after }))

  pub free_of : (place : ℕ) (xs : List A) → IsFree number n xs place → AllByRecursion (λ x. is_n x ≡ false) xs
  free_of zero xs free = not_greater xs free.after
  free_of (suc place) [] free = tt
  free_of (suc place) (x ∷ xs) free =
      (ne_eqb (number x) n (let less = free.before.0 in λ e. omega arith), free_of place xs (record { within = let in' = free.within in omega arith; before = free.before.1; after = free.after }))

  pub not_there : (place : ℕ) (xs : List A) → IsFree number n xs place → list_any is_n xs ≡ false
  not_there place xs free = none_there is_n xs (free_of place xs free)

  lower : (xs : List A) → AllByRecursion (λ x. number x < n) xs → filter (λ x. nat_lt (number x) n) xs ≡ xs
  lower xs all = all_kept (λ x. nat_lt (number x) n) xs (each_so (λ x. number x < n) (λ x. nat_lt (number x) n ≡ true) xs (λ x less. lt-ltb (number x) n less) all)

  no_lower : (xs : List A) → AllByRecursion (λ x. n < number x) xs → filter (λ x. nat_lt (number x) n) xs ≡ []
  no_lower xs all = none_kept (λ x. nat_lt (number x) n) xs (each_so (λ x. n < number x) (λ x. nat_lt (number x) n ≡ false) xs (λ x more. le-ltb (number x) n (omega (arith, more))) all)

  greater : (xs : List A) → AllByRecursion (λ x. n < number x) xs → filter (λ x. nat_lt n (number x)) xs ≡ xs
  greater xs all = all_kept (λ x. nat_lt n (number x)) xs (each_so (λ x. n < number x) (λ x. nat_lt n (number x) ≡ true) xs (λ x more. lt-ltb n (number x) more) all)

  -- the things below a number, and those above it, where it has a place
  pub front_at : (place : ℕ) (xs : List A) → IsFree number n xs place → filter (λ x. nat_lt (number x) n) xs ≡ take place xs
  front_at zero xs free = no_lower xs free.after
  front_at (suc place) [] free = refl
  front_at (suc place) (x ∷ xs) free =
      rw (lt-ltb (number x) n free.before.0) (ap (λ rest. x ∷ rest) (front_at place xs (record { within = let in' = free.within in omega arith; before = free.before.1; after = free.after })))

  pub rest_at : (place : ℕ) (xs : List A) → IsFree number n xs place → filter (λ x. nat_lt n (number x)) xs ≡ drop place xs
  rest_at zero xs free = greater xs free.after
  rest_at (suc place) [] free = refl
  rest_at (suc place) (x ∷ xs) free =
      let less = free.before.0 in
      rw (le-ltb n (number x) (omega arith)) (rest_at place xs (record { within = let in' = free.within in omega arith; before = free.before.1; after = free.after }))

  pub inserted : (place : ℕ) (xs : List A) (new : A) → IsFree number n xs place → take place xs ++ new ∷ drop place xs ≡ filter (λ x. nat_lt (number x) n) xs ++ new ∷ filter (λ x. nat_lt n (number x)) xs
  inserted place xs new free = λ i. sym (front_at place xs free) i ++ new ∷ sym (rest_at place xs free) i

  pub front_of_found : (place : ℕ) (xs : List A) → IsAt number n xs place → filter (λ x. nat_lt (number x) n) xs ≡ take place xs
  front_of_found place [] at = let in' = at.within in absurd (omega arith)
  front_of_found zero (x ∷ xs) at = rw (le-ltb (number x) n (let e = at.here x in omega arith)) (no_lower xs at.after)
  front_of_found (suc place) (x ∷ xs) at =
      rw (lt-ltb (number x) n at.before.0) (ap (λ rest. x ∷ rest) (front_of_found place xs (record { within = let in' = at.within in omega arith; before = at.before.1; here = at.here; after = at.after })))

  pub rest_of_found : (place : ℕ) (xs : List A) → IsAt number n xs place → filter (λ x. nat_lt n (number x)) xs ≡ drop (suc place) xs
  rest_of_found place [] at = let in' = at.within in absurd (omega arith)
  rest_of_found zero (x ∷ xs) at = rw (le-ltb n (number x) (let e = at.here x in omega arith)) (greater xs at.after)
  rest_of_found (suc place) (x ∷ xs) at =
      let less = at.before.0 in
      rw (le-ltb n (number x) (omega arith)) (rest_of_found place xs (record { within = let in' = at.within in omega arith; before = at.before.1; here = at.here; after = at.after }))

  -- the things with one of them changed
  abbrev pub changed : (A → A) → List A → List A
  changed change xs = map (λ x. cond (is_n x) (change x) x) xs

  unchanged : (change : A → A) (xs : List A) → AllByRecursion (λ x. is_n x ≡ false) xs → changed change xs ≡ xs
  unchanged change [] all = refl
  unchanged change (x ∷ xs) all = rw all.0 (ap (λ rest. x ∷ rest) (unchanged change xs all.1))

  pub changed_at : (change : A → A) (place : ℕ) (xs : List A) (d : A) → IsAt number n xs place → changed change xs ≡ set xs place (change (get_or xs place d))
  changed_at change place [] d at = let in' = at.within in absurd (omega arith)
  changed_at change zero (x ∷ xs) d at = rw (eq-eqb (number x) n (at.here x)) (ap (λ rest. change x ∷ rest) (unchanged change xs (not_greater xs at.after)))
  changed_at change (suc place) (x ∷ xs) d at =
      rw (ne_eqb (number x) n (let less = at.before.0 in λ e. omega arith)) (ap (λ rest. x ∷ rest) (changed_at change place xs d (record { within = let in' = at.within in omega arith; before = at.before.1; here = at.here; after = at.after })))

  -- a test of the thing with this number
  pub any_at : (test : A → Bool) (place : ℕ) (xs : List A) (d : A) → IsAt number n xs place → list_any (λ x. is_n x && test x) xs ≡ test (get_or xs place d)
  any_at test place [] d at = let in' = at.within in absurd (omega arith)
  any_at test zero (x ∷ xs) d at =
      rw (eq-eqb (number x) n (at.here x)) (or_none (test x) (list_any (λ x. is_n x && test x) xs) (none_there (λ x. is_n x && test x) xs (each_so (λ x. is_n x ≡ false) (λ x. (is_n x && test x) ≡ false) xs (λ x e. and_left (is_n x) (test x) e) (not_greater xs at.after))))
  any_at test (suc place) (x ∷ xs) d at =
      rw (ne_eqb (number x) n (let less = at.before.0 in λ e. omega arith)) (any_at test place xs d (record { within = let in' = at.within in omega arith; before = at.before.1; here = at.here; after = at.after }))

  pub any_free : (test : A → Bool) (place : ℕ) (xs : List A) → IsFree number n xs place → list_any (λ x. is_n x && test x) xs ≡ false
  any_free test place xs free = none_there (λ x. is_n x && test x) xs (each_so (λ x. is_n x ≡ false) (λ x. (is_n x && test x) ≡ false) xs (λ x e. and_left (is_n x) (test x) e) (free_of place xs free))

  -- what a search answers is whether a thing has the number
  pub answered : (xs : List A) (r : Result ℕ ℕ) → IsPlace number n xs r → is_ok r ≡ list_any is_n xs
  answered xs (Ok place) at = sym (there_at place xs at)
  answered xs (Err place) free = sym (not_there place xs free)

  -- nothing goes where none has the number
  pub none_removed : (place : ℕ) (xs : List A) → IsFree number n xs place → filter (λ x. not (is_n x)) xs ≡ xs
  none_removed place xs free = others_kept xs (free_of place xs free)

  pub unchanged_free : (change : A → A) (place : ℕ) (xs : List A) → IsFree number n xs place → changed change xs ≡ xs
  unchanged_free change place xs free = unchanged change xs (free_of place xs free)

  -- the changed thing is written in its place
  pub written : (change : A → A) (place : ℕ) (items xs : List A) (old new : A) → IsAt number n xs place → xs ≡ items → old ≡ get_or items place old → new ≡ change old → set items place new ≡ changed change items
  written change place items xs old new at same is new_is =
      let at' = subst (λ ys. IsAt number n ys place) same at in
      ap (set items place) (new_is ∙ ap change is) ∙ sym (changed_at change place items old at')

  -- another thing with this number takes the place of the one that has it
  pub replaced : (place : ℕ) (xs : List A) (new : A) → IsAt number n xs place → set xs place new ≡ filter (λ x. nat_lt (number x) n) xs ++ new ∷ filter (λ x. nat_lt n (number x)) xs
  replaced place xs new at = parts place xs at.within ∙ (λ i. sym (front_of_found place xs at) i ++ new ∷ sym (rest_of_found place xs at) i)
    where
      parts : (place : ℕ) (xs : List A) → place < length xs → set xs place new ≡ take place xs ++ new ∷ drop (suc place) xs
      parts place [] within = absurd (omega arith)
      parts zero (x ∷ xs) within = refl
      parts (suc place) (x ∷ xs) within = ap (λ rest. x ∷ rest) (parts place xs (omega arith))

  pub found_at : (place : ℕ) (xs : List A) (d : A) → IsAt number n xs place → find is_n xs ≡ Some (get_or xs place d)
  found_at place [] d at = let in' = at.within in absurd (omega arith)
  found_at zero (x ∷ xs) d at = rw (eq-eqb (number x) n (at.here x)) refl
  found_at (suc place) (x ∷ xs) d at =
      rw (ne_eqb (number x) n (let less = at.before.0 in λ e. omega arith)) (found_at place xs d (record { within = let in' = at.within in omega arith; before = at.before.1; here = at.here; after = at.after }))

  pub not_found : (place : ℕ) (xs : List A) → IsFree number n xs place → find is_n xs ≡ None
  not_found place xs free = none_found xs (free_of place xs free)
    where
      none_found : (xs : List A) → AllByRecursion (λ x. is_n x ≡ false) xs → find is_n xs ≡ None
      none_found [] all = refl
      none_found (x ∷ xs) all = rw all.0 (none_found xs all.1)
