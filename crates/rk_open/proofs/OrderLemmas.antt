-- A stable sort by number puts things in the order of the definition.
use Rattle.std.proofs.Common.{◌≡◌, ℕ, suc, ◌<◌, ◌≤◌, Bool, true, false, cond, List, [], ◌∷◌, ◌++◌, length, get_or, map, refl, sym, ap, ◌∙◌, arith, ◌⊎◌, inl, inr}
use Rattle.std.specs.Prelude.{filter, not, ◌&&◌, nat_lt, nat_le}
use Rattle.std.specs.List.{AllByRecursion}
use Rattle.std.specs.List.Sorted.{IsNonDecreasingBy, IsStableByKey}
use Rattle.std.specs.Ordering.{nat_cmp, is_lt}
use Rattle.std.proofs.lemmas.Bool.Decides.{nat_tests}
use Rattle.std.proofs.lemmas.List.Elements.{filter-append}
use Rattle.rk_bytes.specs.Model.Opening.{in_order}

-- tests of two numbers that tie
abbrev tie : ℕ → ℕ → Bool
tie m n = not (is_lt (nat_cmp m n)) && not (is_lt (nat_cmp n m))

tied : (m n : ℕ) → m ≡ n → tie m n ≡ true
tied m n e = grind (arith, nat_tests)

untied : (m n : ℕ) → (m < n) ⊎ (n < m) → tie m n ≡ false
untied m n (inl less) = grind (arith, nat_tests)
untied m n (inr more) = grind (arith, nat_tests)

below_true : (m n : ℕ) → m < n → nat_lt m n ≡ true
below_true m n less = grind (arith, nat_tests)

below_false : (m n : ℕ) → n ≤ m → nat_lt m n ≡ false
below_false m n upto = grind (arith, nat_tests)

upto_true : (m n : ℕ) → m ≤ n → nat_le m n ≡ true
upto_true m n upto = grind (arith, nat_tests)

upto_false : (m n : ℕ) → n < m → nat_le m n ≡ false
upto_false m n less = grind (arith, nat_tests)

three_ways : (m n : ℕ) → (m < n) ⊎ ((m ≡ n) ⊎ (n < m))
three_ways m n = by (nat_lt m n) refl (nat_lt n m) refl
  where
    by : (b : Bool) → nat_lt m n ≡ b → (c : Bool) → nat_lt n m ≡ c → (m < n) ⊎ ((m ≡ n) ⊎ (n < m))
    by true e c h = let less : m < n = grind (arith, nat_tests, e) in inl less
    by false e true h = let more : n < m = grind (arith, nat_tests, h) in inr (inr more)
    by false e false h = let one : n ≤ m = grind (arith, nat_tests, e) in let two : m ≤ n = grind (arith, nat_tests, h) in let same : m ≡ n = omega arith in inr (inl same)

module _ {A : Type 0} where
  kept : (p : A → Bool) (x : A) (xs : List A) → p x ≡ true → filter p (x ∷ xs) ≡ x ∷ filter p xs
  kept p x xs e = ap (λ b. cond b (x ∷ filter p xs) (filter p xs)) e

  left_out : (p : A → Bool) (x : A) (xs : List A) → p x ≡ false → filter p (x ∷ xs) ≡ filter p xs
  left_out p x xs e = ap (λ b. cond b (x ∷ filter p xs) (filter p xs)) e

module _ {A : Type 0} (number : A → ℕ) where
  -- no thing has a number below this one
  abbrev pub From : ℕ → List A → Type 0
  From n xs = AllByRecursion (λ x. n ≤ number x) xs

  -- the numbers don't fall
  abbrev pub Rising : List A → Type 0
  Rising [] = Unit {0}
  Rising (x ∷ xs) = From (number x) xs × Rising xs

  -- the things that tie with one of this number
  abbrev those : ℕ → List A → List A
  those n xs = filter (λ x. tie n (number x)) xs

  none_below : (n m : ℕ) (xs : List A) → n < m → From m xs → those n xs ≡ []
  none_below n m [] less from = refl
  none_below n m (x ∷ xs) less from =
      let way : n < number x = omega (arith, from.0) in
      left_out (λ x. tie n (number x)) x xs (untied n (number x) (inl way)) ∙ none_below n m xs less from.1

  -- the first of things that don't fall, and of each number are the same, are the same
  first_alike : (x y : A) (xs ys : List A) → From (number x) xs → From (number y) ys → those (number x) (x ∷ xs) ≡ those (number x) (y ∷ ys) → those (number y) (x ∷ xs) ≡ those (number y) (y ∷ ys) → x ≡ y
  first_alike x y xs ys from from' same same' = by (three_ways (number x) (number y))
    where
      mine : those (number x) (x ∷ xs) ≡ x ∷ those (number x) xs
      mine = kept (λ y. tie (number x) (number y)) x xs (tied (number x) (number x) refl)

      other : those (number y) (y ∷ ys) ≡ y ∷ those (number y) ys
      other = kept (λ x. tie (number y) (number x)) y ys (tied (number y) (number y) refl)

      by : (number x < number y) ⊎ ((number x ≡ number y) ⊎ (number y < number x)) → x ≡ y
      by (inl less) =
          let none : those (number x) (y ∷ ys) ≡ [] = none_below (number x) (number y) (y ∷ ys) less (omega arith, from') in
          let no : x ∷ those (number x) xs ≡ [] = sym mine ∙ same ∙ none in absurd cc
      by (inr (inl e)) =
          let own : those (number x) (y ∷ ys) ≡ y ∷ those (number x) ys = kept (λ z. tie (number x) (number z)) y ys (tied (number x) (number y) e) in
          let joined : x ∷ those (number x) xs ≡ y ∷ those (number x) ys = sym mine ∙ same ∙ own in cc
      by (inr (inr less)) =
          let none : those (number y) (x ∷ xs) ≡ [] = none_below (number y) (number x) (x ∷ xs) less (omega arith, from) in
          let no : y ∷ those (number y) ys ≡ [] = sym other ∙ sym same' ∙ none in absurd cc

  rest_alike : (b : Bool) (z : A) (ps qs : List A) → cond b (z ∷ ps) ps ≡ cond b (z ∷ qs) qs → ps ≡ qs
  rest_alike true z ps qs e = cc
  rest_alike false z ps qs e = e

  -- things that don't fall, and of each number are the same, are the same
  only_rising : (xs ys : List A) → Rising xs → Rising ys → ((x : A) → those (number x) xs ≡ those (number x) ys) → xs ≡ ys
  only_rising [] [] up up' same = refl
  only_rising [] (y ∷ ys) up up' same = let no : [] ≡ y ∷ those (number y) ys = same y ∙ kept (λ x. tie (number y) (number x)) y ys (tied (number y) (number y) refl) in absurd cc
  only_rising (x ∷ xs) [] up up' same = let no : x ∷ those (number x) xs ≡ [] = sym (kept (λ y. tie (number x) (number y)) x xs (tied (number x) (number x) refl)) ∙ same x in absurd cc
  only_rising (x ∷ xs) (y ∷ ys) up up' same =
      let first = first_alike x y xs ys up.0 up'.0 (same x) (same y) in
      let later = only_rising xs ys up.1 up'.1 (λ z. rest_alike (tie (number z) (number x)) x (those (number z) xs) (those (number z) ys) (same z ∙ ap (λ y. those (number z) (y ∷ ys)) (sym first))) in
      λ i. first i ∷ later i

  -- the definition's order doesn't fall
  from_kept : (n : ℕ) (p : A → Bool) (xs : List A) → From n xs → From n (filter p xs)
  from_kept n p [] from = tt
  from_kept n p (x ∷ xs) from = by (p x) (from_kept n p xs from.1)
    where
      by : (b : Bool) → From n (filter p xs) → From n (cond b (x ∷ filter p xs) (filter p xs))
      by true later = (from.0, later)
      by false later = later

  rising_kept : (p : A → Bool) (xs : List A) → Rising xs → Rising (filter p xs)
  rising_kept p [] up = tt
  rising_kept p (x ∷ xs) up = by (p x) (rising_kept p xs up.1)
    where
      by : (b : Bool) → Rising (filter p xs) → Rising (cond b (x ∷ filter p xs) (filter p xs))
      by true later = (from_kept (number x) p xs up.0, later)
      by false later = later

  from_test : (n : ℕ) (xs : List A) → From n (filter (λ x. nat_le n (number x)) xs)
  from_test n [] = tt
  from_test n (x ∷ xs) = by (nat_le n (number x)) refl (from_test n xs)
    where
      by : (b : Bool) → nat_le n (number x) ≡ b → From n (filter (λ x. nat_le n (number x)) xs) → From n (cond b (x ∷ filter (λ x. nat_le n (number x)) xs) (filter (λ x. nat_le n (number x)) xs))
      by true e later = let here : n ≤ number x = grind (arith, nat_tests, e) in (here, later)
      by false e later = later

  -- each of the things has a number of at most this one
  abbrev UpTo : ℕ → List A → Type 0
  UpTo n xs = AllByRecursion (λ x. number x ≤ n) xs

  upto_test : (n : ℕ) (xs : List A) → UpTo n (filter (λ x. nat_lt (number x) n) xs)
  upto_test n [] = tt
  upto_test n (x ∷ xs) = by (nat_lt (number x) n) refl (upto_test n xs)
    where
      by : (b : Bool) → nat_lt (number x) n ≡ b → UpTo n (filter (λ x. nat_lt (number x) n) xs) → UpTo n (cond b (x ∷ filter (λ x. nat_lt (number x) n) xs) (filter (λ x. nat_lt (number x) n) xs))
      by true e later = let here : number x ≤ n = grind (arith, nat_tests, e) in (here, later)
      by false e later = later

  from_joined : (n m : ℕ) (xs ys : List A) → n ≤ m → From n xs → From m ys → From n (xs ++ ys)
  from_joined n m [] [] upto a b = tt
  from_joined n m [] (y ∷ ys) upto a b = let here : n ≤ number y = omega (arith, b.0) in (here, from_joined n m [] ys upto tt b.1)
  from_joined n m (x ∷ xs) ys upto a b = (a.0, from_joined n m xs ys upto a.1 b)

  rising_joined : (n : ℕ) (xs ys : List A) → Rising xs → UpTo n xs → Rising ys → From n ys → Rising (xs ++ ys)
  rising_joined n [] ys up upto up' from = up'
  rising_joined n (x ∷ xs) ys up upto up' from = (from_joined (number x) n xs ys upto.0 up.0 from, rising_joined n xs ys up.1 upto.1 up' from)

  pub in_order-rising : (xs : List A) → Rising (in_order number xs)
  in_order-rising [] = tt
  in_order-rising (x ∷ xs) =
      let others = in_order number xs in
      let n = number x in
      let up = in_order-rising xs in
      rising_joined n (filter (λ y. nat_lt (number y) n) others) (x ∷ filter (λ y. nat_le n (number y)) others)
      (rising_kept (λ y. nat_lt (number y) n) others up) (upto_test n others) (from_test n others, rising_kept (λ y. nat_le n (number y)) others up) (omega arith, from_test n others)

  -- and has the same of each number
  those_below : (n m : ℕ) (xs : List A) → n < m → those n (filter (λ x. nat_lt (number x) m) xs) ≡ those n xs
  those_below n m [] less = refl
  those_below n m (x ∷ xs) less = by (three_ways (number x) n) (those_below n m xs less)
    where
      out : those n (filter (λ x. nat_lt (number x) m) xs) ≡ those n xs → tie n (number x) ≡ false → (b : Bool) → those n (cond b (x ∷ filter (λ x. nat_lt (number x) m) xs) (filter (λ x. nat_lt (number x) m) xs)) ≡ those n (x ∷ xs)
      out later e true = left_out (λ x. tie n (number x)) x (filter (λ x. nat_lt (number x) m) xs) e ∙ later ∙ sym (left_out (λ x. tie n (number x)) x xs e)
      out later e false = later ∙ sym (left_out (λ x. tie n (number x)) x xs e)

      by : (number x < n) ⊎ ((number x ≡ n) ⊎ (n < number x)) → those n (filter (λ x. nat_lt (number x) m) xs) ≡ those n xs → those n (filter (λ x. nat_lt (number x) m) (x ∷ xs)) ≡ those n (x ∷ xs)
      by (inl less') later = out later (untied n (number x) (inr less')) (nat_lt (number x) m)
      by (inr (inl e)) later =
          let test : nat_lt (number x) m ≡ true = below_true (number x) m (omega arith) in
          let ties : tie n (number x) ≡ true = tied n (number x) (sym e) in
          ap (those n) (kept (λ x. nat_lt (number x) m) x xs test) ∙ kept (λ x. tie n (number x)) x (filter (λ x. nat_lt (number x) m) xs) ties ∙ ap (λ l. x ∷ l) later ∙ sym (kept (λ x. tie n (number x)) x xs ties)
      by (inr (inr more)) later = out later (untied n (number x) (inl more)) (nat_lt (number x) m)

  those_from : (n m : ℕ) (xs : List A) → m ≤ n → those n (filter (λ x. nat_le m (number x)) xs) ≡ those n xs
  those_from n m [] upto = refl
  those_from n m (x ∷ xs) upto = by (three_ways (number x) n) (those_from n m xs upto)
    where
      out : those n (filter (λ x. nat_le m (number x)) xs) ≡ those n xs → tie n (number x) ≡ false → (b : Bool) → those n (cond b (x ∷ filter (λ x. nat_le m (number x)) xs) (filter (λ x. nat_le m (number x)) xs)) ≡ those n (x ∷ xs)
      out later e true = left_out (λ x. tie n (number x)) x (filter (λ x. nat_le m (number x)) xs) e ∙ later ∙ sym (left_out (λ x. tie n (number x)) x xs e)
      out later e false = later ∙ sym (left_out (λ x. tie n (number x)) x xs e)

      by : (number x < n) ⊎ ((number x ≡ n) ⊎ (n < number x)) → those n (filter (λ x. nat_le m (number x)) xs) ≡ those n xs → those n (filter (λ x. nat_le m (number x)) (x ∷ xs)) ≡ those n (x ∷ xs)
      by (inl less) later = out later (untied n (number x) (inr less)) (nat_le m (number x))
      by (inr (inl e)) later =
          let test : nat_le m (number x) ≡ true = upto_true m (number x) (omega arith) in
          let ties : tie n (number x) ≡ true = tied n (number x) (sym e) in
          ap (those n) (kept (λ x. nat_le m (number x)) x xs test) ∙ kept (λ x. tie n (number x)) x (filter (λ x. nat_le m (number x)) xs) ties ∙ ap (λ l. x ∷ l) later ∙ sym (kept (λ x. tie n (number x)) x xs ties)
      by (inr (inr more)) later = out later (untied n (number x) (inl more)) (nat_le m (number x))

  -- none of this number is among those below, or above
  none_upto : (n m : ℕ) (xs : List A) → m ≤ n → those n (filter (λ x. nat_lt (number x) m) xs) ≡ []
  none_upto n m [] upto = refl
  none_upto n m (x ∷ xs) upto = by (nat_lt (number x) m) refl (none_upto n m xs upto)
    where
      by : (b : Bool) → nat_lt (number x) m ≡ b → those n (filter (λ x. nat_lt (number x) m) xs) ≡ [] → those n (cond b (x ∷ filter (λ x. nat_lt (number x) m) xs) (filter (λ x. nat_lt (number x) m) xs)) ≡ []
      by true e later =
          let less : number x < m = grind (arith, nat_tests, e) in
          left_out (λ x. tie n (number x)) x (filter (λ x. nat_lt (number x) m) xs) (untied n (number x) (inr (omega arith))) ∙ later
      by false e later = later

  those_joined : (n : ℕ) (x : A) (before after : List A) → those n (before ++ x ∷ after) ≡ those n before ++ those n (x ∷ after)
  those_joined n x before after = filter-append (λ x. tie n (number x)) before (x ∷ after)

  append_none : (xs : List A) → xs ++ [] ≡ xs
  append_none [] = refl
  append_none (x ∷ xs) = ap (λ l. x ∷ l) (append_none xs)

  parts-same : (n : ℕ) (x : A) (xs others : List A) → those n others ≡ those n xs → (n < number x) ⊎ ((n ≡ number x) ⊎ (number x < n))
      → those n (filter (λ y. nat_lt (number y) (number x)) others) ++ those n (x ∷ filter (λ y. nat_le (number x) (number y)) others) ≡ those n (x ∷ xs)
  parts-same n x xs others same (inl less) =
      let after = filter (λ y. nat_le (number x) (number y)) others in
      let out = untied n (number x) (inl less) in
      let none : those n after ≡ [] = none_below n (number x) after less (from_test (number x) others) in
      (λ i. those_below n (number x) others less i ++ (left_out (λ x. tie n (number x)) x after out ∙ none) i)
      ∙ append_none (those n others) ∙ same ∙ sym (left_out (λ x. tie n (number x)) x xs out)
  parts-same n x xs others same (inr (inl e)) =
      let after = filter (λ y. nat_le (number x) (number y)) others in
      let ties = tied n (number x) e in
      (λ i. none_upto n (number x) others (omega arith) i ++ (kept (λ x. tie n (number x)) x after ties ∙ ap (λ l. x ∷ l) (those_from n (number x) others (omega arith))) i)
      ∙ ap (λ l. x ∷ l) same ∙ sym (kept (λ x. tie n (number x)) x xs ties)
  parts-same n x xs others same (inr (inr more)) =
      let after = filter (λ y. nat_le (number x) (number y)) others in
      let out = untied n (number x) (inr more) in
      (λ i. none_upto n (number x) others (omega arith) i ++ (left_out (λ x. tie n (number x)) x after out ∙ those_from n (number x) others (omega arith)) i)
      ∙ same ∙ sym (left_out (λ x. tie n (number x)) x xs out)

  in_order-same : (n : ℕ) (xs : List A) → those n (in_order number xs) ≡ those n xs
  in_order-same n [] = refl
  in_order-same n (x ∷ xs) =
      let others = in_order number xs in
      those_joined n x (filter (λ y. nat_lt (number y) (number x)) others) (filter (λ y. nat_le (number x) (number y)) others)
      ∙ parts-same n x xs others (in_order-same n xs) (three_ways n (number x))

  -- what std says of a sort by number
  rising_sorted : (xs : List A) → IsNonDecreasingBy number xs → Rising xs
  rising_sorted [] up = tt
  rising_sorted (x ∷ xs) up = (from xs (λ k less. up 0 (suc k) x (omega arith) (omega arith)), rising_sorted xs (λ i j d upto less. up (suc i) (suc j) d (omega arith) (omega arith)))
    where
      from : (ys : List A) → ((k : ℕ) → k < length ys → number x ≤ number (get_or ys k x)) → From (number x) ys
      from [] h = tt
      from (y ∷ ys) h = (h 0 (omega arith), from ys (λ k less. h (suc k) (omega arith)))

  -- A stable sort of things by their numbers, which then don't fall, puts them in the definition's order.
  pub sorted_in_order : (xs ys : List A) → IsNonDecreasingBy number ys → IsStableByKey number nat_cmp xs ys → ys ≡ in_order number xs
  sorted_in_order xs ys up stable = only_rising ys (in_order number xs) (rising_sorted ys up) (in_order-rising xs) (λ x. stable x ∙ sym (in_order-same (number x) xs))

-- what is kept of things that others stand for
filter-map : {A B : Type 0} (f : A → B) (p : B → Bool) (xs : List A) → filter p (map f xs) ≡ map f (filter (λ x. p (f x)) xs)
filter-map f p [] = refl
filter-map f p (x ∷ xs) = by (p (f x)) (filter-map f p xs)
  where
    by : (b : Bool) → filter p (map f xs) ≡ map f (filter (λ x. p (f x)) xs) → cond b (f x ∷ filter p (map f xs)) (filter p (map f xs)) ≡ map f (cond b (x ∷ filter (λ x. p (f x)) xs) (filter (λ x. p (f x)) xs))
    by true e = ap (λ l. f x ∷ l) e
    by false e = e

map-append : {A B : Type 0} (f : A → B) (xs ys : List A) → map f (xs ++ ys) ≡ map f xs ++ map f ys
map-append f [] ys = refl
map-append f (x ∷ xs) ys = ap (λ l. f x ∷ l) (map-append f xs ys)

-- things that others stand for are ordered as these
pub in_order-map : {A B : Type 0} (f : A → B) (number : B → ℕ) (xs : List A) → in_order number (map f xs) ≡ map f (in_order (λ x. number (f x)) xs)
in_order-map f number [] = refl
in_order-map f number (x ∷ xs) =
    let others = in_order (λ x. number (f x)) xs in
    let m = number (f x) in
    let e = in_order-map f number xs in
    let below = ap (filter (λ other. nat_lt (number other) m)) e ∙ filter-map f (λ other. nat_lt (number other) m) others in
    let from = ap (filter (λ other. nat_le m (number other))) e ∙ filter-map f (λ other. nat_le m (number other)) others in
    (λ i. below i ++ f x ∷ from i) ∙ sym (map-append f (filter (λ x. nat_lt (number (f x)) m) others) (x ∷ filter (λ x. nat_le m (number (f x))) others))
