-- The greatest of the numbers that pass a test is the last one that does, where they stand in order.
use Rattle.std.proofs.Common.{◌≡◌, ℕ, zero, suc, ◌+◌, ◌<◌, ◌≤◌, Bool, true, false, cond, List, [], ◌∷◌, ◌++◌, length, get_or, take, filter, fold, max, Option, Some, None, refl, sym, ap, ◌∙◌, arith}
use Rattle.std.specs.Prelude.{nat_lt, nat_le}
use Rattle.std.specs.List.{last_or, reduce}
use Rattle.std.proofs.lemmas.Bool.Decides.{nat_tests}
use Rattle.std.proofs.lemmas.List.{take_more}
use Rattle.std.proofs.lemmas.List.Elements.{filter-append}
use Rattle.rk_bytes.specs.Model.Opening.{in_order}
use Rattle.rk_open.proofs.OrderLemmas.{From, Rising, in_order-rising}

-- so many and one more, where there is one
abbrev told : ℕ → Option ℕ
told zero = None
told (suc n) = Some n

abbrev same : ℕ → ℕ
same n = n

module _ (p : ℕ → Bool) where
  -- one more than the greatest number that passes, and 0 with none
  abbrev top : List ℕ → ℕ
  top [] = 0
  top (n ∷ ns) = max (cond (p n) (suc n) 0) (top ns)

  folded : (a : ℕ) (ns : List ℕ) → suc (fold max a (filter p ns)) ≡ max (suc a) (top ns)
  folded a [] = omega arith
  folded a (n ∷ ns) = by (p n) (folded a ns) (folded (max a n) ns)
    where
      by : (b : Bool) → suc (fold max a (filter p ns)) ≡ max (suc a) (top ns) → suc (fold max (max a n) (filter p ns)) ≡ max (suc (max a n)) (top ns)
          → suc (fold max a (cond b (n ∷ filter p ns) (filter p ns))) ≡ max (suc a) (max (cond b (suc n) 0) (top ns))
      by true without with' = omega (arith, with')
      by false without with' = omega (arith, without)

  reduced : (ns : List ℕ) → reduce max (filter p ns) ≡ told (top ns)
  reduced [] = refl
  reduced (n ∷ ns) = by (p n) (reduced ns)
    where
      by : (b : Bool) → reduce max (filter p ns) ≡ told (top ns) → reduce max (cond b (n ∷ filter p ns) (filter p ns)) ≡ told (max (cond b (suc n) 0) (top ns))
      by true later = ap told (folded n ns)
      by false later = let e : top ns ≡ max 0 (top ns) = omega arith in later ∙ ap told e

  top-append : (ms ns : List ℕ) → top (ms ++ ns) ≡ max (top ms) (top ns)
  top-append [] ns = omega arith
  top-append (m ∷ ms) ns = let later = top-append ms ns in omega arith

  top-parted : (m : ℕ) (ns : List ℕ) → top ns ≡ max (top (filter (λ n. nat_lt n m) ns)) (top (filter (λ n. nat_le m n) ns))
  top-parted m [] = omega arith
  top-parted m (n ∷ ns) = by (nat_lt n m) refl (nat_le m n) refl (top-parted m ns)
    where
      by : (b : Bool) → nat_lt n m ≡ b → (c : Bool) → nat_le m n ≡ c → top ns ≡ max (top (filter (λ n. nat_lt n m) ns)) (top (filter (λ n. nat_le m n) ns))
          → max (cond (p n) (suc n) 0) (top ns) ≡ max (top (cond b (n ∷ filter (λ n. nat_lt n m) ns) (filter (λ n. nat_lt n m) ns))) (top (cond c (n ∷ filter (λ n. nat_le m n) ns) (filter (λ n. nat_le m n) ns)))
      by true e true h later = let one : n < m = grind (arith, nat_tests, e) in let two : m ≤ n = grind (arith, nat_tests, h) in absurd (omega (arith, one, two))
      by true e false h later = omega (arith, later)
      by false e true h later = omega (arith, later)
      by false e false h later = let one : m ≤ n = grind (arith, nat_tests, e) in let two : n < m = grind (arith, nat_tests, h) in absurd (omega (arith, one, two))

  top-in_order : (ns : List ℕ) → top (in_order same ns) ≡ top ns
  top-in_order [] = refl
  top-in_order (n ∷ ns) =
      let others = in_order same ns in
      let joined = top-append (filter (λ m. nat_lt m n) others) (n ∷ filter (λ m. nat_le n m) others) in
      let parted = top-parted n others in
      let later = top-in_order ns in
      omega (arith, joined, parted, later)

  last_from : (a : ℕ) (ns : List ℕ) → From same a ns → Rising same ns → last_or (Some a) (filter p ns) ≡ told (max (suc a) (top ns))
  last_from a [] from up = let e : suc a ≡ max (suc a) 0 = omega arith in ap told e
  last_from a (n ∷ ns) from up = by (p n) (last_from n ns up.0 up.1) (last_from a ns from.1 up.1)
    where
      by : (b : Bool) → last_or (Some n) (filter p ns) ≡ told (max (suc n) (top ns)) → last_or (Some a) (filter p ns) ≡ told (max (suc a) (top ns))
          → last_or (Some a) (cond b (n ∷ filter p ns) (filter p ns)) ≡ told (max (suc a) (max (cond b (suc n) 0) (top ns)))
      by true with' without = let e : max (suc n) (top ns) ≡ max (suc a) (max (suc n) (top ns)) = omega (arith, from.0) in with' ∙ ap told e
      by false with' without = let e : max (suc a) (top ns) ≡ max (suc a) (max 0 (top ns)) = omega arith in without ∙ ap told e

  last_of : (ns : List ℕ) → Rising same ns → last_or None (filter p ns) ≡ told (top ns)
  last_of [] up = refl
  last_of (n ∷ ns) up = by (p n) (last_from n ns up.0 up.1) (last_of ns up.1)
    where
      by : (b : Bool) → last_or (Some n) (filter p ns) ≡ told (max (suc n) (top ns)) → last_or None (filter p ns) ≡ told (top ns)
          → last_or None (cond b (n ∷ filter p ns) (filter p ns)) ≡ told (max (cond b (suc n) 0) (top ns))
      by true with' without = with'
      by false with' without = let e : top ns ≡ max 0 (top ns) = omega arith in without ∙ ap told e

  -- the greatest number that passes
  pub greatest_is_last : (ns : List ℕ) → reduce max (filter p ns) ≡ last_or None (filter p (in_order (λ n. n) ns))
  greatest_is_last ns = reduced ns ∙ sym (last_of (in_order same ns) (in_order-rising same ns) ∙ ap told (top-in_order ns))

  last-append : (o : Option ℕ) (ns : List ℕ) (n : ℕ) → last_or o (ns ++ n ∷ []) ≡ Some n
  last-append o [] n = refl
  last-append o (m ∷ ns) n = last-append (Some m) ns n

  append_none : (ns : List ℕ) → ns ++ [] ≡ ns
  append_none [] = refl
  append_none (n ∷ ns) = ap (λ l. n ∷ l) (append_none ns)

  -- the last one of the first so many and one more
  one_before : (ns : List ℕ) (k n : ℕ) → n ≡ get_or ns k 0 → k < length ns → filter p (take (k + 1) ns) ≡ filter p (take k ns) ++ filter p (n ∷ [])
  one_before ns k n is less =
      ap (filter p) (take_more ns k 0 less ∙ ap (λ n. take k ns ++ n ∷ []) (sym is)) ∙ filter-append p (take k ns) (n ∷ [])

  pub last_passes : (ns : List ℕ) (k n : ℕ) → n ≡ get_or ns k 0 → k < length ns → p n ≡ true → last_or None (filter p (take (k + 1) ns)) ≡ Some n
  last_passes ns k n is less passes =
      ap (last_or None) (one_before ns k n is less ∙ ap (λ b. filter p (take k ns) ++ cond b (n ∷ []) []) passes) ∙ last-append None (filter p (take k ns)) n

  pub last_fails : (ns : List ℕ) (k n : ℕ) → n ≡ get_or ns k 0 → k < length ns → p n ≡ false → last_or None (filter p (take (k + 1) ns)) ≡ last_or None (filter p (take k ns))
  last_fails ns k n is less fails =
      ap (last_or None) (one_before ns k n is less ∙ ap (λ b. filter p (take k ns) ++ cond b (n ∷ []) []) fails ∙ append_none (filter p (take k ns)))
