-- Files that overlap at a level stand side by side, where files stand in order.
use Rattle.std.proofs.Common.{◌≡◌, ℕ, ◌<◌, ◌≤◌, Bool, true, false, not, cond, List, [], ◌∷◌, map, filter, fold, min, Option, Some, None, ◌⊎◌, inl, inr, refl, sym, ap, subst, ◌∙◌, arith}
use Rattle.std.specs.Prelude.{◌==◌, ◌||◌, ◌&&◌, nat_lt}
use Rattle.std.specs.List.{AllByRecursion, list_any, list_all, reduce}
use Rattle.std.specs.List.Sorted.{IsPermutation}
use Rattle.std.specs.declared.cmp.Ordering.TheVariants.{Less}
use Rattle.std.specs.Ordering.{is_lt}
use Rattle.std.proofs.lemmas.Bool.{both_ways, eqb-true, eq-eqb, ne_eqb, ltb-true, lt-ltb, ltb-false, and_parts, and_from, and_right, or_left, or_right, or_cases, cond-true, cond-false, false_from_ne_true}
use Rattle.std.proofs.lemmas.List.Sorted.{IsPermutation-sym, list_any-IsPermutation}
use Rattle.rk_bytes.specs.declared.model.manifest.FileMeta.{FileMeta}
use Rattle.rk_bytes.specs.Model.Manifest.{comes_before, ends_below, are_apart, overlap_at, overlapping_level}
use Rattle.rk_version.specs.Spots.{file_cmp, clash, first_clash}
use Rattle.rk_version.proofs.Each.{each_so, each_is, each_both, each_passes, all_pass, each_left, each_passing, each_moved}
use Rattle.rk_version.proofs.FileOrder.{level_up, before, not_after, not_itself, ends_further}

-- files in order
abbrev pub InTurn : List FileMeta → Type 0
InTurn [] = Unit {0}
InTurn (x ∷ xs) = AllByRecursion (λ y. file_cmp x y ≡ Less) xs × InTurn xs

-- a level is below the one that is found, if one is
abbrev Under : ℕ → Option ℕ → Type 0
Under level None = Unit {0}
Under level (Some found) = level < found

module _ (level : ℕ) where
  abbrev here : FileMeta → Bool
  here file = file.level == level

  abbrev apart : FileMeta → FileMeta → Bool
  apart a b = not (comes_before a b) || ends_below a b

  -- the two files are apart, if both are at the level
  abbrev Both : FileMeta → FileMeta → Type 0
  Both a b = here a ≡ true → here b ≡ true → apart a b ≡ true

  abbrev Pairs : List FileMeta → Type 0
  Pairs files = AllByRecursion (λ a. AllByRecursion (λ b. Both a b) files) files

  apart_from_pairs : (files : List FileMeta) → Pairs files → are_apart (filter here files) ≡ true
  apart_from_pairs files pairs =
      let kept = filter here files in
      all_pass (λ a. list_all (λ b. apart a b) kept) kept
      (each_left (λ a. list_all (λ b. apart a b) kept ≡ true) here files (each_so (λ a. AllByRecursion (λ b. Both a b) files) (λ a. here a ≡ true → list_all (λ b. apart a b) kept ≡ true) files
      (λ a all a_here. all_pass (λ b. apart a b) kept (each_left (λ b. apart a b ≡ true) here files (each_so (λ b. Both a b) (λ b. here b ≡ true → apart a b ≡ true) files (λ b so b_here. so a_here b_here) all))) pairs))

  pairs_from_apart : (files : List FileMeta) → are_apart (filter here files) ≡ true → Pairs files
  pairs_from_apart files e =
      let kept = filter here files in
      each_so (λ a. here a ≡ true → list_all (λ b. apart a b) kept ≡ true) (λ a. AllByRecursion (λ b. Both a b) files) files
      (λ a so. elim_here a so (here a) refl)
      (each_passing (λ a. list_all (λ b. apart a b) kept ≡ true) here files (each_passes (λ a. list_all (λ b. apart a b) kept) kept e))
    where
      elim_here : (a : FileMeta) → (here a ≡ true → list_all (λ b. apart a b) (filter here files) ≡ true) → (told : Bool) → here a ≡ told → AllByRecursion (λ b. Both a b) files
      elim_here a so true is_so =
          each_so (λ b. here b ≡ true → apart a b ≡ true) (λ b. Both a b) files (λ b so a_here b_here. so b_here)
          (each_passing (λ b. apart a b ≡ true) here files (each_passes (λ b. apart a b) (filter here files) (so is_so)))
      elim_here a so false is_not = each_is (λ b. Both a b) files (λ b is_so b_here. absurd (both_ways (here a) is_not is_so))

  moved_pairs : (xs ys : List FileMeta) → IsPermutation xs ys → Pairs xs → Pairs ys
  moved_pairs xs ys moved pairs =
      each_moved (λ a. AllByRecursion (λ b. Both a b) ys) xs ys moved
      (each_so (λ a. AllByRecursion (λ b. Both a b) xs) (λ a. AllByRecursion (λ b. Both a b) ys) xs (λ a all. each_moved (λ b. Both a b) xs ys moved all) pairs)

  both_from_less : (a b : FileMeta) → file_cmp a b ≡ Less → Both b a
  both_from_less a b e b_here a_here =
      let same : a.level ≡ b.level = eqb-true a.level level a_here ∙ sym (eqb-true b.level level b_here) in
      or_left (not (comes_before b a)) (ends_below b a) (ap not (not_after a b (before a b same e)))

  both_itself : (a : FileMeta) → Both a a
  both_itself a once twice = or_left (not (comes_before a a)) (ends_below a a) (ap not (not_itself a))

  -- neighbours at the level
  no_clash : (a b : FileMeta) (rest : List FileMeta) → 0 < level → Under level (first_clash (a ∷ b ∷ rest)) → here a ≡ true → here b ≡ true → ends_below a b ≡ true
  no_clash a b rest positive under a_here b_here = by (ends_below a b) refl
    where
      by : (told : Bool) → ends_below a b ≡ told → ends_below a b ≡ true
      by true e = e
      by false e =
          let a_at = eqb-true a.level level a_here in
          let b_at = eqb-true b.level level b_here in
          let found : clash a b ≡ true =
          and_from (nat_lt 0 a.level) (a.level == b.level && not (ends_below a b)) (lt-ltb 0 a.level (omega arith)) (and_from (a.level == b.level) (not (ends_below a b)) (eq-eqb a.level b.level (a_at ∙ sym b_at)) (ap not e)) in
          let above : Under level (Some a.level) = subst (Under level) (cond-true (clash a b) (Some a.level) (first_clash (b ∷ rest)) found) under in
          absurd (omega arith)

  apart_first : (a : FileMeta) (files : List FileMeta) → InTurn (a ∷ files) → 0 < level → Under level (first_clash (a ∷ files)) → AllByRecursion (λ b. Both a b) files
  apart_first a [] turn positive under = tt
  apart_first a (b ∷ rest) turn positive under = (
    (λ a_here b_here. or_right (not (comes_before a b)) (ends_below a b) (no_clash a b rest positive under a_here b_here)),
    each_so (λ c. (file_cmp a c ≡ Less) × (file_cmp b c ≡ Less)) (λ c. Both a c) rest (λ c less a_here c_here.
        let a_at = eqb-true a.level level a_here in
        let c_at = eqb-true c.level level c_here in
        let up = level_up a b turn.0.0 in
        let further = level_up b c less.1 in
        let b_at : b.level ≡ level = omega (arith, up, further, a_at, c_at) in
        or_right (not (comes_before a c)) (ends_below a c)
        (ends_further a b c (no_clash a b rest positive under a_here (eq-eqb b.level level b_at)) (before b c (b_at ∙ sym c_at) less.1)))
        (each_both (λ c. file_cmp a c ≡ Less) (λ c. file_cmp b c ≡ Less) rest turn.0.1 turn.1.0),
  )

  with_first : (a : FileMeta) (files : List FileMeta) → InTurn (a ∷ files) → AllByRecursion (λ b. Both a b) files → Pairs files → Pairs (a ∷ files)
  with_first a files turn first pairs = (
    (both_itself a, first),
    each_both (λ b. Both b a) (λ b. AllByRecursion (λ c. Both b c) files) files (each_so (λ b. file_cmp a b ≡ Less) (λ b. Both b a) files (λ b e. both_from_less a b e) turn.0) pairs,
  )

  none_here : (files : List FileMeta) → AllByRecursion (λ a. here a ≡ false) files → Pairs files
  none_here files none =
      each_so (λ a. here a ≡ false) (λ a. AllByRecursion (λ b. Both a b) files) files (λ a is_not. each_is (λ b. Both a b) files (λ b is_so b_here. absurd (both_ways (here a) is_not is_so))) none

  -- below the first clash files are apart
  pub apart_under : (files : List FileMeta) → InTurn files → 0 < level → Under level (first_clash files) → Pairs files
  apart_under [] turn positive under = tt
  apart_under (a ∷ []) turn positive under = with_first a [] turn tt tt
  apart_under (a ∷ b ∷ rest) turn positive under = by (clash a b) refl (λ below. apart_under (b ∷ rest) turn.1 positive below)
    where
      by : (told : Bool) → clash a b ≡ told → (Under level (first_clash (b ∷ rest)) → Pairs (b ∷ rest)) → Pairs (a ∷ b ∷ rest)
      by true e later =
          let above : Under level (Some a.level) = subst (Under level) (cond-true (clash a b) (Some a.level) (first_clash (b ∷ rest)) e) under in
          none_here (a ∷ b ∷ rest) (
            ne_eqb a.level level (λ same. omega arith),
            each_so (λ c. file_cmp a c ≡ Less) (λ c. here c ≡ false) (b ∷ rest) (λ c less. let up = level_up a c less in ne_eqb c.level level (λ same. omega arith)) turn.0,
          )
      by false e later =
          with_first a (b ∷ rest) turn (apart_first a (b ∷ rest) turn positive under)
          (later (subst (Under level) (cond-false (clash a b) (Some a.level) (first_clash (b ∷ rest)) e) under))

-- what the first clash says of its level
record IsClash (level : ℕ) (files : List FileMeta) : Type 0 where
  positive : 0 < level
  there : list_any (λ file. file.level == level) files ≡ true
  overlap : Pairs level files → ⊥

clashes : (files : List FileMeta) (level : ℕ) → InTurn files → first_clash files ≡ Some level → IsClash level files
clashes [] level turn e = absurd cc
clashes (a ∷ []) level turn e = absurd cc
clashes (a ∷ b ∷ rest) level turn e = by (clash a b) refl (λ e. clashes (b ∷ rest) level turn.1 e)
  where
    by : (told : Bool) → clash a b ≡ told → (first_clash (b ∷ rest) ≡ Some level → IsClash level (b ∷ rest)) → IsClash level (a ∷ b ∷ rest)
    by true found go_on =
        let (positive, more) = and_parts (nat_lt 0 a.level) (a.level == b.level && not (ends_below a b)) found in
        let (same, over) = and_parts (a.level == b.level) (not (ends_below a b)) more in
        let found_at : Some a.level ≡ Some level = sym (cond-true (clash a b) (Some a.level) (first_clash (b ∷ rest)) found) ∙ e in
        let a_at : a.level ≡ level = cc in
        let b_at : b.level ≡ level = sym (eqb-true a.level b.level same) ∙ a_at in
        let a_positive = ltb-true 0 a.level positive in
        record {
          positive = omega arith;
          there = or_left (a.level == level) (list_any (λ file. file.level == level) (b ∷ rest)) (eq-eqb a.level level a_at);
          overlap = λ pairs.
              let fine = pairs.0.1.0 (eq-eqb a.level level a_at) (eq-eqb b.level level b_at) in
              let first : comes_before a b ≡ true = ap is_lt (before a b (eqb-true a.level b.level same) turn.0.0) in
              elim (or_cases (not (comes_before a b)) (ends_below a b) fine) [
                | inl is_not ↦ both_ways (not (comes_before a b)) (ap not first) is_not
                | inr ends ↦ both_ways (not (ends_below a b)) (ap not ends) over
              ];
        }
    by false none go_on =
        let later = go_on (sym (cond-false (clash a b) (Some a.level) (first_clash (b ∷ rest)) none) ∙ e) in
        record {
          positive = later.positive;
          there = or_right (a.level == level) (list_any (λ file. file.level == level) (b ∷ rest)) later.there;
          overlap = λ pairs. later.overlap (each_so (λ x. Both level x a × AllByRecursion (λ y. Both level x y) (b ∷ rest)) (λ x. AllByRecursion (λ y. Both level x y) (b ∷ rest)) (b ∷ rest) (λ x both. both.1) pairs.1);
        }

list_any-map : {A B : Type 0} (test : B → Bool) (f : A → B) (xs : List A) → list_any test (map f xs) ≡ list_any (λ x. test (f x)) xs
list_any-map test f [] = refl
list_any-map test f (x ∷ xs) = ap (λ later. test (f x) || later) (list_any-map test f xs)

-- the least of numbers
least_of : (n first : ℕ) (more : List ℕ) → n ≤ first → AllByRecursion (λ x. n ≤ x) more → (first ≡ n) ⊎ (list_any (λ x. x == n) more ≡ true) → fold min first more ≡ n
least_of n first [] up all (inl same) = same
least_of n first [] up all (inr there) = absurd cc
least_of n first (x ∷ more) up all (inl same) = least_of n (min first x) more (omega (arith, all.0)) all.1 (inl (omega (arith, all.0)))
least_of n first (x ∷ more) up all (inr there) = elim (or_cases (x == n) (list_any (λ x. x == n) more) there) [
  | inl is ↦ let same = eqb-true x n is in least_of n (min first x) more (omega (arith, all.0)) all.1 (inl (omega arith))
  | inr later ↦ least_of n (min first x) more (omega (arith, all.0)) all.1 (inr later)
]

least_found : (n : ℕ) (xs : List ℕ) → AllByRecursion (λ x. n ≤ x) xs → list_any (λ x. x == n) xs ≡ true → reduce min xs ≡ Some n
least_found n [] all there = absurd cc
least_found n (x ∷ xs) all there = ap Some (elim (or_cases (x == n) (list_any (λ x. x == n) xs) there) [
  | inl is ↦ least_of n x xs all.0 all.1 (inl (eqb-true x n is))
  | inr later ↦ least_of n x xs all.0 all.1 (inr later)
])

there_left : (n : ℕ) (test : ℕ → Bool) (xs : List ℕ) → test n ≡ true → list_any (λ x. x == n) xs ≡ true → list_any (λ x. x == n) (filter test xs) ≡ true
there_left n test [] passes there = there
there_left n test (x ∷ xs) passes there = later (test x) refl (or_cases (x == n) (list_any (λ x. x == n) xs) there) (λ more. there_left n test xs passes more)
  where
    later : (told : Bool) → test x ≡ told → (x == n ≡ true) ⊎ (list_any (λ x. x == n) xs ≡ true) → (list_any (λ x. x == n) xs ≡ true → list_any (λ x. x == n) (filter test xs) ≡ true) → list_any (λ x. x == n) (cond told (x ∷ filter test xs) (filter test xs)) ≡ true
    later true e (inl is) go_on = or_left (x == n) (list_any (λ x. x == n) (filter test xs)) is
    later true e (inr more) go_on = or_right (x == n) (list_any (λ x. x == n) (filter test xs)) (go_on more)
    later false e (inl is) go_on = absurd (both_ways (test x) e (subst (λ m. test m ≡ true) (sym (eqb-true x n is)) passes))
    later false e (inr more) go_on = go_on more

none_left : (test : ℕ → Bool) (xs : List ℕ) → AllByRecursion (λ x. test x ≡ false) xs → filter test xs ≡ []
none_left test [] all = refl
none_left test (x ∷ xs) all = rw all.0 (none_left test xs all.1)

module _ (files turned : List FileMeta) (moved : IsPermutation files turned) (turn : InTurn turned) where
  abbrev overlaps : ℕ → Bool
  overlaps level = nat_lt 0 level && overlap_at files level

  apart_below : (found : Option ℕ) → first_clash turned ≡ found → (level : ℕ) → Under level found → overlaps level ≡ false
  apart_below found is level under = by (nat_lt 0 level) refl
    where
      by : (told : Bool) → nat_lt 0 level ≡ told → overlaps level ≡ false
      by false e = ap (λ t. t && overlap_at files level) e
      by true e =
          let pairs = apart_under level turned turn (ltb-true 0 level e) (subst (Under level) (sym is) under) in
          and_right (nat_lt 0 level) (overlap_at files level) (ap not (apart_from_pairs level files (moved_pairs level turned files (IsPermutation-sym files turned moved) pairs)))

  -- the lowest level at which files overlap is that of the first clash
  pub level_found : overlapping_level files ≡ first_clash turned
  level_found = by (first_clash turned) refl
    where
      by : (found : Option ℕ) → first_clash turned ≡ found → overlapping_level files ≡ first_clash turned
      by None is =
          ap (reduce min) (none_left overlaps (map (λ file. file.level) files) (each_is (λ level. overlaps level ≡ false) (map (λ file. file.level) files) (λ level. apart_below None is level tt))) ∙ sym is
      by (Some level) is =
          let found = clashes turned level turn is in
          let over : overlap_at files level ≡ true = ap not (false_from_ne_true (are_apart (filter (λ file. file.level == level) files)) (λ fine. found.overlap (moved_pairs level files turned moved (pairs_from_apart level files fine)))) in
          let levels : List ℕ = map (λ file. file.level) files in
          let there : list_any (λ x. x == level) levels ≡ true = list_any-map (λ x. x == level) (λ (file : FileMeta). file.level) files ∙ list_any-IsPermutation (λ (file : FileMeta). file.level == level) files turned moved ∙ found.there in
          least_found level (filter overlaps levels)
          (each_left (λ x. level ≤ x) overlaps levels (each_is (λ x. overlaps x ≡ true → level ≤ x) levels (λ x is_so. lowest x is_so (nat_lt x level) refl)))
          (there_left level overlaps levels (and_from (nat_lt 0 level) (overlap_at files level) (lt-ltb 0 level found.positive) over) there)
          ∙ sym is
        where
          lowest : (x : ℕ) → overlaps x ≡ true → (told : Bool) → nat_lt x level ≡ told → level ≤ x
          lowest x is_so true e = absurd (both_ways (overlaps x) (apart_below (Some level) is x (ltb-true x level e)) is_so)
          lowest x is_so false e = ltb-false x level e
