-- The greatest points that qualify: they are there, and lowering what can't be kept finds them.
use Rattle.std.proofs.Common.{◌≡◌, ℕ, zero, suc, ◌+◌, ◌-◌, ◌*◌, ◌<◌, ◌≤◌, Bool, true, false, not, ◌&&◌, ◌⊎◌, cond, List, [], ◌∷◌, length, map, refl, sym, ◌∙◌, ap, arith, inl, inr}
use Rattle.std.specs.Prelude.{nat_lt, nat_le, flat_map, take, zip, ◌==◌}
use Rattle.std.specs.List.{AllByRecursion, list_any, list_all}
use Rattle.std.proofs.lemmas.Bool.{ltb-true, lt-ltb, ltb-false, leb-true, leb-false, not-true, not-false, false≢true, false_from_ne_true, and_parts, and_from, and_cases, or_parts, or_cases, or_left, or_right}
use Rattle.rk_bytes.specs.declared.model.manifest.FileMeta.{FileMeta}
use Rattle.rk_bytes.specs.declared.model.manifest.FamilyState.{FamilyState}
use Rattle.rk_bytes.specs.declared.model.view.Point.{Point}
use Rattle.rk_bytes.specs.Model.Manifest.{ManifestUnit, first_version, version_after}
use Rattle.rk_laws.proofs.EachElement.{none_passes, one_passes, each_so, each_is}
use Rattle.rk_bytes.specs.Model.BestEfforts.{last_families, all_pass, added_files, answer_for, answers_pass, group_places, is_tied, IsVector, StandTogether, Qualifies, AtMost, IsGreatest, stands_before, cannot_stay, lowered, lowered_until, all_at, best_points}

-- Points that are at most each other are the same.
same_points : (a b : List Point) → AtMost a b → AtMost b a → a ≡ b
same_points [] [] below above = refl
same_points [] (b ∷ more) below above = absurd below
same_points (a ∷ more) [] below above = absurd below
same_points (a ∷ more) (b ∷ others) below above =
    let at : a.at ≡ b.at = omega (arith, below.1, above.1) in
    let point : a ≡ b = ap (λ family. let p : Point = record { family = family; at = a.at } in p) below.0 ∙ ap (λ at. let p : Point = record { family = b.family; at = at } in p) at in
    let rest = same_points more others below.2 above.2 in
    ap (λ (a : Point). a ∷ more) point ∙ ap (λ more. b ∷ more) rest

total : List Point → ℕ
total [] = 0
total (point ∷ points) = point.at + total points

positive : (n : ℕ) → (n ≡ 0 → ⊥) → 1 ≤ n
positive zero other = absurd (other refl)
positive (suc n) other = omega arith

-- what holds of each of both lists, the other way round
turned : {A B : Type 0} (P : A → B → Type 0) (xs : List A) (ys : List B) → AllByRecursion (λ x. AllByRecursion (P x) ys) xs → AllByRecursion (λ y. AllByRecursion (λ x. P x y) xs) ys
turned P xs [] all = tt
turned {A} {B} P xs (y ∷ ys) all = (
  each_so (λ x. AllByRecursion (P x) (y ∷ ys)) (λ x. P x y) xs (λ x a. a.0) all,
  turned P xs ys (each_so (λ x. AllByRecursion (P x) (y ∷ ys)) (λ x. AllByRecursion (P x) ys) xs (λ x a. a.1) all),
)

module _ (units : List ManifestUnit) (whole_at : ℕ → ℕ → Bool) where
  -- the tests of a group at a place, for a point
  abbrev Splits : List Point → Point → ℕ → Bool
  Splits points point place = nat_le place point.at && is_tied units place point.family && stands_before units points place

  abbrev Before : List Point → ℕ → Type 0
  Before points place = AllByRecursion (λ point. is_tied units place point.family ≡ true → point.at < place) points

  -- why a point can't be kept, with what holds of each group
  stuck_cases : (P : ℕ → Type 0) (points : List Point) (point : Point) → cannot_stay units whole_at points point ≡ true → AllByRecursion P (group_places 1 units)
      → (whole_at point.family point.at ≡ false) ⊎ ((place : ℕ) × (place ≤ point.at) × (is_tied units place point.family ≡ true) × (stands_before units points place ≡ true) × P place)
  stuck_cases P points point stuck all = elim (or_cases (not (whole_at point.family point.at)) (list_any (Splits points point) (group_places 1 units)) stuck) [
    | inl broken ↦ inl (not-true (whole_at point.family point.at) broken)
    | inr split ↦
        let (place, tests, so) = one_passes (Splits points point) P (group_places 1 units) split all in
        let (more, before) = and_parts (nat_le place point.at && is_tied units place point.family) (stands_before units points place) tests in
        let (at, tied) = and_parts (nat_le place point.at) (is_tied units place point.family) more in
        inr (place, leb-true place point.at at, tied, before, so)
  ]

  some_before : (points : List Point) (place : ℕ) → stands_before units points place ≡ true → 1 ≤ place
  some_before points place e =
      let (point, tests, so) = one_passes (λ (point : Point). is_tied units place point.family && nat_lt point.at place) (λ point. 0 ≤ point.at) points e (each_is (λ (point : Point). 0 ≤ point.at) points (λ point. omega arith)) in
      let (tied, before) = and_parts (is_tied units place point.family) (nat_lt point.at place) tests in
      omega (arith, ltb-true point.at place before)

  -- a point at 0 can be kept
  above_zero : ((id : ℕ) → whole_at id 0 ≡ true) → (points : List Point) (point : Point) → cannot_stay units whole_at points point ≡ true → 1 ≤ point.at
  above_zero zeros points point stuck = elim (stuck_cases (λ place. 0 ≤ place) points point stuck (each_is (λ place. 0 ≤ place) (group_places 1 units) (λ place. omega arith))) [
    | inl broken ↦ positive point.at (λ none. false≢true (sym broken ∙ ap (whole_at point.family) none ∙ zeros point.family))
    | inr split ↦ omega (arith, split.1, some_before points split.0 split.3)
  ]

  -- where one of the points that a group ties stands before it, so does one of those at most them
  before_too : (place : ℕ) (others points : List Point) → AtMost others points → stands_before units points place ≡ true → stands_before units others place ≡ true
  before_too place [] [] below e = absurd (false≢true e)
  before_too place (o ∷ os) [] below e = absurd below
  before_too place [] (p ∷ ps) below e = absurd below
  before_too place (o ∷ os) (p ∷ ps) below e = elim (or_cases (is_tied units place p.family && nat_lt p.at place) (stands_before units ps place) e) [
    | inl here ↦
        let (tied, before) = and_parts (is_tied units place p.family) (nat_lt p.at place) here in
        or_left _ _ (and_from (is_tied units place o.family) (nat_lt o.at place) (ap (is_tied units place) below.0 ∙ tied) (lt-ltb o.at place (omega (arith, below.1, ltb-true p.at place before))))
    | inr later ↦ or_right _ _ (before_too place os ps below.2 later)
  ]

  -- points that stand together, one of which stands before the group
  all_before : (place : ℕ) (others : List Point) → StandTogether units others place → stands_before units others place ≡ true → Before others place
  all_before place others (inr before) e = before
  all_before place others (inl later) e =
      let (o, tests, so) = one_passes (λ (o : Point). is_tied units place o.family && nat_lt o.at place) (λ o. is_tied units place o.family ≡ true → place ≤ o.at) others e later in
      let (tied, before) = and_parts (is_tied units place o.family) (nat_lt o.at place) tests in
      absurd (omega (arith, so tied, ltb-true o.at place before))

  abbrev kept : List Point → Point → Point
  kept points point = cond (cannot_stay units whole_at points point) (record point { at = point.at - 1 }) point

  -- what qualifies and is at most the points is at most them lowered
  kept_above : (points others rest : List Point) → AtMost others rest → AllByRecursion (λ o. whole_at o.family o.at ≡ true) others
      → AllByRecursion (λ place. stands_before units points place ≡ true → Before others place) (group_places 1 units) → AtMost others (map (kept points) rest)
  kept_above points [] [] below whole befores = tt
  kept_above points (o ∷ os) [] below whole befores = absurd below
  kept_above points [] (p ∷ ps) below whole befores = absurd below
  kept_above points (o ∷ os) (p ∷ ps) below whole befores = by (cannot_stay units whole_at points p) refl
      (kept_above points os ps below.2 whole.1 (each_so (λ place. stands_before units points place ≡ true → Before (o ∷ os) place) (λ place. stands_before units points place ≡ true → Before os place) (group_places 1 units) (λ place so before. (so before).1) befores))
    where
      less : cannot_stay units whole_at points p ≡ true → o.at ≤ p.at - 1
      less stuck = elim (stuck_cases (λ place. stands_before units points place ≡ true → Before (o ∷ os) place) points p stuck befores) [
        | inl broken ↦
            let other : o.at ≡ p.at → ⊥ = λ same. false≢true (sym broken ∙ ap (λ id. whole_at id p.at) (sym below.0) ∙ ap (whole_at o.family) (sym same) ∙ whole.0) in
            omega (arith, below.1, other)
        | inr split ↦ omega (arith, split.1, (split.4 split.3).0 (ap (is_tied units split.0) below.0 ∙ split.2))
      ]

      by : (told : Bool) → cannot_stay units whole_at points p ≡ told → AtMost os (map (kept points) ps) → AtMost (o ∷ os) (cond told (record p { at = p.at - 1 }) p ∷ map (kept points) ps)
      by true stuck rest = (below.0, less stuck, rest)
      by false stays rest = (below.0, below.1, rest)

  lowered_above : (points others : List Point) → Qualifies units whole_at others → AtMost others points → AtMost others (lowered units whole_at points)
  lowered_above points others q below =
      kept_above points others points below q.whole
      (each_so (StandTogether units others) (λ place. stands_before units points place ≡ true → Before others place) (group_places 1 units)
      (λ place together before. all_before place others together (before_too place others points below before)) q.together)

  -- the sum of the points falls
  no_greater : (points rest : List Point) → total (map (kept points) rest) ≤ total rest
  unfolding total
  no_greater points [] = omega arith
  no_greater points (p ∷ ps) = by (cannot_stay units whole_at points p) (no_greater points ps)
    where
      by : (told : Bool) → total (map (kept points) ps) ≤ total ps → (cond told (record p { at = p.at - 1 }) p).at + total (map (kept points) ps) ≤ p.at + total ps
      by true rest = omega arith
      by false rest = omega arith

  less_in_all : ((id : ℕ) → whole_at id 0 ≡ true) → (points rest : List Point) → list_any (cannot_stay units whole_at points) rest ≡ true → total (map (kept points) rest) < total rest
  unfolding total
  less_in_all zeros points [] e = absurd (false≢true e)
  less_in_all zeros points (p ∷ ps) e = by (cannot_stay units whole_at points p) refl (no_greater points ps) (less_in_all zeros points ps)
    where
      by : (told : Bool) → cannot_stay units whole_at points p ≡ told → total (map (kept points) ps) ≤ total ps → (list_any (cannot_stay units whole_at points) ps ≡ true → total (map (kept points) ps) < total ps)
          → (cond told (record p { at = p.at - 1 }) p).at + total (map (kept points) ps) < p.at + total ps
      by true stuck rest next = omega (arith, above_zero zeros points p stuck)
      by false stays rest next = elim (or_cases (cannot_stay units whole_at points p) (list_any (cannot_stay units whole_at points) ps) e) [
        | inl stuck ↦ absurd (false≢true (sym stays ∙ stuck))
        | inr more ↦ omega (arith, next more)
      ]

  same_families : (points rest : List Point) → map (λ p. p.family) (map (kept points) rest) ≡ map (λ p. p.family) rest
  same_families points [] = refl
  same_families points (p ∷ ps) = by (cannot_stay units whole_at points p) (same_families points ps)
    where
      by : (told : Bool) → map (λ p. p.family) (map (kept points) ps) ≡ map (λ p. p.family) ps
          → (cond told (record p { at = p.at - 1 }) p).family ∷ map (λ p. p.family) (map (kept points) ps) ≡ p.family ∷ map (λ p. p.family) ps
      by true rest = ap (λ more. p.family ∷ more) rest
      by false rest = ap (λ more. p.family ∷ more) rest

  still_within : (most : ℕ) (points rest : List Point) → AllByRecursion (λ p. p.at ≤ most) rest → AllByRecursion (λ p. p.at ≤ most) (map (kept points) rest)
  still_within most points [] within = tt
  still_within most points (p ∷ ps) within = by (cannot_stay units whole_at points p) (still_within most points ps within.1)
    where
      by : (told : Bool) → AllByRecursion (λ p. p.at ≤ most) (map (kept points) ps) → ((cond told (record p { at = p.at - 1 }) p).at ≤ most) × AllByRecursion (λ p. p.at ≤ most) (map (kept points) ps)
      by true rest = (omega (arith, within.0), rest)
      by false rest = (within.0, rest)

  lowered_vector : (points : List Point) → IsVector units points → IsVector units (lowered units whole_at points)
  lowered_vector points v = record { families = same_families points points ∙ v.families; within = still_within (length units) points points v.within }

  -- points that can all be kept stand together
  stands : (points : List Point) (place : ℕ) → AllByRecursion (λ point. Splits points point place ≡ false) points → StandTogether units points place
  stands points place none = by (stands_before units points place) refl
    where
      by : (told : Bool) → stands_before units points place ≡ told → StandTogether units points place
      by true before = inr (each_so (λ point. Splits points point place ≡ false) (λ point. is_tied units place point.family ≡ true → point.at < place) points (λ point splits tied. earlier point tied (and_cases (nat_le place point.at && is_tied units place point.family) (stands_before units points place) splits)) none)
        where
          earlier : (point : Point) → is_tied units place point.family ≡ true → ((nat_le place point.at && is_tied units place point.family) ≡ false) ⊎ (stands_before units points place ≡ false) → point.at < place
          earlier point tied (inl other) = elim (and_cases (nat_le place point.at) (is_tied units place point.family) other) [
            | inl below ↦ leb-false place point.at below
            | inr untied ↦ absurd (false≢true (sym untied ∙ tied))
          ]
          earlier point tied (inr none) = absurd (false≢true (sym none ∙ before))
      by false before = inl (each_so (λ point. (is_tied units place point.family && nat_lt point.at place) ≡ false) (λ point. is_tied units place point.family ≡ true → place ≤ point.at) points (λ point test tied. later point tied (and_cases (is_tied units place point.family) (nat_lt point.at place) test)) (none_passes _ points before))
        where
          later : (point : Point) → is_tied units place point.family ≡ true → (is_tied units place point.family ≡ false) ⊎ (nat_lt point.at place ≡ false) → place ≤ point.at
          later point tied (inl other) = absurd (false≢true (sym other ∙ tied))
          later point tied (inr at) = ltb-false point.at place at

  qualified : (points : List Point) → IsVector units points → list_any (cannot_stay units whole_at points) points ≡ false → Qualifies units whole_at points
  qualified points vector none =
      let stay = none_passes (cannot_stay units whole_at points) points none in
      record {
        vector = vector;
        whole = each_so (λ point. cannot_stay units whole_at points point ≡ false) (λ point. whole_at point.family point.at ≡ true) points (λ point stays. not-false (whole_at point.family point.at) (or_parts _ _ stays).0) stay;
        together =
            each_so (λ place. AllByRecursion (λ point. Splits points point place ≡ false) points) (StandTogether units points) (group_places 1 units) (stands points)
            (turned (λ point place. Splits points point place ≡ false) points (group_places 1 units)
            (each_so (λ point. cannot_stay units whole_at points point ≡ false) (λ point. AllByRecursion (λ place. Splits points point place ≡ false) (group_places 1 units)) points
            (λ point stays. none_passes (Splits points point) (group_places 1 units) (or_parts _ _ stays).1) stay));
      }

  abbrev Above : List Point → Type 0
  Above points = (others : List Point) → Qualifies units whole_at others → AtMost others points

  finds : ((id : ℕ) → whole_at id 0 ≡ true) → (n : ℕ) (points : List Point) → IsVector units points → total points ≤ n → Above points → IsGreatest units whole_at (lowered_until n units whole_at points)
  unfolding lowered_until
  finds zeros zero points vector few above =
      let none = false_from_ne_true (list_any (cannot_stay units whole_at points) points) (λ stuck. let less = less_in_all zeros points points stuck in absurd (omega arith)) in
      record { qualifies = qualified points vector none; greatest = above }
  finds zeros (suc n) points vector few above = by (list_any (cannot_stay units whole_at points) points) refl (finds zeros n (lowered units whole_at points) (lowered_vector points vector))
    where
      by : (told : Bool) → list_any (cannot_stay units whole_at points) points ≡ told
          → (total (lowered units whole_at points) ≤ n → Above (lowered units whole_at points) → IsGreatest units whole_at (lowered_until n units whole_at (lowered units whole_at points)))
          → IsGreatest units whole_at (cond told (lowered_until n units whole_at (lowered units whole_at points)) points)
      by true stuck next = let less = less_in_all zeros points points stuck in next (omega arith) (λ others q. lowered_above points others q (above others q))
      by false none next = record { qualifies = qualified points vector none; greatest = above }

all_families : (point : ℕ) (families : List FamilyState) → map (λ p. p.family) (all_at point families) ≡ map (λ live. live.id) families
all_families point [] = refl
all_families point (live ∷ families) = ap (λ more. live.id ∷ more) (all_families point families)

all_within : (point : ℕ) (families : List FamilyState) → AllByRecursion (λ p. p.at ≤ point) (all_at point families)
all_within point [] = tt
all_within point (live ∷ families) = (omega arith, all_within point families)

all_total : (point : ℕ) (families : List FamilyState) → total (all_at point families) ≡ length families * point
unfolding total
all_total point [] = omega arith
all_total point (live ∷ families) = omega (arith, all_total point families)

all_above : (most : ℕ) (families : List FamilyState) (others : List Point) → map (λ p. p.family) others ≡ map (λ live. live.id) families → AllByRecursion (λ p. p.at ≤ most) others → AtMost others (all_at most families)
all_above most [] [] same within = tt
all_above most [] (o ∷ others) same within = absurd cc
all_above most (live ∷ families) [] same within = absurd cc
all_above most (live ∷ families) (o ∷ others) same within = ((cc), within.0, all_above most families others (cc) within.1)

pub all_pass_at_zero : (units : List ManifestUnit) (is_whole : FileMeta → Bool) (id : ℕ) → all_pass is_whole units id 0 ≡ true
unfolding version_after
all_pass_at_zero units is_whole id = by (0 == id)
  where
    by : (told : Bool) → list_all is_whole (flat_map (λ live. live.files) (cond told first_version.families [])) ≡ true
    by true = refl
    by false = refl

pub answers_pass_at_zero : (units : List ManifestUnit) (answers : List Bool) (id : ℕ) → answers_pass answers units id 0 ≡ true
answers_pass_at_zero units answers id = all_pass_at_zero units (λ file. answer_for (zip (added_files (take 0 units)) answers) file.number) id

pub best_points-greatest : (units : List ManifestUnit) (whole_at : ℕ → ℕ → Bool) → ((id : ℕ) → whole_at id 0 ≡ true) → IsGreatest units whole_at (best_points units whole_at)
best_points-greatest units whole_at zeros =
    let families = last_families units in
    let most = length units in
    finds units whole_at zeros (length families * most) (all_at most families) (record { families = all_families most families; within = all_within most families }) (omega (arith, all_total most families))
    (λ others q. all_above most families others q.vector.families q.vector.within)

pub one_greatest : (units : List ManifestUnit) (whole_at : ℕ → ℕ → Bool) (points others : List Point) → IsGreatest units whole_at points → IsGreatest units whole_at others → others ≡ points
one_greatest units whole_at points others first second = same_points others points (first.greatest others second.qualifies) (second.greatest points first.qualifies)
