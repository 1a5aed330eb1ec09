-- The courses that tallies come to.
use Rattle.std.proofs.Common.{◌≡◌, ℕ, suc, ◌<◌, Bool, true, false, ◌||◌, cond, List, [], ◌∷◌, length, map, filter, Option, Some, Result, Ok, Err, refl, sym, ap, subst, ◌∙◌, inl, inr, arith}
use Rattle.std.specs.Prelude.{◌==◌, ◌⊎◌, find, unwrap_or}
use Rattle.std.specs.List.{AllByRecursion, list_any}
use Rattle.std.specs.List.Sorted.{IsStrictlySortedBy}
use Rattle.std.specs.Ordering.{nat_cmp}
use Rattle.std.specs.declared.cmp.Ordering.TheVariants.{Less}
use Rattle.std.proofs.lemmas.Bool.{false≢true, cases_order, cases_eq, ne_eqb, eq-eqb, eqb-true, or_left}
use Rattle.std.proofs.lemmas.Bool.Decides.{nat_tests}
use Rattle.rk_bytes.specs.declared.model.manifest.ManifestFault.{ManifestFault}
use Rattle.rk_bytes.specs.declared.model.manifest.FamilyState.{FamilyState}
use Rattle.rk_bytes.specs.declared.model.manifest.Version.{Version}
use Rattle.rk_bytes.specs.Model.Manifest.{ManifestUnit, has_id, version_at}
use Rattle.rk_bytes.specs.Model.BestEfforts.{last_families}
use Rattle.rk_version.specs.Places.{Rises}
use Rattle.rk_version.proofs.Each.{each_so, each_both, each_filter, each_map}
use Rattle.rk_version.proofs.Rising.{rises_filter, rises_map}
use Rattle.rk_points.specs.declared.course.Course.{Course}
use Rattle.rk_points.specs.declared.course.Turn.{Turn}
use Rattle.rk_points.specs.declared.tally.Tally.{Tally}
use Rattle.rk_points.specs.declared.walk.Walk.{Walk}
use Rattle.rk_points.specs.Courses.{Tells, Follows}
use Rattle.rk_points.specs.Tallies.{lives, blank, tally_of, turns_of, course_of}
use Rattle.rk_points.specs.Walks.{Tallied}
use Rattle.rk_points.proofs.Marks.{any_mapped}
use Rattle.rk_points.proofs.FollowLemmas.{Standing}

-- ---- rising numbers

none_among : (n : ℕ) (xs : List ℕ) → AllByRecursion (λ m. n < m) xs → list_any (λ m. m == n) xs ≡ false
none_among n [] all = refl
none_among n (x ∷ xs) all = (λ i. ne_eqb x n (let above = all.0 in λ e. omega arith) i || none_among n xs all.1 i)

-- lists of the same rising numbers
rising_same : (xs ys : List ℕ) → Rises (λ n. n) xs → Rises (λ n. n) ys → ((n : ℕ) → list_any (λ m. m == n) xs ≡ list_any (λ m. m == n) ys) → xs ≡ ys
rising_same [] [] first second same = refl
rising_same [] (y ∷ ys) first second same = absurd (false≢true (same y ∙ or_left (y == y) (list_any (λ m. m == y) ys) (eq-eqb y y refl)))
rising_same (x ∷ xs) [] first second same = absurd (false≢true (sym (same x) ∙ or_left (x == x) (list_any (λ m. m == x) xs) (eq-eqb x x refl)))
rising_same (x ∷ xs) (y ∷ ys) first second same = elim (cases_order x y) [
  | inl equal ↦ λ i. equal i ∷ rising_same xs ys first.1 second.1 (λ n. rest equal n (cases_eq n x)) i
  | inr apart ↦ absurd (unlike apart)
]
  where
    rest : x ≡ y → (n : ℕ) → (n ≡ x) ⊎ (n ≡ x → ⊥) → list_any (λ m. m == n) xs ≡ list_any (λ m. m == n) ys
    rest equal n (inl here) =
        ap (λ n. list_any (λ m. m == n) xs) here ∙ none_among x xs first.0
        ∙ sym (ap (λ n. list_any (λ m. m == n) ys) (here ∙ equal) ∙ none_among y ys second.0)
    rest equal n (inr other) =
        sym (ap (λ told. told || list_any (λ m. m == n) xs) (ne_eqb x n (λ e. other (sym e)))) ∙ same n
        ∙ ap (λ told. told || list_any (λ m. m == n) ys) (ne_eqb y n (λ e. other (sym (equal ∙ e))))

    unlike : (x < y) ⊎ (y < x) → ⊥
    unlike (inl below) =
        false≢true (sym (same x ∙ none_among x (y ∷ ys) (below, each_so (λ m. y < m) (λ m. x < m) ys (λ m more. omega (arith, more, below)) second.0)) ∙ or_left (x == x) (list_any (λ m. m == x) xs) (eq-eqb x x refl))
    unlike (inr above) =
        false≢true (sym (sym (same y) ∙ none_among y (x ∷ xs) (above, each_so (λ m. x < m) (λ m. y < m) xs (λ m more. omega (arith, more, above)) first.0)) ∙ or_left (y == y) (list_any (λ m. m == y) ys) (eq-eqb y y refl))

comparison : (a b : ℕ) → a < b → nat_cmp a b ≡ Less
comparison a b less = grind (arith, nat_tests)

strictly : {A : Type 0} (key : A → ℕ) (xs : List A) → Rises key xs → IsStrictlySortedBy nat_cmp (map key xs)
unfolding IsStrictlySortedBy
strictly key [] rises = tt
strictly key (x ∷ xs) rises = (each_map (λ y. key x < key y) (λ n. nat_cmp (key x) n ≡ Less) key xs (λ y less. comparison (key x) (key y) less) rises.0, strictly key xs rises.1)

-- ---- tallies by rising id

abbrev family_of : Tally → ℕ
family_of tally = tally.family

abbrev is_live : Tally → Bool
is_live tally = tally.now.live

-- each tally is that of its family
each_found : (tallies : List Tally) → Rises (λ tally. tally.family) tallies → AllByRecursion (λ tally. tally_of tally.family tallies ≡ tally) tallies
each_found [] rises = tt
each_found (tally ∷ tallies) rises = (
  ap (λ (told : Bool). let o : Option Tally = cond told (Some tally) (find (λ (other : Tally). other.family == tally.family) tallies) in unwrap_or o (blank tally.family)) (eq-eqb tally.family tally.family refl),
  each_so (λ other. (tally.family < other.family) × (tally_of other.family tallies ≡ other)) (λ other. tally_of other.family (tally ∷ tallies) ≡ other) tallies later
      (each_both (λ other. tally.family < other.family) (λ other. tally_of other.family tallies ≡ other) tallies rises.0 (each_found tallies rises.1)),
)
  where
    later : (other : Tally) → (tally.family < other.family) × (tally_of other.family tallies ≡ other) → tally_of other.family (tally ∷ tallies) ≡ other
    later other p =
        ap (λ (told : Bool). let o : Option Tally = cond told (Some tally) (find (λ (one : Tally). one.family == other.family) tallies) in unwrap_or o (blank other.family))
        (ne_eqb tally.family other.family (let less = p.0 in λ e. omega arith))
        ∙ p.1

-- a family is among the live ones where its tally says so
among_live : (n : ℕ) (tallies : List Tally) → Rises (λ tally. tally.family) tallies → list_any (λ m. m == n) (map family_of (filter is_live tallies)) ≡ (tally_of n tallies).now.live
among_live n [] rises = refl
among_live n (tally ∷ tallies) rises = by (tally.family == n) refl tally.now.live refl (among_live n tallies rises.1)
  where
    none : (tally.family == n) ≡ true → list_any (λ m. m == n) (map family_of (filter is_live tallies)) ≡ false
    none e =
        let same : tally.family ≡ n = eqb-true tally.family n e in
        none_among n (map family_of (filter is_live tallies)) (each_map (λ (other : Tally). tally.family < other.family) (λ m. n < m) family_of (filter is_live tallies) (λ other less. omega (arith, less, same))
        (each_filter (λ (other : Tally). tally.family < other.family) is_live tallies rises.0))

    by : (same : Bool) → (tally.family == n) ≡ same → (living : Bool) → tally.now.live ≡ living → list_any (λ m. m == n) (map family_of (filter is_live tallies)) ≡ (tally_of n tallies).now.live
        → list_any (λ m. m == n) (map family_of (cond living (tally ∷ filter is_live tallies) (filter is_live tallies)))
        ≡ (let o : Option Tally = cond same (Some tally) (find (λ (other : Tally). other.family == n) tallies) in unwrap_or o (blank n)).now.live
    by true e true l rest = or_left (tally.family == n) (list_any (λ m. m == n) (map family_of (filter is_live tallies))) e ∙ sym l
    by true e false l rest = none e ∙ sym l
    by false e true l rest = ap (λ told. told || list_any (λ m. m == n) (map family_of (filter is_live tallies))) e ∙ rest
    by false e false l rest = rest

course_families : (tallies : List Tally) → map (λ (course : Course). course.family) (map course_of tallies) ≡ map family_of tallies
course_families [] = refl
course_families (tally ∷ tallies) = ap (λ rest. tally.family ∷ rest) (course_families tallies)

-- the courses after the last unit
pub all_followed : (units : List ManifestUnit) (answers : List Bool) (last : Version) (i : ℕ) (walk : Walk) (courses : List Course) → i ≡ length units → Standing units answers last i walk → Rises (λ tally. tally.family) walk.tallies
    → courses ≡ map course_of (filter is_live walk.tallies) → Follows units answers courses
all_followed units answers last i walk courses all s order courses_are = subst (Follows units answers) (sym courses_are) (record {
  families =
      course_families (filter is_live walk.tallies)
      ∙ rising_same (map family_of (filter is_live walk.tallies)) (map (λ (live : FamilyState). live.id) (last_families units))
      (rises_map family_of (λ n. n) family_of (filter is_live walk.tallies) (λ tally. refl) (rises_filter family_of is_live walk.tallies order))
      (rises_map (λ (live : FamilyState). live.id) (λ n. n) (λ (live : FamilyState). live.id) (last_families units) (λ live. refl) (subst (Rises (λ (live : FamilyState). live.id)) there s.kept.ids))
      (λ n. among_live n walk.tallies order ∙ (s.kept.each n).live ∙ ap (lives n) there ∙ sym (any_mapped (λ m. m == n) (has_id n) (λ (live : FamilyState). live.id) (last_families units) (λ live. refl)));
  told =
      each_map (λ tally. tally_of tally.family walk.tallies ≡ tally) (Tells units answers) course_of (filter is_live walk.tallies) one
      (each_filter (λ tally. tally_of tally.family walk.tallies ≡ tally) is_live walk.tallies (each_found walk.tallies order));
})
  where
    there : s.version.families ≡ last_families units
    there = ap (λ (r : Result Version ManifestFault). elim r [ Ok version ↦ version.families | Err why ↦ [] ]) (sym (ap (version_at units) (sym all) ∙ s.before))

    one : (tally : Tally) → tally_of tally.family walk.tallies ≡ tally → Tells units answers (course_of tally)
    one tally is =
        let told = subst (Tallied units answers (suc i) s.version.families s.kept.asked tally.family) is (s.kept.each tally.family) in
        record {
          rising = strictly (λ (turn : Turn). turn.at) (turns_of tally) told.rising;
          live = λ point within. told.was_live point (omega (arith, within, all));
          whole = λ point within. told.was_whole point (omega (arith, within, all));
        }
