-- Sorted places are those of files in order.
use Rattle.std.proofs.Common.{◌≡◌, ℕ, zero, suc, ◌<◌, ◌≤◌, Bool, true, false, cond, List, [], ◌∷◌, length, get_or, take, map, refl, sym, ap, subst, ◌∙◌, arith}
use Rattle.std.specs.Prelude.{◌==◌}
use Rattle.std.specs.List.{AllByRecursion, sum_by}
use Rattle.std.specs.List.Sorted.{IsPermutation}
use Rattle.std.specs.declared.cmp.Ordering.{Ordering}
use Rattle.std.specs.declared.cmp.Ordering.TheVariants.{Less, Equal, Greater}
use Rattle.std.specs.Ordering.{nat_cmp, is_lt, ordering_then, ordering_reverse}
use Rattle.std.specs.Cmp.{IsTotalOrder, on_total, back_total, then_total, nat_cmp_total}
use Rattle.std.specs.Cmp.Lexicographic.{slice_cmp, nat_list_cmp_total}
use Rattle.std.proofs.lemmas.Bool.{eqb-true, eq-eqb, ne_eqb, cond-true, cond-false, both_ways}
use Rattle.std.proofs.lemmas.Cmp.{ranked}
use Rattle.std.proofs.lemmas.List.Sums.{sum_by-cons}
use Rattle.std.proofs.lemmas.List.Sorted.{IsPermutation-map, sum_by-IsPermutation}
use Rattle.rk_bytes.specs.declared.model.manifest.FileMeta.{FileMeta}
use Rattle.rk_bytes.specs.Model.Manifest.{overlapping_level}
use Rattle.rk_version.specs.declared.spot.Spot.{Spot}
use Rattle.rk_version.specs.Places.{Rises}
use Rattle.rk_version.specs.Spots.{file_cmp, spot_cmp, file_at, IsSpot, first_clash}
use Rattle.rk_version.proofs.Each.{each_so, each_both, each_map, each_moved}
use Rattle.rk_version.proofs.PlaceLemmas.{rest_so}
use Rattle.rk_version.proofs.FileOrder.{then_equal, file_total}
use Rattle.rk_version.proofs.Apart.{InTurn, level_found}

pub spot_total : IsTotalOrder spot_cmp
spot_total =
    then_total (then_total (on_total (λ (s : Spot). s.level) nat_cmp_total) (then_total (on_total (λ (s : Spot). s.user.now) nat_list_cmp_total) (back_total (on_total (λ (s : Spot). s.packed) nat_cmp_total))))
    (on_total (λ (s : Spot). s.number) nat_cmp_total)

abbrev counted : ℕ → FileMeta → ℕ
counted n file = cond (file.number == n) 1 0

-- no number is that of two files
Once : List FileMeta → Type 0
Once files = (n : ℕ) → sum_by (counted n) files ≤ 1

none_counted : (n : ℕ) (files : List FileMeta) → AllByRecursion (λ file. (file.number == n) ≡ false) files → sum_by (counted n) files ≡ 0
none_counted n [] none = refl
none_counted n (file ∷ files) none = omega (arith, sum_by-cons (counted n) file files, cond-false {A = ℕ} (file.number == n) 1 0 none.0, none_counted n files none.1)

once_rising : (files : List FileMeta) → Rises (λ file. file.number) files → Once files
unfolding Once
once_rising [] rises n = omega arith
once_rising (file ∷ files) rises n = by (file.number == n) refl (once_rising files rises.1 n)
  where
    by : (told : Bool) → (file.number == n) ≡ told → sum_by (counted n) files ≤ 1 → sum_by (counted n) (file ∷ files) ≤ 1
    by true e rest =
        let same = eqb-true file.number n e in
        let none = none_counted n files (each_so (λ (other : FileMeta). file.number < other.number) (λ other. (other.number == n) ≡ false) files (λ other more. ne_eqb other.number n (λ is. omega arith)) rises.0) in
        omega (arith, sum_by-cons (counted n) file files, cond-true {A = ℕ} (file.number == n) 1 0 e, none)
    by false e rest = omega (arith, sum_by-cons (counted n) file files, cond-false {A = ℕ} (file.number == n) 1 0 e, rest)

once_moved : (xs ys : List FileMeta) → IsPermutation xs ys → Once xs → Once ys
unfolding Once
once_moved xs ys moved once n = subst (λ m. m ≤ 1) (sym (sum_by-IsPermutation (counted n) xs ys moved)) (once n)

not_counted : (n : ℕ) (files : List FileMeta) → sum_by (counted n) files ≡ 0 → AllByRecursion (λ file. n ≡ file.number → ⊥) files
not_counted n [] none = tt
not_counted n (file ∷ files) none = (
  (λ same. omega (arith, none, sum_by-cons (counted n) file files, cond-true {A = ℕ} (file.number == n) 1 0 (eq-eqb file.number n (sym same)))),
  not_counted n files (omega (arith, none, sum_by-cons (counted n) file files)),
)

once_apart : (file : FileMeta) (files : List FileMeta) → Once (file ∷ files) → AllByRecursion (λ (other : FileMeta). file.number ≡ other.number → ⊥) files × Once files
unfolding Once
once_apart file files once = (
  not_counted file.number files (omega (arith, once file.number, sum_by-cons (counted file.number) file files, cond-true {A = ℕ} (file.number == file.number) 1 0 (eq-eqb file.number file.number refl))),
  (λ n. omega (arith, once n, sum_by-cons (counted n) file files)),
)

each_of_map : {A B : Type 0} (Q : B → Type 0) (f : A → B) (xs : List A) → AllByRecursion Q (map f xs) → AllByRecursion (λ x. Q (f x)) xs
each_of_map Q f [] all = tt
each_of_map Q f (x ∷ xs) all = (all.0, each_of_map Q f xs all.1)

-- of two places in order, and of files with different numbers, the first file comes before the second
less_from : (x y : Spot) → IsSpot x → IsSpot y → is_lt (spot_cmp y x) ≡ false → ((file_at x).number ≡ (file_at y).number → ⊥) → file_cmp (file_at x) (file_at y) ≡ Less
less_from x y x-is y-is order apart = by (file_cmp (file_at x) (file_at y)) refl
  where
    same : spot_cmp y x ≡ file_cmp (file_at y) (file_at x)
    same i =
        ordering_then (ordering_then (nat_cmp (y-is.level i) (x-is.level i)) (ordering_then (slice_cmp nat_cmp (y-is.user i) (x-is.user i)) (nat_cmp (x-is.packed i) (y-is.packed i)))) (nat_cmp (y-is.number i) (x-is.number i))

    by : (r : Ordering) → file_cmp (file_at x) (file_at y) ≡ r → file_cmp (file_at x) (file_at y) ≡ Less
    by Less e = e
    by Equal e =
        let numbers = (then_equal (ordering_then (nat_cmp (file_at x).level (file_at y).level) _) (nat_cmp (file_at x).number (file_at y).number) e).1 in
        absurd (apart (ranked (file_at x).number (file_at y).number Equal (sym numbers)))
    by Greater e =
        let less : is_lt (spot_cmp y x) ≡ true = ap is_lt (same ∙ file_total.antisymm (file_at y) (file_at x) ∙ ap ordering_reverse e) in
        absurd (both_ways (is_lt (spot_cmp y x)) order less)

-- no place comes before one that stands in front of it
abbrev pub IsFar : List Spot → Type 0
IsFar spots = (i j : ℕ) (d : Spot) → i ≤ j → j < length spots → is_lt (spot_cmp (get_or spots j d) (get_or spots i d)) ≡ false

turn : (spots : List Spot) → AllByRecursion IsSpot spots → IsFar spots → Once (map file_at spots) → InTurn (map file_at spots)
turn [] are far once = tt
turn (x ∷ xs) are far once =
    let (apart, more) = once_apart (file_at x) (map file_at xs) once in
    let numbers = each_of_map (λ (other : FileMeta). (file_at x).number ≡ other.number → ⊥) file_at xs apart in
    let behind = rest_so (λ (s : Spot). s.number) (λ s. is_lt (spot_cmp s x) ≡ false) 0 xs (λ k d least in'. far 0 (suc k) d (omega arith) (omega arith)) in (
      each_map (λ s. IsSpot s × ((is_lt (spot_cmp s x) ≡ false) × ((file_at x).number ≡ (file_at s).number → ⊥))) (λ y. file_cmp (file_at x) y ≡ Less) file_at xs (λ s so. less_from x s are.0 so.0 so.1.0 so.1.1)
          (each_both IsSpot (λ s. (is_lt (spot_cmp s x) ≡ false) × ((file_at x).number ≡ (file_at s).number → ⊥)) xs are.1 (each_both (λ s. is_lt (spot_cmp s x) ≡ false) (λ s. (file_at x).number ≡ (file_at s).number → ⊥) xs behind numbers)),
      turn xs are.1 (λ i j d least in'. far (suc i) (suc j) d (omega arith) (omega arith)) more,
    )

-- so the first clash of sorted places is at the lowest level at which files overlap
pub sorted_clash : (files : List FileMeta) (spots sorted : List Spot) → Rises (λ file. file.number) files → map file_at spots ≡ files → AllByRecursion IsSpot spots → IsPermutation spots sorted → IsFar sorted
    → overlapping_level files ≡ first_clash (map file_at sorted)
sorted_clash files spots sorted rises are_files are moved far =
    let files_moved = subst (λ xs. IsPermutation xs (map file_at sorted)) are_files (IsPermutation-map file_at spots sorted moved) in
    level_found files (map file_at sorted) files_moved (turn sorted (each_moved IsSpot spots sorted moved are) far (once_moved files (map file_at sorted) files_moved (once_rising files rises)))

pub all_taken : {A : Type 0} (xs : List A) (i : ℕ) → length xs ≤ i → take i xs ≡ xs
all_taken [] zero past = refl
all_taken [] (suc i) past = refl
all_taken (x ∷ xs) zero past = absurd (omega arith)
all_taken (x ∷ xs) (suc i) past = ap (λ rest. x ∷ rest) (all_taken xs i (omega arith))
