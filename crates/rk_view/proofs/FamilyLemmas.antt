-- Families in rising id.
use Rattle.std.proofs.Common.{◌≡◌, ℕ, zero, suc, ◌<◌, ◌≤◌, Bool, true, false, cond, List, [], ◌∷◌, ◌++◌, length, map, take, drop, refl, sym, ap, ◌∙◌, arith, get_or}
use Rattle.std.proofs.lemmas.Bool.Decides.{nat_tests}
use Rattle.std.specs.Prelude.{◌==◌, ◌||◌, nat_lt, find, filter, fold, min, option_map, Some, if◌then◌else◌}
use Rattle.std.specs.List.{AllByRecursion, AllWithin, reduce}
use Rattle.std.specs.List.Sorted.{IsStrictlySortedBy, IsPartitionedBy}
use Rattle.std.specs.declared.cmp.Ordering.TheVariants.{Less, Equal, Greater}
use Rattle.std.specs.Ordering.{nat_cmp}
use Rattle.std.specs.Cmp.{nat_cmp_total}
use Rattle.rk_bytes.specs.declared.model.view.FamilyLine.{FamilyLine}
use Rattle.rk_view.specs.Kept.{with_family, has_family, AreRising}

less_lt : (a b : ℕ) → nat_cmp a b ≡ Less → a < b
less_lt a b e = by (nat_lt a b) refl e
  where
    by : (l : Bool) → nat_lt a b ≡ l → cond l Less (cond (a == b) Equal Greater) ≡ Less → a < b
    by true is e = grind (arith, nat_tests)
    by false is e = no (a == b) e
      where
        no : (l : Bool) → cond l Equal Greater ≡ Less → a < b
        no true e = cc
        no false e = cc

lt_less : (a b : ℕ) → a < b → nat_cmp a b ≡ Less
lt_less a b l = ap (λ t. cond t Less (cond (a == b) Equal Greater)) (let e : nat_lt a b ≡ true = grind (arith, nat_tests) in e)

below_ids : (n : ℕ) (lines : List FamilyLine) → AllByRecursion (λ y. nat_cmp n y ≡ Less) (map (λ line. line.id) lines) → (j : ℕ) (d : FamilyLine) → j < length lines → n < (get_or lines j d).id
below_ids n [] below j d inside = absurd (omega arith)
below_ids n (x ∷ lines) below zero d inside = less_lt n x.id below.0
below_ids n (x ∷ lines) below (suc j) d inside = below_ids n lines below.1 j d (omega arith)

pub ids_part : (id : ℕ) (lines : List FamilyLine) → AreRising lines → IsPartitionedBy (λ line. nat_lt line.id id) lines
unfolding IsStrictlySortedBy
ids_part id [] rising i j d before inside e = absurd (omega arith)
ids_part id (x ∷ lines) rising zero zero d before inside e = e
ids_part id (x ∷ lines) rising zero (suc j) d before inside e = let less : x.id < (get_or lines j d).id = below_ids x.id lines rising.0 j d (omega arith) in grind (arith, nat_tests)
ids_part id (x ∷ lines) rising (suc i) zero d before inside e = absurd (omega arith)
ids_part id (x ∷ lines) rising (suc i) (suc j) d before inside e = ids_part id lines rising.1 i j d (omega arith) (omega arith) e

neither : (a b : Bool) → (a || b) ≡ false → (a ≡ false) × (b ≡ false)
neither true b e = cc
neither false b e = (refl, e)

-- where a family is put
pub put_line : (line : FamilyLine) (lines : List FamilyLine) (i : ℕ) → i ≤ length lines → has_family line.id lines ≡ false
    → AllWithin (λ other. nat_lt other.id line.id ≡ true) lines 0 i → AllWithin (λ other. nat_lt other.id line.id ≡ false) lines i (length lines)
    → take i lines ++ line ∷ drop i lines ≡ with_family line lines
put_line line [] zero inside new before after = refl
put_line line [] (suc i) inside new before after = absurd (omega arith)
put_line line (x ∷ lines) zero inside new before after =
    let not_less = after 0 x (omega arith) (omega arith) in
    let other = (neither (x.id == line.id) (has_family line.id lines) new).0 in
    let less : nat_lt line.id x.id ≡ true = grind (arith, nat_tests) in
    sym (ap (λ b. if b then line ∷ x ∷ lines else x ∷ with_family line lines) less)
put_line line (x ∷ lines) (suc i) inside new before after =
    let less = before 0 x (omega arith) (omega arith) in
    let above : nat_lt line.id x.id ≡ false = grind (arith, nat_tests) in
    ap (λ ls. x ∷ ls) (put_line line lines i (omega arith) (neither (x.id == line.id) (has_family line.id lines) new).1 (λ k d low high. before (suc k) d (omega arith) (omega arith)) (λ k d low high. after (suc k) d (omega arith) (omega arith)))
    ∙ sym (ap (λ b. if b then line ∷ x ∷ lines else x ∷ with_family line lines) above)

below_with : (n : ℕ) (line : FamilyLine) (lines : List FamilyLine) → n < line.id → AllByRecursion (λ y. nat_cmp n y ≡ Less) (map (λ l. l.id) lines) → AllByRecursion (λ y. nat_cmp n y ≡ Less) (map (λ l. l.id) (with_family line lines))
below_with n line [] less below = (lt_less n line.id less, tt)
below_with n line (x ∷ lines) less below = by (nat_lt line.id x.id) (below_with n line lines less below.1)
  where
    by : (b : Bool) → AllByRecursion (λ y. nat_cmp n y ≡ Less) (map (λ l. l.id) (with_family line lines)) → AllByRecursion (λ y. nat_cmp n y ≡ Less) (map (λ l. l.id) (if b then line ∷ x ∷ lines else x ∷ with_family line lines))
    by true later = (lt_less n line.id less, (below.0, below.1))
    by false later = (below.0, later)

below_less : (m n : ℕ) (ids : List ℕ) → m < n → AllByRecursion (λ y. nat_cmp n y ≡ Less) ids → AllByRecursion (λ y. nat_cmp m y ≡ Less) ids
below_less m n [] less below = tt
below_less m n (y ∷ ids) less below = (nat_cmp_total.trans m n y (lt_less m n less) below.0, below_less m n ids less below.1)

-- the ids rise still
pub rising-with : (line : FamilyLine) (lines : List FamilyLine) → AreRising lines → has_family line.id lines ≡ false → AreRising (with_family line lines)
unfolding IsStrictlySortedBy
rising-with line [] rising new = (tt, tt)
rising-with line (x ∷ lines) rising new = by (nat_lt line.id x.id) refl (rising-with line lines rising.1 (neither (x.id == line.id) (has_family line.id lines) new).1)
  where
    by : (b : Bool) → nat_lt line.id x.id ≡ b → AreRising (with_family line lines) → AreRising (if b then line ∷ x ∷ lines else x ∷ with_family line lines)
    by true is later = let less : line.id < x.id = grind (arith, nat_tests) in ((lt_less line.id x.id less, below_less line.id x.id (map (λ l. l.id) lines) less rising.0), rising)
    by false is later =
        let other = (neither (x.id == line.id) (has_family line.id lines) new).0 in
        let less : x.id < line.id = grind (arith, nat_tests) in
        (below_with x.id line lines less rising.0, later)

min_less : (a b : ℕ) → a < b → min a b ≡ a
min_less a b less = omega arith

least_first : (n : ℕ) (lines : List FamilyLine) (p : FamilyLine → Bool) → AllByRecursion (λ y. nat_cmp n y ≡ Less) (map (λ l. l.id) lines) → fold min n (map (λ l. l.id) (filter p lines)) ≡ n
least_first n [] p below = refl
least_first n (x ∷ lines) p below = by (p x) (least_first n lines p below.1)
  where
    by : (b : Bool) → fold min n (map (λ l. l.id) (filter p lines)) ≡ n → fold min n (map (λ (l : FamilyLine). l.id) (cond b (x ∷ filter p lines) (filter p lines))) ≡ n
    by true later = ap (λ k. fold min k (map (λ l. l.id) (filter p lines))) (min_less n x.id (less_lt n x.id below.0)) ∙ later
    by false later = later

-- of families in rising id the first one has the least
pub first_named : (p : FamilyLine → Bool) (lines : List FamilyLine) → AreRising lines → option_map (λ line. line.id) (find p lines) ≡ reduce min (map (λ line. line.id) (filter p lines))
unfolding IsStrictlySortedBy
first_named p [] rising = refl
first_named p (x ∷ lines) rising = by (p x) (first_named p lines rising.1)
  where
    by : (b : Bool) → option_map (λ line. line.id) (find p lines) ≡ reduce min (map (λ line. line.id) (filter p lines))
        → option_map (λ (line : FamilyLine). line.id) (cond b (Some x) (find p lines)) ≡ reduce min (map (λ line. line.id) (cond b (x ∷ filter p lines) (filter p lines)))
    by true later = ap Some (sym (least_first x.id lines p rising.0))
    by false later = later

pub rising-none : (lines : List FamilyLine) → lines ≡ [] → AreRising lines
unfolding IsStrictlySortedBy
rising-none [] e = tt
rising-none (x ∷ lines) e = cc
