-- How many files overlap the next one, in parts.
use Rattle.std.proofs.Common.{◌≡◌, ℕ, zero, suc, ◌+◌, ◌-◌, ◌<◌, ◌≤◌, Bool, true, false, cond, List, [], ◌∷◌, ◌++◌, length, get_or, slice_get, insert, remove, take, drop, Option, Some, None, refl, sym, ap, ◌∙◌, arith}
use Rattle.std.proofs.lemmas.List.Edits.{length-insert, length-remove}
use Rattle.rk_bytes.specs.declared.model.manifest.FileMeta.{FileMeta}
use Rattle.rk_version.specs.Rankings.{meeting, clash_count, file_before}
use Rattle.rk_version.specs.Spots.{clash, first_clash}
use Rattle.rk_version.proofs.RankOrder.{split_at}

meeting_small : (a b : Option FileMeta) → meeting a b ≤ 1
meeting_small None b = omega arith
meeting_small (Some a) None = omega arith
meeting_small (Some a) (Some b) = by (clash a b)
  where
    by : (told : Bool) → cond told 1 0 ≤ 1
    by true = omega arith
    by false = omega arith

-- files in front of a place, and others behind it
joined : (zs : List FileMeta) (place : ℕ) (ys : List FileMeta) → place ≤ length zs → clash_count (take place zs ++ ys) ≡ clash_count (take place zs) + (meeting (file_before zs place) (slice_get ys 0) + clash_count ys)
joined zs zero ys in' = omega arith
joined [] (suc place) ys in' = absurd (omega arith)
joined (x ∷ zs) (suc zero) ys in' = omega arith
joined (x ∷ []) (suc (suc place)) ys in' = absurd (omega arith)
joined (x ∷ z ∷ zs) (suc (suc place)) ys in' = let rest = joined (z ∷ zs) (suc place) ys (omega arith) in omega (arith, rest)

taken_apart : (zs : List FileMeta) (place : ℕ) → take place zs ++ drop place zs ≡ zs
taken_apart zs zero = refl
taken_apart [] (suc place) = refl
taken_apart (x ∷ zs) (suc place) = ap (λ rest. x ∷ rest) (taken_apart zs place)

first_left : (zs : List FileMeta) (place : ℕ) → slice_get (drop place zs) 0 ≡ slice_get zs place
first_left [] zero = refl
first_left [] (suc place) = refl
first_left (x ∷ zs) zero = refl
first_left (x ∷ zs) (suc place) = first_left zs place

module _ (zs : List FileMeta) (place : ℕ) (in' : place ≤ length zs) where
  -- all files, by this place
  parts : clash_count zs ≡ clash_count (take place zs) + (meeting (file_before zs place) (slice_get zs place) + clash_count (drop place zs))
  parts = sym (ap clash_count (taken_apart zs place)) ∙ joined zs place (drop place zs) in' ∙ ap (λ next. clash_count (take place zs) + (meeting (file_before zs place) next + clash_count (drop place zs))) (first_left zs place)

  -- with one more file in it
  parts_with : (x : FileMeta) → clash_count (insert zs place x) ≡ clash_count (take place zs) + (meeting (file_before zs place) (Some x) + (meeting (Some x) (slice_get zs place) + clash_count (drop place zs)))
  parts_with x = joined zs place (x ∷ drop place zs) in' ∙ ap (λ next. clash_count (take place zs) + (meeting (file_before zs place) (Some x) + (meeting (Some x) next + clash_count (drop place zs)))) (first_left zs place)

module _ (zs : List FileMeta) (place : ℕ) (in' : place < length zs) where
  -- by the file that stands in this place
  parts_at : (x : FileMeta) → x ≡ get_or zs place x → clash_count zs ≡ clash_count (take place zs) + (meeting (file_before zs place) (Some x) + (meeting (Some x) (slice_get zs (suc place)) + clash_count (drop (suc place) zs)))
  parts_at x is =
      sym (ap clash_count (split_at place zs x in' is)) ∙ joined zs place (x ∷ drop (suc place) zs) (omega arith)
      ∙ ap (λ next. clash_count (take place zs) + (meeting (file_before zs place) (Some x) + (meeting (Some x) next + clash_count (drop (suc place) zs)))) (first_left zs (suc place))

  -- without it
  parts_without : clash_count (remove zs place) ≡ clash_count (take place zs) + (meeting (file_before zs place) (slice_get zs (suc place)) + clash_count (drop (suc place) zs))
  parts_without =
      joined zs place (drop (suc place) zs) (omega arith) ∙ ap (λ next. clash_count (take place zs) + (meeting (file_before zs place) next + clash_count (drop (suc place) zs))) (first_left zs (suc place))

-- there are fewer than files
few : (zs : List FileMeta) → clash_count zs ≤ length zs - 1
few [] = omega arith
few (x ∷ []) = omega arith
few (x ∷ z ∷ zs) = let rest = few (z ∷ zs) in let one = meeting_small (Some x) (Some z) in omega (arith, rest, one)

-- where there are none, none is the first
pub none_first : (zs : List FileMeta) → clash_count zs ≡ 0 → first_clash zs ≡ None
none_first [] none = refl
none_first (x ∷ []) none = refl
none_first (x ∷ z ∷ zs) none = by (clash x z) refl (λ later. none_first (z ∷ zs) later)
  where
    by : (told : Bool) → clash x z ≡ told → (clash_count (z ∷ zs) ≡ 0 → first_clash (z ∷ zs) ≡ None) → first_clash (x ∷ z ∷ zs) ≡ None
    by true e rest = let one : meeting (Some x) (Some z) ≡ 1 = ap (λ t. cond t 1 0) e in absurd (omega (arith, one, none))
    by false e rest = ap (λ t. cond t (Some x.level) (first_clash (z ∷ zs))) e ∙ rest (omega (arith, none))

-- The clashes after one more file in a place, counted by those that it makes and the one that it parts.
module _ (zs : List FileMeta) (place : ℕ) (x : FileMeta) (in' : place ≤ length zs) (clashes parted front behind : ℕ) (counted : clashes ≡ clash_count zs)
    (parted_is : parted ≡ meeting (file_before zs place) (slice_get zs place)) (front_is : front ≡ meeting (file_before zs place) (Some x)) (behind_is : behind ≡ meeting (Some x) (slice_get zs place)) where
  pub parted_small : parted ≤ clashes
  parted_small = let all = parts zs place in' in omega (arith, all, counted, parted_is)

  pub sum_with : clashes - parted + front + behind ≡ clash_count (insert zs place x)
  sum_with =
      let all = parts zs place in' in
      let more = parts_with zs place in' x in
      omega (arith, all, more, counted, parted_is, front_is, behind_is)

  pub sum_with_small : clashes - parted + front + behind ≤ length zs
  sum_with_small =
      let sum = sum_with in
      let bound = few (insert zs place x) in
      let long = length-insert zs place x in' in
      omega (arith, sum, bound, long)

-- The clashes without the file in a place, counted by those that it made and the one that comes.
module _ (zs : List FileMeta) (place : ℕ) (x : FileMeta) (in' : place < length zs) (is : x ≡ get_or zs place x) (clashes front behind joins : ℕ) (counted : clashes ≡ clash_count zs)
    (front_is : front ≡ meeting (file_before zs place) (Some x)) (behind_is : behind ≡ meeting (Some x) (slice_get zs (suc place))) (joins_is : joins ≡ meeting (file_before zs place) (slice_get zs (suc place))) where
  pub both_small : front + behind ≤ clashes
  both_small = let all = parts_at zs place in' x is in omega (arith, all, counted, front_is, behind_is)

  pub sum_without : clashes - front - behind + joins ≡ clash_count (remove zs place)
  sum_without =
      let all = parts_at zs place in' x is in
      let rest = parts_without zs place in' in
      omega (arith, all, rest, counted, front_is, behind_is, joins_is)

  pub sum_without_small : clashes - front - behind + joins ≤ length zs
  sum_without_small =
      let sum = sum_without in
      let bound = few (remove zs place) in
      let long = length-remove zs place in' in
      omega (arith, sum, bound, long)
