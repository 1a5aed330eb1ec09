-- The keys of the directory rise with their numbers.
use Rattle.std.proofs.Common.{◌≡◌, ℕ, zero, suc, ◌-◌, ◌/◌, ◌%◌, ◌^◌, ◌<◌, List, [], ◌∷◌, ◌++◌, length, take, reverse, refl, sym, ap, ◌∙◌, inl, inr, arith, length-append}
use Rattle.std.proofs.lemmas.List.{length-reverse, reverse-append}
use Rattle.std.proofs.Math.Seq.{take-append_seam}
use Rattle.std.proofs.lemmas.Bool.{cases_lt}
use Rattle.std.specs.declared.cmp.Ordering.{Ordering}
use Rattle.std.specs.declared.cmp.Ordering.TheVariants.{Less, Equal, Greater}
use Rattle.std.specs.Ordering.{nat_cmp, ordering_then}
use Rattle.std.specs.Cmp.{nat_cmp_is}
use Rattle.std.specs.Cmp.Lexicographic.{slice_cmp}
use Rattle.rk_bytes.specs.declared.model.key.Kind.{Kind}
use Rattle.rk_bytes.specs.Model.Numbers.{fixed_of}
use Rattle.rk_bytes.specs.Model.InternalKey.{packed_of, user_key, packed, internal_key, key_cmp}
use Rattle.rk_bytes.specs.Model.Drill.{drill_key}
use Rattle.rk_bytes.proofs.Callers.FixedNumbers.{fixed_bound, length-fixed_of}

-- where the first answers are alike, the rest decide
then_less : (first rest rest' : Ordering) → (rest ≡ Less → rest' ≡ Less) → ordering_then first rest ≡ Less → ordering_then first rest' ≡ Less
then_less Less rest rest' more less = refl
then_less Equal rest rest' more less = more less
then_less Greater rest rest' more less = cc

-- what comes before at the first unequal byte does so whatever follows
slice_cmp-front : (xs ys : List ℕ) (x y : ℕ) → length xs ≡ length ys → slice_cmp nat_cmp xs ys ≡ Less → slice_cmp nat_cmp (xs ++ x ∷ []) (ys ++ y ∷ []) ≡ Less
slice_cmp-front [] [] x y same less = cc
slice_cmp-front [] (b ∷ ys) x y same less = absurd (omega arith)
slice_cmp-front (a ∷ xs) [] x y same less = absurd (omega arith)
slice_cmp-front (a ∷ xs) (b ∷ ys) x y same less =
    then_less (nat_cmp a b) (slice_cmp nat_cmp xs ys) (slice_cmp nat_cmp (xs ++ x ∷ []) (ys ++ y ∷ [])) (slice_cmp-front xs ys x y (omega arith)) less

-- an equal front decides nothing
slice_cmp-last : (xs : List ℕ) (x y : ℕ) → x < y → slice_cmp nat_cmp (xs ++ x ∷ []) (xs ++ y ∷ []) ≡ Less
slice_cmp-last [] x y below = ap (λ r. ordering_then r Equal) (sym (nat_cmp_is x y Less below))
slice_cmp-last (a ∷ xs) x y below = ap (λ r. ordering_then r (slice_cmp nat_cmp (xs ++ x ∷ []) (xs ++ y ∷ []))) (sym (nat_cmp_is a a Equal refl)) ∙ slice_cmp-last xs x y below

pub high_first : (len n : ℕ) → length (reverse (fixed_of len n)) ≡ len
high_first len n = length-reverse (fixed_of len n) ∙ length-fixed_of len n

-- numbers, the most significant byte first, are ordered by their bytes
rising : (len i j : ℕ) → i < j → j < fixed_bound len → slice_cmp nat_cmp (reverse (fixed_of len i)) (reverse (fixed_of len j)) ≡ Less
rising zero i j below fits = absurd (omega arith)
rising (suc len) i j below fits =
    let high : ℕ → List ℕ = λ n. reverse (fixed_of len n) in
    let parts : slice_cmp nat_cmp (reverse (fixed_of (suc len) i)) (reverse (fixed_of (suc len) j)) ≡ slice_cmp nat_cmp (high (i / 256) ++ i % 256 ∷ []) (high (j / 256) ++ j % 256 ∷ []) =
    λ k. slice_cmp nat_cmp (reverse-append (i % 256 ∷ []) (fixed_of len (i / 256)) k) (reverse-append (j % 256 ∷ []) (fixed_of len (j / 256)) k) in
    parts ∙ elim (cases_lt (i / 256) (j / 256)) [
      | inl less ↦ slice_cmp-front (high (i / 256)) (high (j / 256)) (i % 256) (j % 256) (high_first len (i / 256) ∙ sym (high_first len (j / 256))) (rising len (i / 256) (j / 256) less (omega arith))
      | inr no_less ↦
          let same : i / 256 ≡ j / 256 = omega arith in
          let low : i % 256 < j % 256 = omega arith in
          ap (λ n. slice_cmp nat_cmp (high (i / 256) ++ i % 256 ∷ []) (high n ++ j % 256 ∷ [])) (sym same) ∙ slice_cmp-last (high (i / 256)) (i % 256) (j % 256) low
    ]

-- a key with a smaller number comes before
pub drill_key-rises : (i j : ℕ) → i < j → j < 2 ^ 64 → slice_cmp nat_cmp (drill_key i) (drill_key j) ≡ Less
drill_key-rises i j below fits = rising 8 i j below fits

user_key-internal_key : (user : List ℕ) (sequence : ℕ) (kind : Kind) → user_key (internal_key user sequence kind) ≡ user
unfolding internal_key
user_key-internal_key user sequence kind =
    let end : List ℕ = fixed_of 8 (packed_of sequence kind) in
    let eight = length-fixed_of 8 (packed_of sequence kind) in
    let front : length (user ++ end) - 8 ≡ length user = omega (arith, length-append user end) in
    ap (λ len. take len (user ++ end)) front ∙ take-append_seam user end

pub length-internal_key : (i sequence : ℕ) (kind : Kind) → length (internal_key (drill_key i) sequence kind) ≡ 16
unfolding internal_key
length-internal_key i sequence kind = let end = length-fixed_of 8 (packed_of sequence kind) in
    omega (arith, high_first 8 i, length-append (drill_key i) (fixed_of 8 (packed_of sequence kind)))

-- and so does an internal key, whatever its sequence number and kind
pub internal_key-rises : (i j sequence sequence' : ℕ) (kind kind' : Kind) → i < j → j < 2 ^ 64
    → key_cmp (internal_key (drill_key i) sequence kind) (internal_key (drill_key j) sequence' kind') ≡ Less
internal_key-rises i j sequence sequence' kind kind' below fits =
    let a : List ℕ = internal_key (drill_key i) sequence kind in
    let b : List ℕ = internal_key (drill_key j) sequence' kind' in
    let users : slice_cmp nat_cmp (user_key a) (user_key b) ≡ Less =
    ap (λ user. slice_cmp nat_cmp user (user_key b)) (user_key-internal_key (drill_key i) sequence kind)
    ∙ ap (slice_cmp nat_cmp (drill_key i)) (user_key-internal_key (drill_key j) sequence' kind') ∙ drill_key-rises i j below fits in
    ap (λ r. ordering_then r (nat_cmp (packed b) (packed a))) users
