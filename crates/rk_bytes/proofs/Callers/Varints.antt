-- A number's shortest varint is read again, whatever follows it, and no spelling is shorter.
use Rattle.std.proofs.Common.{◌≡◌, ℕ, zero, suc, ◌+◌, ◌*◌, ◌/◌, ◌%◌, ◌^◌, ◌<◌, ◌≤◌, Bool, true, false, List, [], ◌∷◌, ◌++◌, length, take, drop, nat_lt, nat_le, cond, refl, sym, ap, subst, ◌∙◌, arith, append_assoc, length-append}
use Rattle.std.specs.Prelude.{Ok, Err}
use Rattle.std.specs.List.{prefix_len}
use Rattle.std.proofs.lemmas.List.Folds.{length-prefix_len}
use Rattle.std.proofs.Math.Seq.{take-append_seam, drop-append_seam}
use Rattle.std.proofs.lemmas.Bool.{ltb-true, ltb-false, lt-ltb, le-ltb, le-leb, lt-leb}
use Rattle.rk_bytes.specs.declared.model.number.NumFault.TheVariants.{Cut, TooLarge}
use Rattle.rk_bytes.specs.Model.Numbers.{IsVarint, IsVarint32, IsVarint64, Read, varint_with, varint_of, varint_at, varint32_at, varint64_at, prefixed_of, prefixed_at, groups_value, high_count}
use Rattle.rk_bytes.proofs.Callers.Readings.{first_step, one_more_group, part_of-append}

-- 128 to the power of more + 1
abbrev bound : ℕ → ℕ
bound zero = 128
bound (suc more) = 128 * bound more

abbrev is_high : ℕ → Bool
is_high b = nat_le 128 b

low : (n : ℕ) (rest : List ℕ) → n < 128 → prefix_len is_high (n ∷ rest) + 1 ≡ 1
low n rest below = ap (λ test. cond test (1 + prefix_len is_high rest) 0 + 1) (lt-leb 128 n below)

high : (n : ℕ) (rest : List ℕ) → 128 ≤ n → prefix_len is_high (n ∷ rest) ≡ 1 + prefix_len is_high rest
high n rest above = ap (λ test. cond test (1 + prefix_len is_high rest) 0) (le-leb 128 n above)

prefix_len-varint : (more n : ℕ) (rest : List ℕ) → n < bound more → prefix_len is_high (varint_with more n ++ rest) + 1 ≡ length (varint_with more n)
prefix_len-varint zero n rest below = low n rest below
prefix_len-varint (suc more) n rest below =
    by (nat_lt n 128) refl (prefix_len-varint more (n / 128) rest (omega arith))
  where
    by : (test : Bool) → nat_lt n 128 ≡ test → prefix_len is_high (varint_with more (n / 128) ++ rest) + 1 ≡ length (varint_with more (n / 128))
        → prefix_len is_high (cond test (n ∷ []) ((n % 128 + 128) ∷ varint_with more (n / 128)) ++ rest) + 1 ≡ length (cond test (n ∷ []) ((n % 128 + 128) ∷ varint_with more (n / 128)))
    by true told after = low n rest (ltb-true n 128 told)
    by false told after =
        let first : prefix_len is_high ((n % 128 + 128) ∷ (varint_with more (n / 128) ++ rest)) ≡ 1 + prefix_len is_high (varint_with more (n / 128) ++ rest) = high (n % 128 + 128) (varint_with more (n / 128) ++ rest) (omega arith) in
        omega arith

groups_value-varint : (more n : ℕ) → n < bound more → groups_value (varint_with more n) ≡ n
groups_value-varint zero n below = omega arith
groups_value-varint (suc more) n below = by (nat_lt n 128) refl (groups_value-varint more (n / 128) (omega arith))
  where
    by : (test : Bool) → nat_lt n 128 ≡ test → groups_value (varint_with more (n / 128)) ≡ n / 128
        → groups_value (cond test (n ∷ []) ((n % 128 + 128) ∷ varint_with more (n / 128))) ≡ n
    by true told after = let low : n < 128 = ltb-true n 128 told in omega arith
    by false told after = omega arith

length-varint : (more most n : ℕ) → n < bound most → length (varint_with more n) ≤ suc most
length-varint zero most n below = omega arith
length-varint (suc more) zero n below = by (nat_lt n 128) refl
  where
    by : (test : Bool) → nat_lt n 128 ≡ test → length (cond test (n ∷ []) ((n % 128 + 128) ∷ varint_with more (n / 128))) ≤ 1
    by true told = omega arith
    by false told = let high : 128 ≤ n = ltb-false n 128 told in absurd (omega arith)
length-varint (suc more) (suc most) n below = by (nat_lt n 128) (length-varint more most (n / 128) (omega arith))
  where
    by : (test : Bool) → length (varint_with more (n / 128)) ≤ suc most
        → length (cond test (n ∷ []) ((n % 128 + 128) ∷ varint_with more (n / 128))) ≤ suc (suc most)
    by true shorter = omega arith
    by false shorter = omega arith

-- what varint_at answers where the first len bytes are the varint
answer : (most bits len : ℕ) → List ℕ → Read ℕ
answer most bits len bytes =
    cond (nat_lt most len) (Err TooLarge)
    (cond (nat_lt (length bytes) len) (Err Cut)
    (cond (nat_lt (groups_value (take len bytes)) (2 ^ bits)) (Ok (groups_value (take len bytes), drop len bytes)) (Err TooLarge)))

answer-append : (most bits n : ℕ) (bytes rest : List ℕ) → groups_value bytes ≡ n → length bytes ≤ most → n < 2 ^ bits → answer most bits (length bytes) (bytes ++ rest) ≡ Ok (n, rest)
unfolding answer
answer-append most bits n bytes rest value short fits =
    let within : length bytes ≤ length (bytes ++ rest) = omega (arith, length-append bytes rest) in
    rw (le-ltb most (length bytes) short, le-ltb (length (bytes ++ rest)) (length bytes) within, take-append_seam bytes rest, drop-append_seam bytes rest, value, lt-ltb n (2 ^ bits) fits)

pub varint_at-varint : (most bits more n : ℕ) (rest : List ℕ) → n < bound more → n < bound most → n < 2 ^ bits → varint_at (suc most) bits (varint_with more n ++ rest) ≡ Ok (n, rest)
unfolding answer
varint_at-varint most bits more n rest below fewer fits =
    let bytes : List ℕ = varint_with more n in
    let len_is : high_count (bytes ++ rest) + 1 ≡ length bytes = ap (λ len. len + 1) (length-prefix_len is_high (bytes ++ rest)) ∙ prefix_len-varint more n rest below in
    ap (λ len. answer (suc most) bits len (bytes ++ rest)) len_is
    ∙ answer-append (suc most) bits n bytes rest (groups_value-varint more n below) (length-varint more most n fewer) fits

-- the varints and slices that are written are read again, whatever follows them
pub varint32-written : (n : ℕ) (rest : List ℕ) → n < 2 ^ 32 → varint32_at (varint_of n ++ rest) ≡ Ok (n, rest)
varint32-written n rest below = varint_at-varint 4 32 9 n rest (omega arith) (omega arith) below

pub varint64-written : (n : ℕ) (rest : List ℕ) → n < 2 ^ 64 → varint64_at (varint_of n ++ rest) ≡ Ok (n, rest)
varint64-written n rest below = varint_at-varint 9 64 9 n rest (omega arith) (omega arith) below

pub prefixed-written : (slice rest : List ℕ) → length slice < 2 ^ 32 → prefixed_at (prefixed_of slice ++ rest) ≡ Ok (slice, rest)
prefixed-written slice rest short =
    ap prefixed_at (append_assoc (varint_of (length slice)) slice rest)
    ∙ first_step (varint32_at (varint_of (length slice) ++ (slice ++ rest))) _ _ (varint32-written (length slice) (slice ++ rest) short)
    ∙ part_of-append slice rest

-- what is written is a varint
groups-varint : (more n : ℕ) → n < bound more → IsVarint (varint_with more n)
groups-varint zero n below = below
groups-varint (suc more) n below = by (nat_lt n 128) refl (groups-varint more (n / 128) (omega arith))
  where
    by : (test : Bool) → nat_lt n 128 ≡ test → IsVarint (varint_with more (n / 128)) → IsVarint (cond test (n ∷ []) ((n % 128 + 128) ∷ varint_with more (n / 128)))
    by true told after = ltb-true n 128 told
    by false told after = one_more_group (n % 128 + 128) (varint_with more (n / 128)) (omega arith) (omega arith) after

pub IsVarint32-varint_of : (n : ℕ) → n < 2 ^ 32 → IsVarint32 (varint_of n) n
IsVarint32-varint_of n below = record {
  groups = groups-varint 9 n (omega arith);
  short = length-varint 9 4 n (omega arith);
  fits = below;
  value = sym (groups_value-varint 9 n (omega arith));
}

pub IsVarint64-varint_of : (n : ℕ) → n < 2 ^ 64 → IsVarint64 (varint_of n) n
IsVarint64-varint_of n below = record {
  groups = groups-varint 9 n (omega arith);
  short = length-varint 9 9 n (omega arith);
  fits = below;
  value = sym (groups_value-varint 9 n (omega arith));
}

-- so many groups have a value below this bound
groups_value-below : (b : ℕ) (bytes : List ℕ) → groups_value (b ∷ bytes) < bound (length bytes)
groups_value-below b [] = omega arith
groups_value-below b (next ∷ bytes) = let below = groups_value-below next bytes in omega arith

pub shortest : (n : ℕ) (bytes : List ℕ) → IsVarint64 bytes n → length (varint_of n) ≤ length bytes
shortest n [] v = absurd v.groups
shortest n (b ∷ bytes) v = length-varint 9 (length bytes) n (subst (λ n. n < bound (length bytes)) (sym v.value) (groups_value-below b bytes))
