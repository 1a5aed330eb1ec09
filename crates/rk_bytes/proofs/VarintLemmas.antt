-- A varint is read from its front on, group after group.
use Rattle.std.specs.Prelude.{nat_lt, nat_le, Ok, Err}
use Rattle.std.proofs.Common.{◌≡◌, ◌⊎◌, ℕ, zero, suc, ◌+◌, ◌*◌, ◌%◌, ◌^◌, ◌<◌, ◌≤◌, Bool, true, false, cond, List, [], ◌∷◌, length, take, drop, get_or, refl, ap, ◌∙◌, inl, inr, add-one, arith}
use Rattle.std.proofs.Math.Nat.{pow-succ', mul_assoc, pow-le-pow_right}
use Rattle.std.specs.List.{prefix_len}
use Rattle.std.proofs.lemmas.List.Folds.{length-prefix_len}
use Rattle.std.proofs.lemmas.Bool.{lt-ltb, le-ltb, le-leb, lt-leb, cases_lt, cond-true, cond-false}
use Rattle.rk_bytes.specs.declared.model.number.NumFault.TheVariants.{Cut, TooLarge}
use Rattle.rk_bytes.specs.Model.Numbers.{Read, high_count, groups_value, varint_at}

abbrev is_high : ℕ → Bool
is_high b = nat_le 128 b

-- how many bytes at the front are high
count-cons : (x : ℕ) (xs : List ℕ) → prefix_len is_high (x ∷ xs) ≡ cond (is_high x) (1 + prefix_len is_high xs) 0
count-cons x xs = refl

grows : (xs : List ℕ) (i : ℕ) → i ≤ prefix_len is_high xs → i < length xs → 128 ≤ get_or xs i 0 → i < prefix_len is_high xs
grows [] i reached within high = absurd (omega arith)
grows (x ∷ xs) zero reached within high = omega (arith, ap (λ test. cond test (1 + prefix_len is_high xs) 0) (le-leb 128 x high))
grows (x ∷ xs) (suc i) reached within high = by (is_high x) (λ so_far. grows xs i so_far (omega arith) high) reached
  where
    by : (test : Bool) → (i ≤ prefix_len is_high xs → i < prefix_len is_high xs) → suc i ≤ cond test (1 + prefix_len is_high xs) 0 → suc i < cond test (1 + prefix_len is_high xs) 0
    by true more so_far = let further : i < prefix_len is_high xs = more (omega arith) in omega arith
    by false more so_far = absurd (omega arith)

stops : (xs : List ℕ) (i : ℕ) → i ≤ prefix_len is_high xs → i < length xs → get_or xs i 0 < 128 → prefix_len is_high xs ≡ i
stops [] i reached within low = absurd (omega arith)
stops (x ∷ xs) zero reached within low = ap (λ test. cond test (1 + prefix_len is_high xs) 0) (lt-leb 128 x low)
stops (x ∷ xs) (suc i) reached within low = by (is_high x) (λ so_far. stops xs i so_far (omega arith) low) reached
  where
    by : (test : Bool) → (i ≤ prefix_len is_high xs → prefix_len is_high xs ≡ i) → suc i ≤ cond test (1 + prefix_len is_high xs) 0 → cond test (1 + prefix_len is_high xs) 0 ≡ suc i
    by true more so_far = let same : prefix_len is_high xs ≡ i = more (omega arith) in omega arith
    by false more so_far = absurd (omega arith)

count-within : (xs : List ℕ) → prefix_len is_high xs ≤ length xs
count-within [] = omega arith
count-within (x ∷ xs) = by (is_high x) (count-within xs)
  where
    by : (test : Bool) → prefix_len is_high xs ≤ length xs → cond test (1 + prefix_len is_high xs) 0 ≤ suc (length xs)
    by true more = omega arith
    by false more = omega arith

-- one group more
pub groups_value-more : (xs : List ℕ) (i : ℕ) → i < length xs → groups_value (take (suc i) xs) ≡ groups_value (take i xs) + 128 ^ i * (get_or xs i 0 % 128)
groups_value-more [] i within = absurd (omega arith)
groups_value-more (x ∷ xs) zero within = omega arith
groups_value-more (x ∷ xs) (suc i) within =
    let group = get_or xs i 0 % 128 in
    let scaled : 128 ^ suc i * group ≡ 128 * (128 ^ i * group) = ap (λ power. power * group) (pow-succ' 128 i) ∙ mul_assoc 128 (128 ^ i) group in
    let more : groups_value (take (suc i) xs) ≡ groups_value (take i xs) + 128 ^ i * group = groups_value-more xs i (omega arith) in
    omega (arith, more, scaled)

pub groups_value-below : (xs : List ℕ) (i : ℕ) → groups_value (take i xs) < 128 ^ i
groups_value-below xs zero = omega arith
groups_value-below [] (suc i) = omega (arith, pow-succ' 128 i, groups_value-below [] i)
groups_value-below (x ∷ xs) (suc i) = omega (arith, pow-succ' 128 i, groups_value-below xs i)

-- what is read, where the varint would have so many bytes
abbrev read_of : ℕ → List ℕ → ℕ → Read ℕ
read_of most bytes len =
    let value = groups_value (take len bytes) in
    cond (nat_lt most len) (Err TooLarge) (cond (nat_lt (length bytes) len) (Err Cut) (cond (nat_lt value (2 ^ 64)) (Ok (value, drop len bytes)) (Err TooLarge)))

read_of-whole : (most : ℕ) (bytes : List ℕ) (len : ℕ) → len ≤ most → len ≤ length bytes → groups_value (take len bytes) < 2 ^ 64 → read_of most bytes len ≡ Ok (groups_value (take len bytes), drop len bytes)
read_of-whole most bytes len short within fits =
    cond-false _ _ _ (le-ltb most len short) ∙ cond-false _ _ _ (le-ltb (length bytes) len within)
    ∙ cond-true _ _ _ (lt-ltb (groups_value (take len bytes)) (2 ^ 64) fits)

read_of-cut : (most : ℕ) (bytes : List ℕ) (len : ℕ) → len ≤ most → length bytes < len → read_of most bytes len ≡ Err Cut
read_of-cut most bytes len short ended =
    cond-false _ _ _ (le-ltb most len short) ∙ cond-true _ _ _ (lt-ltb (length bytes) len ended)

read_of-long : (most : ℕ) (bytes : List ℕ) (len : ℕ) → most < len → read_of most bytes len ≡ Err TooLarge
read_of-long most bytes len long = cond-true _ _ _ (lt-ltb most len long)

read_of-great : (most : ℕ) (bytes : List ℕ) (len : ℕ) → len ≤ most → len ≤ length bytes → 2 ^ 64 ≤ groups_value (take len bytes) → read_of most bytes len ≡ Err TooLarge
read_of-great most bytes len short within great =
    cond-false _ _ _ (le-ltb most len short) ∙ cond-false _ _ _ (le-ltb (length bytes) len within)
    ∙ cond-false _ _ _ (le-ltb (groups_value (take len bytes)) (2 ^ 64) great)

count_is : (bytes : List ℕ) → high_count bytes ≡ prefix_len is_high bytes
count_is bytes = length-prefix_len is_high bytes

pub high_count-more : (bytes : List ℕ) (i : ℕ) → i ≤ high_count bytes → i < length bytes → 128 ≤ get_or bytes i 0 → i + 1 ≤ high_count bytes
high_count-more bytes i reached within high = let more = grows bytes i (omega (arith, count_is bytes)) within high in omega (arith, count_is bytes, more)

high_count-stop : (bytes : List ℕ) (i : ℕ) → i ≤ high_count bytes → i < length bytes → get_or bytes i 0 < 128 → high_count bytes ≡ i
high_count-stop bytes i reached within low = count_is bytes ∙ stops bytes i (omega (arith, count_is bytes)) within low

-- the value with one group more
pub groups_value-next : (xs : List ℕ) (i : ℕ) → i < length xs → groups_value (take (i + 1) xs) ≡ groups_value (take i xs) + 128 ^ i * (get_or xs i 0 % 128)
groups_value-next xs i within = rw add-one (groups_value-more xs i within)

-- What is read where the bytes up to the last are high and the last isn't.
pub varint_at-stop : (most : ℕ) (bytes : List ℕ) (i : ℕ) → i < most → i ≤ high_count bytes → i < length bytes → get_or bytes i 0 < 128 → groups_value (take (i + 1) bytes) < 2 ^ 64
    → varint_at most 64 bytes ≡ Ok (groups_value (take (i + 1) bytes), drop (i + 1) bytes)
varint_at-stop most bytes i below reached within low fits =
    ap (λ count. read_of most bytes (count + 1)) (high_count-stop bytes i reached within low) ∙ read_of-whole most bytes (i + 1) (omega arith) (omega arith) fits

pub varint_at-cut : (most : ℕ) (bytes : List ℕ) (i : ℕ) → i < most → i ≤ high_count bytes → length bytes ≤ i → varint_at most 64 bytes ≡ Err Cut
varint_at-cut most bytes i below reached ended =
    read_of-cut most bytes (high_count bytes + 1) (omega (arith, count_is bytes, count-within bytes)) (omega (arith, count_is bytes, count-within bytes))

pub varint_at-long : (most : ℕ) (bytes : List ℕ) → most ≤ high_count bytes → varint_at most 64 bytes ≡ Err TooLarge
varint_at-long most bytes reached = read_of-long most bytes (high_count bytes + 1) (omega arith)

-- the tenth group of a number that doesn't fit
pub varint_at-great : (most : ℕ) (bytes : List ℕ) → most ≤ 10 → 9 < most → 9 ≤ high_count bytes → 9 < length bytes → 1 < get_or bytes 9 0 % 128 → varint_at most 64 bytes ≡ Err TooLarge
varint_at-great most bytes most_is below reached within great = elim (cases_lt (get_or bytes 9 0) 128) [
  | inl low ↦
      let value : groups_value (take 10 bytes) ≡ groups_value (take 9 bytes) + 9223372036854775808 * (get_or bytes 9 0 % 128) = groups_value-more bytes 9 within in
      ap (λ count. read_of most bytes (count + 1)) (high_count-stop bytes 9 reached within low) ∙ read_of-great most bytes 10 (omega arith) (omega arith) (omega (arith, value))
  | inr high ↦ varint_at-long most bytes (omega (arith, high_count-more bytes 9 reached within high))
]

-- a group in its place, which doesn't pass 64 bits
pub shifted_group : (group i : ℕ) → i ≤ 9 → group < 128 → (i ≡ 9 → group ≤ 1) → group * 2 ^ (7 * i) % 18446744073709551616 ≡ 128 ^ i * group
shifted_group group zero short low last = omega arith
shifted_group group (suc zero) short low last = omega arith
shifted_group group (suc (suc zero)) short low last = omega arith
shifted_group group (suc (suc (suc zero))) short low last = omega arith
shifted_group group (suc (suc (suc (suc zero)))) short low last = omega arith
shifted_group group (suc (suc (suc (suc (suc zero))))) short low last = omega arith
shifted_group group (suc (suc (suc (suc (suc (suc zero)))))) short low last = omega arith
shifted_group group (suc (suc (suc (suc (suc (suc (suc zero))))))) short low last = omega arith
shifted_group group (suc (suc (suc (suc (suc (suc (suc (suc zero)))))))) short low last = omega arith
shifted_group group (suc (suc (suc (suc (suc (suc (suc (suc (suc zero))))))))) short low last = let few : group ≤ 1 = last refl in omega arith
shifted_group group (suc (suc (suc (suc (suc (suc (suc (suc (suc (suc i)))))))))) short low last = absurd (omega arith)

-- up to the tenth group, a value fits 64 bits
pub groups_value-fits : (xs : List ℕ) (i : ℕ) → i ≤ 9 → i < length xs → (i ≡ 9 → get_or xs i 0 % 128 ≤ 1) → groups_value (take i xs) + 128 ^ i * (get_or xs i 0 % 128) < 2 ^ 64
groups_value-fits xs i short within last = elim (cases_lt i 9) [
  | inl few ↦ let below : groups_value (take (suc i) xs) < 128 ^ suc i = groups_value-below xs (suc i) in
      let most : 128 ^ suc i ≤ 128 ^ 9 = pow-le-pow_right {n = 128} (omega arith) {i = suc i} {j = 9} (omega arith) in omega (arith, groups_value-more xs i within)
  | inr nine ↦ let is : i ≡ 9 = omega arith in let one : get_or xs i 0 % 128 ≤ 1 = last is in
      let front : groups_value (take i xs) < 128 ^ i = groups_value-below xs i in
      let power : 128 ^ i ≡ 9223372036854775808 = ap (λ i. 128 ^ i) is in
      let scaled : 128 ^ i * (get_or xs i 0 % 128) ≡ 9223372036854775808 * (get_or xs i 0 % 128) = ap (λ p. p * (get_or xs i 0 % 128)) power in omega arith
]

-- the value with the next group in its place
pub next_value : (bytes : List ℕ) (i value group : ℕ) → i ≤ 9 → i < length bytes → value ≡ groups_value (take i bytes) → group ≡ get_or bytes i 0 % 128 → (i ≡ 9 → group ≤ 1)
    → (value + group * 2 ^ (7 * i) % 18446744073709551616 ≡ groups_value (take (i + 1) bytes)) × (groups_value (take (i + 1) bytes) < 2 ^ 64)
next_value bytes i value group short within so_far is last =
    let shifted : group * 2 ^ (7 * i) % 18446744073709551616 ≡ 128 ^ i * group = shifted_group group i short (omega arith) last in
    let more : groups_value (take (i + 1) bytes) ≡ groups_value (take i bytes) + 128 ^ i * (get_or bytes i 0 % 128) = groups_value-next bytes i within in
    let same : 128 ^ i * group ≡ 128 ^ i * (get_or bytes i 0 % 128) = ap (λ g. 128 ^ i * g) is in
    let fits : groups_value (take i bytes) + 128 ^ i * (get_or bytes i 0 % 128) < 2 ^ 64 = groups_value-fits bytes i short within (λ nine. omega (arith, last nine)) in
    (omega arith, omega arith)

pub last_group : (i group : ℕ) → (i ≡ 9) × (group ≤ 1) ⊎ (i ≡ 9 → ⊥) → i ≡ 9 → group ≤ 1
last_group i group (inl both) nine = both.1
last_group i group (inr other) nine = absurd (other nine)
