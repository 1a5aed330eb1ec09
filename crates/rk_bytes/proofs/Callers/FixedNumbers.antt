-- Little-endian bytes and the number that they spell.
use Rattle.std.proofs.Common.{◌≡◌, ℕ, zero, suc, ◌+◌, ◌*◌, ◌/◌, ◌%◌, ◌<◌, List, [], ◌∷◌, length, refl, ap, arith}
use Rattle.rk_bytes.specs.Model.Numbers.{AreBytes, little_endian, fixed_of}

-- 256 to the power of len
abbrev pub fixed_bound : ℕ → ℕ
fixed_bound zero = 1
fixed_bound (suc len) = 256 * fixed_bound len

pub little_endian-fixed_of : (len n : ℕ) → n < fixed_bound len → little_endian (fixed_of len n) ≡ n
little_endian-fixed_of zero n below = omega arith
little_endian-fixed_of (suc len) n below = let rest = little_endian-fixed_of len (n / 256) (omega arith) in omega arith

pub length-fixed_of : (len n : ℕ) → length (fixed_of len n) ≡ len
length-fixed_of zero n = refl
length-fixed_of (suc len) n = ap suc (length-fixed_of len (n / 256))

pub fixed_of-little_endian : (bytes : List ℕ) → AreBytes bytes → fixed_of (length bytes) (little_endian bytes) ≡ bytes
fixed_of-little_endian [] are = refl
fixed_of-little_endian (b ∷ bytes) are =
    let byte : b < 256 = are.0 in
    let low : (b + 256 * little_endian bytes) % 256 ≡ b = omega arith in
    let high : (b + 256 * little_endian bytes) / 256 ≡ little_endian bytes = omega arith in
    rw (low, high) (ap (λ rest. b ∷ rest) (fixed_of-little_endian bytes are.1))

-- bytes of one length that spell one number
pub little_endian-only_equal : (xs ys : List ℕ) → length xs ≡ length ys → AreBytes xs → AreBytes ys → little_endian xs ≡ little_endian ys → xs ≡ ys
little_endian-only_equal [] [] same bytes bytes' e = refl
little_endian-only_equal [] (y ∷ ys) same bytes bytes' e = absurd (omega arith)
little_endian-only_equal (x ∷ xs) [] same bytes bytes' e = absurd (omega arith)
little_endian-only_equal (x ∷ xs) (y ∷ ys) same bytes bytes' e =
    let x-byte : x < 256 = bytes.0 in
    let y-byte : y < 256 = bytes'.0 in
    let head : x ≡ y = omega arith in
    let tail : little_endian xs ≡ little_endian ys = omega arith in
    let rest = little_endian-only_equal xs ys (omega arith) bytes.1 bytes'.1 tail in
    λ i. head i ∷ rest i
