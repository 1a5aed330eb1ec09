-- How the register of a CRC32C goes on. Steps of bits preserve exclusive or, so what a register
-- becomes is the exclusive or of what each of its bytes becomes.
use Rattle.std.proofs.Common.{◌≡◌, ℕ, zero, suc, ◌+◌, ◌*◌, ◌/◌, ◌%◌, ◌^◌, ◌<◌, ◌≤◌, List, [], ◌∷◌, length, get_or, drop, bit_xor, add_comm, add-one, drop-cons, length-drop, drop-drop, get_or-drop, if◌then◌else◌, ◌==◌, zero-add, refl, sym, ap, ◌∙◌, arith}
use Rattle.std.proofs.Math.Nat.{suc-add, div-add-mod'}
use Rattle.std.proofs.lemmas.List.{drop_all}
use Rattle.std.proofs.lemmas.Nat.{xor_shr, xor_mod, xor_comm}
use Rattle.std.specs.Int.Bits.{xor_assoc, xor_zero_r, xor_shifted, shifted_even, shifted_half}
use Rattle.rk_bytes.specs.Model.Checksums.{crc_bit, crc_bits, crc_bytes}

-- ---- exclusive or

-- first with first, and second with second
xor_pairs : (a b c d : ℕ) → bit_xor (bit_xor a b) (bit_xor c d) ≡ bit_xor (bit_xor a c) (bit_xor b d)
xor_pairs a b c d =
    rw (xor_assoc a b (bit_xor c d), ← xor_assoc b c d, xor_comm b c, xor_assoc c b d, ← xor_assoc a c (bit_xor b d)) refl

-- ---- bits

-- what is fed back where this bit falls out
fed_back : ℕ → ℕ
fed_back bit = bit * 0x82F63B78

fed_back-xor : (a b : ℕ) → a < 2 → b < 2 → fed_back (bit_xor a b) ≡ bit_xor (fed_back a) (fed_back b)
unfolding fed_back
fed_back-xor zero zero _ _ = refl
fed_back-xor zero (suc zero) _ _ = refl
fed_back-xor (suc zero) zero _ _ = refl
fed_back-xor (suc zero) (suc zero) _ _ = refl
fed_back-xor (suc (suc a)) b h _ = absurd (omega (arith, h))
fed_back-xor zero (suc (suc b)) _ h = absurd (omega (arith, h))
fed_back-xor (suc zero) (suc (suc b)) _ h = absurd (omega (arith, h))

crc_bit_by_fed_back : (half bit : ℕ) → bit < 2 → (if bit == 1 then bit_xor half 0x82F63B78 else half) ≡ bit_xor half (fed_back bit)
unfolding fed_back
crc_bit_by_fed_back half zero _ = sym (xor_zero_r half)
crc_bit_by_fed_back half (suc zero) _ = refl
crc_bit_by_fed_back half (suc (suc bit)) h = absurd (omega (arith, h))

crc_bit-xor : (x y : ℕ) → crc_bit (bit_xor x y) ≡ bit_xor (crc_bit x) (crc_bit y)
unfolding crc_bit
crc_bit-xor x y =
    let low : (n : ℕ) → n % 2 < 2 = λ n. omega arith in rw (
      crc_bit_by_fed_back (x / 2) (x % 2) (low x),
      crc_bit_by_fed_back (y / 2) (y % 2) (low y),
      crc_bit_by_fed_back (bit_xor x y / 2) (bit_xor x y % 2) (low (bit_xor x y)),
      xor_shr x y 1,
      xor_mod x y 1,
      fed_back-xor (x % 2) (y % 2) (low x) (low y),
    ) (xor_pairs (x / 2) (y / 2) (fed_back (x % 2)) (fed_back (y % 2)))

crc_bits-xor : (n x y : ℕ) → crc_bits n (bit_xor x y) ≡ bit_xor (crc_bits n x) (crc_bits n y)
unfolding crc_bits
crc_bits-xor zero x y = refl
crc_bits-xor (suc n) x y = rw crc_bit-xor (crc_bits-xor n (crc_bit x) (crc_bit y))

pub crc_bits-add : (m n r : ℕ) → crc_bits (m + n) r ≡ crc_bits n (crc_bits m r)
unfolding crc_bits
crc_bits-add zero n r = rw (zero-add n)
crc_bits-add (suc m) n r = rw suc-add (crc_bits-add m n (crc_bit r))

-- lowest bits that are 0 fall out
crc_bit-even : (x : ℕ) → x % 2 ≡ 0 → crc_bit x ≡ x / 2
unfolding crc_bit
crc_bit-even x h = rw h

crc_bits-shifted : (n x : ℕ) → crc_bits n (x * 2 ^ n) ≡ x
unfolding crc_bits
crc_bits-shifted zero x = omega arith
crc_bits-shifted (suc n) x =
    rw (crc_bit-even (x * 2 ^ suc n) (shifted_even x n), shifted_half x n) (crc_bits-shifted n x)

-- ---- bytes

-- a number as its lowest byte and the others
parted : (x : ℕ) → bit_xor (x % 2 ^ 8) (x / 2 ^ 8 * 2 ^ 8) ≡ x
parted x =
    xor_comm (x % 2 ^ 8) (x / 2 ^ 8 * 2 ^ 8) ∙ xor_shifted (x / 2 ^ 8) 8 (x % 2 ^ 8) (omega arith)
    ∙ div-add-mod' x 256

-- the lowest byte goes on by itself
crc_bits_parted : (m n x y : ℕ) → m ≡ 8 + n → y ≡ x / 256 → crc_bits m x ≡ bit_xor (crc_bits m (x % 256)) (crc_bits n y)
crc_bits_parted m n x y count rest =
    let high : crc_bits (8 + n) (x / 2 ^ 8 * 2 ^ 8) ≡ crc_bits n (x / 256) =
    crc_bits-add 8 n (x / 2 ^ 8 * 2 ^ 8) ∙ ap (crc_bits n) (crc_bits-shifted 8 (x / 256)) in
    rw (count, rest)
    (ap (crc_bits (8 + n)) (sym (parted x)) ∙ crc_bits-xor (8 + n) (x % 2 ^ 8) (x / 2 ^ 8 * 2 ^ 8)
    ∙ ap (bit_xor (crc_bits (8 + n) (x % 256))) high)

-- the register after its own four bytes and z bytes of zeros, from each of the four
pub crc_bits_by_bytes : (z w : ℕ) → w < 2 ^ 32
    → bit_xor (bit_xor (bit_xor (crc_bits (8 * (z + 3 + 1)) (w % 256)) (crc_bits (8 * (z + 2 + 1)) (w / 256 % 256))) (crc_bits (8 * (z + 1 + 1)) (w / 65536 % 256))) (crc_bits (8 * (z + 1)) (w / 16777216 % 256))
    ≡ crc_bits (8 * (z + 4)) w
crc_bits_by_bytes z w h =
    let count : 8 * (z + 4) ≡ 8 * (z + 3 + 1) = omega arith in
    let first : crc_bits (8 * (z + 3 + 1)) w ≡ _ =
    crc_bits_parted (8 * (z + 3 + 1)) (8 * (z + 2 + 1)) w (w / 256) (omega arith) refl in
    let second : crc_bits (8 * (z + 2 + 1)) (w / 256) ≡ _ =
    crc_bits_parted (8 * (z + 2 + 1)) (8 * (z + 1 + 1)) (w / 256) (w / 65536) (omega arith) (omega arith) in
    let third : crc_bits (8 * (z + 1 + 1)) (w / 65536) ≡ _ =
    crc_bits_parted (8 * (z + 1 + 1)) (8 * (z + 1)) (w / 65536) (w / 16777216 % 256) (omega arith) (omega arith) in
    rw count (rw (first, second, third) simp xor_assoc)

-- the register after one byte
pub byte_taken : (m : ℕ) → bit_xor (crc_bits 8 (m % 256)) (m / 256) ≡ crc_bits 8 m
byte_taken m =
    let none : crc_bits 0 (m / 256) ≡ m / 256 = unfold crc_bits in refl in
    sym (crc_bits_parted 8 0 m (m / 256) refl refl ∙ ap (bit_xor (crc_bits 8 (m % 256))) none)

pub byte_more : (r i : ℕ) (bytes : List ℕ) → i < length bytes → crc_bytes (crc_bits 8 (bit_xor r (get_or bytes i 0))) (drop (i + 1) bytes) ≡ crc_bytes r (drop i bytes)
unfolding crc_bytes
byte_more r i bytes h = rw (drop-cons bytes i 0, add-one) refl

-- the number whose bytes these are, the lowest first
unfoldable word : List ℕ → ℕ
word [] = 0
word (b ∷ bytes) = bit_xor b (word bytes * 2 ^ 8)

word_head : (b : ℕ) (bytes : List ℕ) → b < 256 → word (b ∷ bytes) ≡ b + word bytes * 256
unfolding word
word_head b bytes h = xor_comm b (word bytes * 2 ^ 8) ∙ xor_shifted (word bytes) 8 b h ∙ add_comm (word bytes * 2 ^ 8) b

crc_bits_more : (r b w n : ℕ) → crc_bits (8 * suc n) (bit_xor r (bit_xor b (w * 2 ^ 8))) ≡ crc_bits (8 * n) (bit_xor (crc_bits 8 (bit_xor r b)) w)
crc_bits_more r b w n =
    let count : 8 * suc n ≡ 8 + 8 * n = omega arith in
    rw (count, crc_bits-add 8 (8 * n), ← xor_assoc r b (w * 2 ^ 8), crc_bits-xor 8 (bit_xor r b) (w * 2 ^ 8), crc_bits-shifted 8 w) refl

-- bytes are taken in as one word
crc_bytes_by_word : (r : ℕ) (bytes : List ℕ) → crc_bytes r bytes ≡ crc_bits (8 * length bytes) (bit_xor r (word bytes))
unfolding crc_bytes word
crc_bytes_by_word r [] = let start : crc_bits 0 (bit_xor r 0) ≡ bit_xor r 0 = unfold crc_bits in refl in sym (start ∙ xor_zero_r r)
crc_bytes_by_word r (b ∷ bytes) =
    crc_bytes_by_word (crc_bits 8 (bit_xor r b)) bytes ∙ sym (crc_bits_more r b (word bytes) (length bytes))

-- four bytes as the number that `u32::from_le_bytes` makes of them
abbrev word_of_four : ℕ → ℕ → ℕ → ℕ → ℕ
word_of_four a b c d = a + b * 256 + c * 65536 + d * 16777216

abbrev first_word : List ℕ → ℕ
first_word bytes = word_of_four (get_or bytes 0 0) (get_or bytes 1 0) (get_or bytes 2 0) (get_or bytes 3 0)

abbrev second_word : List ℕ → ℕ
second_word bytes = word_of_four (get_or bytes 4 0) (get_or bytes 5 0) (get_or bytes 6 0) (get_or bytes 7 0)

second_word_lem : (bytes : List ℕ) → first_word (drop 4 bytes) ≡ second_word bytes
second_word_lem bytes = simp get_or-drop

word_of_four_lem : (a b c d : ℕ) → a < 256 → b < 256 → c < 256 → d < 256 → word (a ∷ b ∷ c ∷ d ∷ []) ≡ a + b * 256 + c * 65536 + d * 16777216
word_of_four_lem a b c d ha hb hc hd =
    let none : word [] ≡ 0 = unfold word in refl in
    omega (arith, none, word_head a (b ∷ c ∷ d ∷ []) ha, word_head b (c ∷ d ∷ []) hb, word_head c (d ∷ []) hc, word_head d [] hd)

four_taken : (r : ℕ) (bytes : List ℕ) → 4 ≤ length bytes → ((k : ℕ) → get_or bytes k 0 < 256) → crc_bytes (crc_bits 32 (bit_xor r (first_word bytes))) (drop 4 bytes) ≡ crc_bytes r bytes
unfolding crc_bytes
four_taken r (a ∷ b ∷ c ∷ d ∷ bytes) _ small =
    let e : word (a ∷ b ∷ c ∷ d ∷ []) ≡ a + b * 256 + c * 65536 + d * 16777216 =
    word_of_four_lem a b c d (small 0) (small 1) (small 2) (small 3) in
    rw (← e) (ap (λ x. crc_bytes x bytes) (sym (crc_bytes_by_word r (a ∷ b ∷ c ∷ d ∷ []))))
four_taken r (a ∷ b ∷ c ∷ []) h _ = absurd (omega (arith, h))
four_taken r (a ∷ b ∷ []) h _ = absurd (omega (arith, h))
four_taken r (a ∷ []) h _ = absurd (omega (arith, h))
four_taken r [] h _ = absurd (omega (arith, h))

-- eight bytes are taken in as two words
pub eight_taken : (r : ℕ) (bytes : List ℕ) → length bytes ≡ 8 → ((k : ℕ) → get_or bytes k 0 < 256)
    → bit_xor (crc_bits 32 (second_word bytes)) (crc_bits 64 (bit_xor r (first_word bytes))) ≡ crc_bytes r bytes
unfolding crc_bytes
eight_taken r bytes h small =
    let first = bit_xor r (first_word bytes) in
    let second = second_word bytes in
    let both : bit_xor (crc_bits 32 second) (crc_bits 64 first) ≡ crc_bits 32 (bit_xor (crc_bits 32 first) second) =
    xor_comm (crc_bits 32 second) (crc_bits 64 first) ∙ ap (λ x. bit_xor x (crc_bits 32 second)) (crc_bits-add 32 32 first)
    ∙ sym (crc_bits-xor 32 (crc_bits 32 first) second) in
    let long : 4 ≤ length (drop 4 bytes) = omega (arith, length-drop 4 bytes) in
    let small_later : (k : ℕ) → get_or (drop 4 bytes) k 0 < 256 = λ k. rw get_or-drop (small (4 + k)) in
    let later : crc_bytes (crc_bits 32 (bit_xor (crc_bits 32 first) (first_word (drop 4 bytes)))) (drop 4 (drop 4 bytes)) ≡ crc_bytes (crc_bits 32 first) (drop 4 bytes) =
    four_taken (crc_bits 32 first) (drop 4 bytes) long small_later in
    let none : drop 4 (drop 4 bytes) ≡ [] = drop-drop 4 4 bytes ∙ drop_all 8 bytes (omega arith) in
    both ∙ (rw (none, second_word_lem bytes) at later) ∙ four_taken r bytes (omega arith) small

-- the first eight bytes, and then the others
pub front_taken : (r : ℕ) (bytes : List ℕ) → 8 ≤ length bytes
    → crc_bytes (crc_bytes r (get_or bytes 0 0 ∷ get_or bytes 1 0 ∷ get_or bytes 2 0 ∷ get_or bytes 3 0 ∷ get_or bytes 4 0 ∷ get_or bytes 5 0 ∷ get_or bytes 6 0 ∷ get_or bytes 7 0 ∷ [])) (drop 8 bytes)
    ≡ crc_bytes r bytes
unfolding crc_bytes
front_taken r bytes h =
    let at = λ (s i : ℕ) (l : i < 8). byte_more s i bytes (omega (arith, l)) in
    at _ 7 (omega arith) ∙ at _ 6 (omega arith) ∙ at _ 5 (omega arith) ∙ at _ 4 (omega arith) ∙ at _ 3 (omega arith)
    ∙ at _ 2 (omega arith) ∙ at _ 1 (omega arith) ∙ at r 0 (omega arith)
