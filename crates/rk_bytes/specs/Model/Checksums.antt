-- The checksums of log records and of blocks: CRC32C and its mask, as util/crc32c.h states them, and
-- XXH32 and XXH64 with seed 0, as the xxHash specification states them.
use Rattle.std.specs.Prelude.{◌≡◌, ℕ, zero, suc, ◌+◌, ◌-◌, ◌*◌, ◌/◌, ◌%◌, ◌^◌, List, [], ◌∷◌, ◌++◌, length, take, drop, map, fold, bit_xor, if◌then◌else◌, nat_le, ◌==◌, replicate, codes, refl}
use Rattle.std.specs.Int.{w32, w64, rotate_left}
use Rattle.rk_bytes.specs.declared.model.table.SumKind.{SumKind}
use Rattle.rk_bytes.specs.declared.model.table.SumKind.TheVariants.{NoSum, Crc32c, Xxh32, Xxh64}
use Rattle.rk_bytes.specs.Model.Numbers.{little_endian}

-- the register after one bit: shifted right by one and, where the bit that fell out was 1,
-- exclusive-ored with the polynomial, its bits reflected
unfoldable pub crc_bit : ℕ → ℕ
crc_bit register = if register % 2 == 1 then bit_xor (register / 2) 0x82F63B78 else register / 2

-- the register after so many bits
unfoldable pub crc_bits : ℕ → ℕ → ℕ
crc_bits zero register = register
crc_bits (suc n) register = crc_bits n (crc_bit register)

-- the register after these bytes
unfoldable pub crc_bytes : ℕ → List ℕ → ℕ
crc_bytes register [] = register
crc_bytes register (b ∷ bytes) = crc_bytes (crc_bits 8 (bit_xor register b)) bytes

-- the CRC32C of bytes
unfoldable pub crc32c : List ℕ → ℕ
crc32c bytes = bit_xor (crc_bytes 0xFFFFFFFF bytes) 0xFFFFFFFF

-- the sum of a front, whose sum is known, and of the bytes after it
unfoldable pub crc32c_extended : ℕ → List ℕ → ℕ
crc32c_extended front_sum bytes = bit_xor (crc_bytes (bit_xor front_sum 0xFFFFFFFF) bytes) 0xFFFFFFFF

-- what is stored in place of a sum: rotated right by 15 bits, and raised by a constant
abbrev pub mask : ℕ → ℕ
mask sum = (sum / 2 ^ 15 + sum % 2 ^ 15 * 2 ^ 17 + 0xa282ead8) % 2 ^ 32

-- the sum in whose place this is stored
abbrev pub unmask : ℕ → ℕ
unmask stored = let rotated = (stored + (2 ^ 32 - 0xa282ead8)) % 2 ^ 32 in rotated / 2 ^ 17 + rotated % 2 ^ 17 * 2 ^ 15

-- Bytes are hashed by stripes, then by words, then one by one. n pieces of a size, from the front on:
unfoldable pub pieces : ℕ → ℕ → List ℕ → List (List ℕ)
pieces zero size bytes = []
pieces (suc n) size bytes = take size bytes ∷ pieces n size (drop size bytes)

-- all whole pieces, and what is left after them
abbrev pub whole_pieces : ℕ → List ℕ → List (List ℕ)
whole_pieces size bytes = pieces (length bytes / size) size bytes

-- the bytes after all whole pieces
abbrev pub after_pieces : ℕ → List ℕ → List ℕ
after_pieces size bytes = drop (length bytes - length bytes % size) bytes

-- the lane of so many bytes with this index in a stripe
abbrev pub lane_at : ℕ → ℕ → List ℕ → ℕ
lane_at size index stripe = little_endian (take size (drop (size * index) stripe))

-- exclusive-ored with itself, shifted right
abbrev pub folded : ℕ → ℕ → ℕ
folded shift hash = bit_xor hash (hash / 2 ^ shift)

-- the primes of XXH32: the first
abbrev prime32_1 : ℕ
prime32_1 = 0x9E3779B1

-- the second prime
abbrev prime32_2 : ℕ
prime32_2 = 0x85EBCA77

-- the third prime
abbrev prime32_3 : ℕ
prime32_3 = 0xC2B2AE3D

-- the fourth prime
abbrev prime32_4 : ℕ
prime32_4 = 0x27D4EB2F

-- the fifth prime
abbrev prime32_5 : ℕ
prime32_5 = 0x165667B1

-- a sum of the stripes, with one lane more
abbrev pub xxh32_round : ℕ → ℕ → ℕ
xxh32_round sum lane = rotate_left w32 ((sum + lane * prime32_2) % 2 ^ 32) 13 * prime32_1 % 2 ^ 32

-- one of the four sums of the stripes: that of the lanes with one index
unfoldable pub xxh32_sum : ℕ → ℕ → List (List ℕ) → ℕ
xxh32_sum index start stripes = fold (λ sum stripe. xxh32_round sum (lane_at 4 index stripe)) start stripes

-- what the four sums of the stripes make together
unfoldable pub xxh32_of_stripes : List (List ℕ) → ℕ
xxh32_of_stripes stripes =
    (rotate_left w32 (xxh32_sum 0 ((prime32_1 + prime32_2) % 2 ^ 32) stripes) 1 + rotate_left w32 (xxh32_sum 1 prime32_2 stripes) 7
    + rotate_left w32 (xxh32_sum 2 0 stripes) 12 + rotate_left w32 (xxh32_sum 3 (2 ^ 32 - prime32_1) stripes) 18) % 2 ^ 32

-- the hash, with a word of four bytes
abbrev pub xxh32_with_word : ℕ → List ℕ → ℕ
xxh32_with_word hash word = rotate_left w32 ((hash + little_endian word * prime32_3) % 2 ^ 32) 17 * prime32_4 % 2 ^ 32

-- the hash, with a byte
abbrev pub xxh32_with_byte : ℕ → ℕ → ℕ
xxh32_with_byte hash byte = rotate_left w32 ((hash + byte * prime32_5) % 2 ^ 32) 11 * prime32_1 % 2 ^ 32

-- the hash, with the words and then the bytes of what is left after the stripes
unfoldable pub xxh32_with_rest : ℕ → List ℕ → ℕ
xxh32_with_rest hash rest = fold xxh32_with_byte (fold xxh32_with_word hash (whole_pieces 4 rest)) (after_pieces 4 rest)

-- the hash, with its bits mixed at the end
unfoldable pub xxh32_mixed : ℕ → ℕ
xxh32_mixed hash = folded 16 (folded 13 (folded 15 hash * prime32_2 % 2 ^ 32) * prime32_3 % 2 ^ 32)

-- the XXH32 of bytes
unfoldable pub xxh32 : List ℕ → ℕ
xxh32 bytes =
    let start = if nat_le 16 (length bytes) then xxh32_of_stripes (whole_pieces 16 bytes) else prime32_5 in
    xxh32_mixed (xxh32_with_rest ((start + length bytes) % 2 ^ 32) (after_pieces 16 bytes))

-- the primes of XXH64: the first
abbrev prime64_1 : ℕ
prime64_1 = 0x9E3779B185EBCA87

-- the second prime
abbrev prime64_2 : ℕ
prime64_2 = 0xC2B2AE3D27D4EB4F

-- the third prime
abbrev prime64_3 : ℕ
prime64_3 = 0x165667B19E3779F9

-- the fourth prime
abbrev prime64_4 : ℕ
prime64_4 = 0x85EBCA77C2B2AE63

-- the fifth prime
abbrev prime64_5 : ℕ
prime64_5 = 0x27D4EB2F165667C5

-- a sum of the stripes, with one lane more
abbrev pub xxh64_round : ℕ → ℕ → ℕ
xxh64_round sum lane = rotate_left w64 ((sum + lane * prime64_2) % 2 ^ 64) 31 * prime64_1 % 2 ^ 64

-- one of the four sums of the stripes: that of the lanes with one index
unfoldable pub xxh64_sum : ℕ → ℕ → List (List ℕ) → ℕ
xxh64_sum index start stripes = fold (λ sum stripe. xxh64_round sum (lane_at 8 index stripe)) start stripes

-- the hash, with one of the four sums of the stripes
abbrev pub xxh64_with_sum : ℕ → ℕ → ℕ
xxh64_with_sum hash sum = (bit_xor hash (xxh64_round 0 sum) * prime64_1 + prime64_4) % 2 ^ 64

-- what the four sums make together
abbrev pub xxh64_of_sums : ℕ → ℕ → ℕ → ℕ → ℕ
xxh64_of_sums a b c d =
    fold xxh64_with_sum ((rotate_left w64 a 1 + rotate_left w64 b 7 + rotate_left w64 c 12 + rotate_left w64 d 18) % 2 ^ 64) (a ∷ b ∷ c ∷ d ∷ [])

-- what the four sums of the stripes make together
unfoldable pub xxh64_of_stripes : List (List ℕ) → ℕ
xxh64_of_stripes stripes =
    xxh64_of_sums (xxh64_sum 0 ((prime64_1 + prime64_2) % 2 ^ 64) stripes) (xxh64_sum 1 prime64_2 stripes) (xxh64_sum 2 0 stripes) (xxh64_sum 3 (2 ^ 64 - prime64_1) stripes)

-- the hash, with a lane of eight bytes
abbrev pub xxh64_with_lane : ℕ → List ℕ → ℕ
xxh64_with_lane hash lane = (rotate_left w64 (bit_xor hash (xxh64_round 0 (little_endian lane))) 27 * prime64_1 + prime64_4) % 2 ^ 64

-- the hash, with a word of four bytes
abbrev pub xxh64_with_word : ℕ → List ℕ → ℕ
xxh64_with_word hash word = (rotate_left w64 (bit_xor hash (little_endian word * prime64_1 % 2 ^ 64)) 23 * prime64_2 + prime64_3) % 2 ^ 64

-- the hash, with a byte
abbrev pub xxh64_with_byte : ℕ → ℕ → ℕ
xxh64_with_byte hash byte = rotate_left w64 (bit_xor hash (byte * prime64_5 % 2 ^ 64)) 11 * prime64_1 % 2 ^ 64

-- the hash, with the lanes, then the word if there is one, and then the bytes of what is left after the stripes
unfoldable pub xxh64_with_rest : ℕ → List ℕ → ℕ
xxh64_with_rest hash rest =
    let tail = after_pieces 8 rest in
    fold xxh64_with_byte (fold xxh64_with_word (fold xxh64_with_lane hash (whole_pieces 8 rest)) (whole_pieces 4 tail)) (after_pieces 4 tail)

-- the hash, with its bits mixed at the end
unfoldable pub xxh64_mixed : ℕ → ℕ
xxh64_mixed hash = folded 32 (folded 29 (folded 33 hash * prime64_2 % 2 ^ 64) * prime64_3 % 2 ^ 64)

-- the XXH64 of bytes
unfoldable pub xxh64 : List ℕ → ℕ
xxh64 bytes =
    let start = if nat_le 32 (length bytes) then xxh64_of_stripes (whole_pieces 32 bytes) else prime64_5 in
    xxh64_mixed (xxh64_with_rest ((start + length bytes) % 2 ^ 64) (after_pieces 32 bytes))

-- what is stored after a block: the sum of its bytes and of its type's byte
abbrev pub block_sum : SumKind → List ℕ → ℕ → ℕ
block_sum NoSum block type_byte = 0
block_sum Crc32c block type_byte = mask (crc32c (block ++ type_byte ∷ []))
block_sum Xxh32 block type_byte = xxh32 (block ++ type_byte ∷ [])
block_sum Xxh64 block type_byte = xxh64 (block ++ type_byte ∷ []) % 2 ^ 32

check_value : crc32c (codes "123456789") ≡ 0xE3069283
unfolding crc32c crc_bytes crc_bits crc_bit
check_value = refl

masked_check_value : mask 0xE3069283 ≡ 0xC78AB0E5
masked_check_value = refl

of_runs : map crc32c ([] ∷ replicate 32 0 ∷ replicate 32 0xFF ∷ []) ≡ 0 ∷ 0x8A9136AA ∷ 0x62A8AB43 ∷ []
unfolding crc32c crc_bytes crc_bits crc_bit
of_runs = refl

unmasked_check_value : unmask 0xC78AB0E5 ≡ 0xE3069283
unmasked_check_value = refl

xxh32_of_nothing : xxh32 [] ≡ 0x02CC5D05
unfolding xxh32 xxh32_mixed xxh32_with_rest pieces
xxh32_of_nothing = refl

xxh32_of_a_stripe_and_more : xxh32 (codes "0123456789abcdefghijklmnopqrstuvwxyzABCDEFGHIJK") ≡ 0x1A6C28CE
unfolding xxh32 xxh32_mixed xxh32_with_rest xxh32_of_stripes xxh32_sum pieces
xxh32_of_a_stripe_and_more = refl

-- one byte less than a stripe, and a whole one
xxh32_around_a_stripe : map xxh32 (replicate 15 0xFF ∷ replicate 16 0xFF ∷ []) ≡ 0x20095B45 ∷ 0xD85160AA ∷ []
unfolding xxh32 xxh32_mixed xxh32_with_rest xxh32_of_stripes xxh32_sum pieces
xxh32_around_a_stripe = refl

xxh64_of_nothing : xxh64 [] ≡ 0xEF46DB3751D8E999
unfolding xxh64 xxh64_mixed xxh64_with_rest pieces
xxh64_of_nothing = refl

xxh64_of_a_stripe_and_more : xxh64 (codes "0123456789abcdefghijklmnopqrstuvwxyzABCDEFGHIJK") ≡ 0xE7F6F7FE6DB7FF27
unfolding xxh64 xxh64_mixed xxh64_with_rest xxh64_of_stripes xxh64_sum pieces
xxh64_of_a_stripe_and_more = refl

xxh64_around_a_stripe : map xxh64 (replicate 31 0xFF ∷ replicate 32 0xFF ∷ []) ≡ 0x5FBFF749E15D5844 ∷ 0xFF10223616C08787 ∷ []
unfolding xxh64 xxh64_mixed xxh64_with_rest xxh64_of_stripes xxh64_sum pieces
xxh64_around_a_stripe = refl

of_each_kind : map (λ kind. block_sum kind (codes "123456789") 0) (NoSum ∷ Crc32c ∷ Xxh32 ∷ Xxh64 ∷ []) ≡ 0 ∷ 0xDD227149 ∷ 0x08FAF2DA ∷ 0x1B63A378 ∷ []
unfolding crc32c crc_bytes crc_bits crc_bit xxh32 xxh32_mixed xxh32_with_rest xxh64 xxh64_mixed xxh64_with_rest pieces
of_each_kind = refl
