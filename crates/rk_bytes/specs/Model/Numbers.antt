-- Numbers of the formats (util/coding.h): fixed integers, varints and length-prefixed slices.
use Rattle.std.specs.Prelude.{◌≡◌, ℕ, zero, suc, ◌+◌, ◌*◌, ◌/◌, ◌%◌, ◌^◌, ◌<◌, ◌≤◌, ℤ, pos, negsuc, List, [], ◌∷◌, ◌++◌, length, map, take, drop, take_while, nat_lt, nat_le, ◌==◌, if◌then◌else◌, Result, Ok, Err, refl}
use Rattle.std.specs.List.{AllByRecursion}
use Rattle.rk_bytes.specs.declared.model.number.NumFault.{NumFault}
use Rattle.rk_bytes.specs.declared.model.number.NumFault.TheVariants.{Cut, TooLarge}

-- each number of the list is that of a byte
abbrev pub AreBytes : List ℕ → Type 0
AreBytes numbers = AllByRecursion (λ n. n < 2 ^ 8) numbers

-- the number that bytes spell, the least significant first
abbrev pub little_endian : List ℕ → ℕ
little_endian [] = 0
little_endian (b ∷ bytes) = b + 256 * little_endian bytes

-- the bytes are one fixed32 of this value
pub record IsFixed32 (bytes : List ℕ) (n : ℕ) : Type 0 where
  pub four : length bytes ≡ 4
  pub value : n ≡ little_endian bytes

-- the same of eight bytes
pub record IsFixed64 (bytes : List ℕ) (n : ℕ) : Type 0 where
  pub eight : length bytes ≡ 8
  pub value : n ≡ little_endian bytes

-- the sum of 7-bit groups times powers of 128, the least significant first
abbrev pub groups_value : List ℕ → ℕ
groups_value [] = 0
groups_value (b ∷ bytes) = b % 128 + 128 * groups_value bytes

-- each byte but the last has its top bit set
abbrev pub IsVarint : List ℕ → Type 0
IsVarint [] = ⊥
IsVarint (b ∷ []) = b < 128
IsVarint (b ∷ next ∷ bytes) = (128 ≤ b) × (b < 256) × IsVarint (next ∷ bytes)

-- a varint32 of this value, in any spelling that is short enough
pub record IsVarint32 (bytes : List ℕ) (n : ℕ) : Type 0 where
  pub groups : IsVarint bytes
  pub short : length bytes ≤ 5
  pub fits : n < 2 ^ 32
  pub value : n ≡ groups_value bytes

-- the same of a varint64
pub record IsVarint64 (bytes : List ℕ) (n : ℕ) : Type 0 where
  pub groups : IsVarint bytes
  pub short : length bytes ≤ 10
  pub fits : n < 2 ^ 64
  pub value : n ≡ groups_value bytes

-- the bytes are this slice, after its length
pub record IsPrefixed (bytes slice : List ℕ) : Type 0 where
  pub len_bytes : List ℕ
  pub len : IsVarint32 len_bytes (length slice)
  pub parts : bytes ≡ len_bytes ++ slice

-- so many little-endian bytes of a number
abbrev pub fixed_of : ℕ → ℕ → List ℕ
fixed_of zero n = []
fixed_of (suc len) n = n % 256 ∷ fixed_of len (n / 256)

-- the groups of a number, of which there are at most so many after the first
abbrev pub varint_with : ℕ → ℕ → List ℕ
varint_with zero n = n ∷ []
varint_with (suc more) n = if nat_lt n 128 then n ∷ [] else (n % 128 + 128) ∷ varint_with more (n / 128)

-- the shortest varint of a number below 2 ^ 64
abbrev pub varint_of : ℕ → List ℕ
varint_of n = varint_with 9 n

-- a slice after its length
abbrev pub prefixed_of : List ℕ → List ℕ
prefixed_of bytes = varint_of (length bytes) ++ bytes

-- the signed number that a zigzag number stands for: 0, -1, 1, -2, ..
abbrev pub from_zigzag : ℕ → ℤ
from_zigzag n = if n % 2 == 0 then pos (n / 2) else negsuc (n / 2)

-- the zigzag number that stands for a signed number
abbrev pub to_zigzag : ℤ → ℕ
to_zigzag (pos n) = 2 * n
to_zigzag (negsuc n) = 2 * n + 1

infixl 10 ◌>>=◌
-- what follows on a value; a fault stays
abbrev pub ◌>>=◌ : {A B F : Type 0} → Result A F → (A → Result B F) → Result B F
(Ok x) >>= f = f x
(Err fault) >>= f = Err fault

-- Reading at the front of bytes gives a value and the bytes after it, or the first fault.
abbrev pub Read : Type 0 → Type 0
Read A = Result (A × List ℕ) NumFault

-- so many bytes at the front
abbrev pub part_of : ℕ → List ℕ → Read (List ℕ)
part_of n bytes = if nat_lt (length bytes) n then Err Cut else Ok (take n bytes, drop n bytes)

-- the number that so many bytes spell
abbrev pub fixed_at : ℕ → List ℕ → Read ℕ
fixed_at len bytes = do
  part ← part_of len bytes
  Ok (little_endian part.0, part.1)

-- how many bytes at the front have their top bit set
abbrev pub high_count : List ℕ → ℕ
high_count bytes = length (take_while (λ b. nat_le 128 b) bytes)

-- a varint: `TooLarge` where it isn't ended within its most bytes, or its value doesn't fit the bits
abbrev pub varint_at : ℕ → ℕ → List ℕ → Read ℕ
varint_at most bits bytes =
    let len = high_count bytes + 1 in let value = groups_value (take len bytes) in
    if nat_lt most len then Err TooLarge
    else (if nat_lt (length bytes) len then Err Cut
    else (if nat_lt value (2 ^ bits) then Ok (value, drop len bytes) else Err TooLarge))

-- a varint of 5 bytes and 32 bits at most
abbrev pub varint32_at : List ℕ → Read ℕ
varint32_at bytes = varint_at 5 32 bytes

-- a varint of 10 bytes and 64 bits at most
abbrev pub varint64_at : List ℕ → Read ℕ
varint64_at bytes = varint_at 10 64 bytes

-- a slice after its length
abbrev pub prefixed_at : List ℕ → Read (List ℕ)
prefixed_at bytes = do
  len ← varint32_at bytes
  part_of len.0 len.1

-- what is read, or this fault where it doesn't read
abbrev pub reads_or : {A F : Type 0} → F → Read A → Result (A × List ℕ) F
reads_or fault (Ok one) = Ok one
reads_or fault (Err why) = Err fault

-- All that is read one after another from the front of bytes to their end, or the first fault. Each
-- is read with those before it at hand, the last of them first. There are at most n of them: where bytes are
-- left, the fault is that of reading where there are none.
unfoldable pub in_turn : {A F : Type 0} → (List A → List ℕ → Result (A × List ℕ) F) → ℕ → List A → List ℕ → Result (List A) F
in_turn read zero before [] = Ok []
in_turn read zero before (b ∷ bytes) = do
  one ← read before []
  Ok (one.0 ∷ [])
in_turn read (suc n) before [] = Ok []
in_turn read (suc n) before (b ∷ bytes) = do
  one ← read before (b ∷ bytes)
  more ← in_turn read n (one.0 ∷ before) one.1
  Ok (one.0 ∷ more)

counts_up : little_endian (0x78 ∷ 0x56 ∷ 0x34 ∷ 0x12 ∷ []) ≡ 0x12345678
counts_up = refl

long_zero : varint32_at (0x80 ∷ 0x00 ∷ []) ≡ Ok (0, [])
long_zero = refl

cut_off : varint32_at (0x80 ∷ []) ≡ Err Cut
cut_off = refl

too_large : varint32_at (0xFF ∷ 0xFF ∷ 0xFF ∷ 0xFF ∷ 0x1F ∷ []) ≡ Err TooLarge
too_large = refl

greatest : varint32_at (0xFF ∷ 0xFF ∷ 0xFF ∷ 0xFF ∷ 0x0F ∷ []) ≡ Ok (4294967295, [])
greatest = refl

too_large_before_cut : varint32_at (0x80 ∷ 0x80 ∷ 0x80 ∷ 0x80 ∷ 0x80 ∷ []) ≡ Err TooLarge
too_large_before_cut = refl

shortest : varint_of 300 ≡ 0xAC ∷ 0x02 ∷ []
shortest = refl

written_slice : prefixed_of (0x61 ∷ []) ≡ 0x01 ∷ 0x61 ∷ []
written_slice = refl

signed_by_turns : map from_zigzag (0 ∷ 1 ∷ 2 ∷ 3 ∷ 18446744073709551615 ∷ []) ≡ pos 0 ∷ negsuc 0 ∷ pos 1 ∷ negsuc 1 ∷ negsuc 9223372036854775807 ∷ []
signed_by_turns = refl

zigzag_again : map to_zigzag (pos 0 ∷ negsuc 0 ∷ pos 1 ∷ negsuc 1 ∷ negsuc 9223372036854775807 ∷ []) ≡ 0 ∷ 1 ∷ 2 ∷ 3 ∷ 18446744073709551615 ∷ []
zigzag_again = refl

-- slices one after another, of which there may be so many
slices : ℕ → List ℕ → Result (List (List ℕ)) NumFault
unfolding in_turn
slices n bytes = in_turn (λ before. prefixed_at) n [] bytes

bound_by_their_number : map (λ n. slices n (1 ∷ 0x61 ∷ 0 ∷ [])) (1 ∷ 2 ∷ 3 ∷ []) ≡ Err Cut ∷ Ok ((0x61 ∷ []) ∷ [] ∷ []) ∷ Ok ((0x61 ∷ []) ∷ [] ∷ []) ∷ []
unfolding slices
bound_by_their_number = refl
