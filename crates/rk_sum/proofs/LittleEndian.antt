-- Words, the least significant byte first.
use Rattle.std.proofs.Common.{◌≡◌, ℕ, List, [], ◌∷◌, length, arith}
use Rattle.std.specs.Int.{from_le_bytes, w32, w64}
use Rattle.rk_bytes.specs.Model.Numbers.{little_endian}

pub word_of_four : (bytes : List ℕ) → length bytes ≡ 4 → from_le_bytes w32 bytes ≡ little_endian bytes
word_of_four (a ∷ b ∷ c ∷ d ∷ []) len = omega arith
word_of_four (a ∷ b ∷ c ∷ d ∷ e ∷ bytes) len = absurd (omega (arith, len))
word_of_four (a ∷ b ∷ c ∷ []) len = absurd (omega (arith, len))
word_of_four (a ∷ b ∷ []) len = absurd (omega (arith, len))
word_of_four (a ∷ []) len = absurd (omega (arith, len))
word_of_four [] len = absurd (omega (arith, len))

pub word_of_eight : (bytes : List ℕ) → length bytes ≡ 8 → from_le_bytes w64 bytes ≡ little_endian bytes
word_of_eight (a ∷ b ∷ c ∷ d ∷ bytes) len = by bytes (omega (arith, len))
  where
    by : (bytes : List ℕ) → length bytes ≡ 4 → from_le_bytes w64 (a ∷ b ∷ c ∷ d ∷ bytes) ≡ little_endian (a ∷ b ∷ c ∷ d ∷ bytes)
    by (e ∷ f ∷ g ∷ h ∷ []) len = omega arith
    by (e ∷ f ∷ g ∷ h ∷ i ∷ bytes) len = absurd (omega (arith, len))
    by (e ∷ f ∷ g ∷ []) len = absurd (omega (arith, len))
    by (e ∷ f ∷ []) len = absurd (omega (arith, len))
    by (e ∷ []) len = absurd (omega (arith, len))
    by [] len = absurd (omega (arith, len))
word_of_eight (a ∷ b ∷ c ∷ []) len = absurd (omega (arith, len))
word_of_eight (a ∷ b ∷ []) len = absurd (omega (arith, len))
word_of_eight (a ∷ []) len = absurd (omega (arith, len))
word_of_eight [] len = absurd (omega (arith, len))
