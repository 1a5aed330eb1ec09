-- A test of one bit.
use Rattle.std.specs.Prelude.{◌==◌, not, bit_and}
use Rattle.std.proofs.Common.{◌≡◌, ℕ, zero, suc, ◌*◌, ◌/◌, ◌%◌, ◌^◌, ◌<◌, ap, ◌∙◌, arith}
use Rattle.std.proofs.lemmas.Bool.{ne_eqb}
use Rattle.std.proofs.lemmas.Nat.Bits.{and_pow, bit_at-lt}

by_bit : (b d : ℕ) → b < 2 → 0 < d → not (b * d == 0) ≡ (b == 1)
by_bit zero d bit some = ap (λ n. not (n == 0)) (let none : 0 * d ≡ 0 = omega arith in none)
by_bit (suc zero) d bit some = ap not (ne_eqb (1 * d) 0 (λ none. absurd (omega arith)))
by_bit (suc (suc b)) d bit some = absurd (omega arith)

-- the bit of the number 2 ^ k
pub bit_test : (n k : ℕ) → 0 < 2 ^ k → not (bit_and n (2 ^ k) == 0) ≡ (n / 2 ^ k % 2 == 1)
bit_test n k some = ap (λ m. not (m == 0)) (and_pow n k) ∙ by_bit (n / 2 ^ k % 2) (2 ^ k) (bit_at-lt n k) some
