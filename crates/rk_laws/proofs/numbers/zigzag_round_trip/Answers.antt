use Rattle.std.proofs.Common.{◌≡◌, ℕ, ◌+◌, ◌*◌, ◌/◌, ◌%◌, Bool, true, false, cond, refl, arith}
use Rattle.std.specs.Prelude.{◌==◌, ℤ, pos, negsuc}
use Rattle.std.proofs.lemmas.Bool.{eqb-true, eqb-false, eq-eqb, ne_eqb}
use Rattle.rk_bytes.specs.Model.Numbers.{from_zigzag, to_zigzag}
use Rattle.rk_laws.proofs.numbers.zigzag_round_trip.Goals as goal

signed : (z : ℤ) → from_zigzag (to_zigzag z) ≡ z
signed (pos n) =
    let even : 2 * n % 2 ≡ 0 = omega arith in
    let half : 2 * n / 2 ≡ n = omega arith in
    rw (eq-eqb (2 * n % 2) 0 even, half) refl
signed (negsuc n) =
    let odd : (2 * n + 1) % 2 ≡ 0 → ⊥ = λ even. omega arith in
    let half : (2 * n + 1) / 2 ≡ n = omega arith in
    rw (ne_eqb ((2 * n + 1) % 2) 0 odd, half) refl

zigzag : (n : ℕ) → to_zigzag (from_zigzag n) ≡ n
zigzag n = by (n % 2 == 0) refl
  where
    by : (test : Bool) → (n % 2 == 0) ≡ test → to_zigzag (cond test (pos (n / 2)) (negsuc (n / 2))) ≡ n
    by true told = let even : n % 2 ≡ 0 = eqb-true (n % 2) 0 told in omega arith
    by false told = let odd : n % 2 ≡ 0 → ⊥ = eqb-false (n % 2) 0 told in omega arith

pub returns-clause-signed : goal.returns-clause-signed
returns-clause-signed c = signed

pub returns-clause-zigzag : goal.returns-clause-zigzag
returns-clause-zigzag c = zigzag
