use Rattle.std.proofs.Common.{◌≡◌, ℕ, ◌+◌, ◌*◌, ◌/◌, ◌%◌, ◌^◌, ◌<◌, refl, arith}
use Rattle.std.proofs.lemmas.Nat.{or_comm, or_shifted}
use Rattle.std.specs.Int.{rotate_right, w32}
use Rattle.rk_sum.proofs.masked.mask.Goals as goal

rotated : (n : ℕ) → n < 2 ^ 32 → rotate_right w32 n 15 ≡ n / 2 ^ 15 + n % 2 ^ 15 * 2 ^ 17
rotated n h =
    let high : n * 2 ^ 17 % 2 ^ 32 ≡ n % 2 ^ 15 * 2 ^ 17 = omega arith in
    let low : n / 2 ^ 15 < 2 ^ 17 = omega arith in
    rw (high, or_comm (n / 2 ^ 15) (n % 2 ^ 15 * 2 ^ 17), or_shifted (n % 2 ^ 15) 17 (n / 2 ^ 15) low) (omega arith)

pub returns : goal.returns
returns c = rw (c.rotate_right.ensures, rotated c.args.sum c.ranges.sum.fits) refl
