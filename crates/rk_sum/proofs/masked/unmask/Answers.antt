use Rattle.std.proofs.Common.{◌≡◌, ℕ, ◌+◌, ◌*◌, ◌/◌, ◌%◌, ◌^◌, ◌<◌, arith, ◌∙◌}
use Rattle.std.proofs.lemmas.Nat.{or_comm, or_shifted}
use Rattle.std.specs.Int.{rotate_right, w32}
use Rattle.rk_sum.proofs.masked.unmask.Goals as goal

rotated : (n : ℕ) → n < 2 ^ 32 → rotate_right w32 n 17 ≡ n / 2 ^ 17 + n % 2 ^ 17 * 2 ^ 15
rotated n h =
    let high : n * 2 ^ 15 % 2 ^ 32 ≡ n % 2 ^ 17 * 2 ^ 15 = omega arith in
    let low : n / 2 ^ 17 < 2 ^ 15 = omega arith in
    rw (high, or_comm (n / 2 ^ 17) (n % 2 ^ 17 * 2 ^ 15), or_shifted (n % 2 ^ 17) 15 (n / 2 ^ 17) low) (omega arith)

pub returns : goal.returns
returns c = c.rotate_right.ensures ∙ rotated ((c.args.stored + 1568478504) % 2 ^ 32) (omega arith)
