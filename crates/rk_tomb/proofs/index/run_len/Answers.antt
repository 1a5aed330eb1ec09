use Rattle.std.proofs.Common.{◌≡◌, ℕ, ◌*◌, ◌%◌, ◌^◌, sym, ◌∙◌, arith}
use Rattle.rk_tomb.proofs.RunLemmas.{run_len-within, run_len-power}
use Rattle.rk_tomb.proofs.index.run_len.Goals as goal

pub returns : goal.returns
returns c =
    let power : ℕ = 2 ^ c.ilog2.result in
    let fits : 1 * power % 2 ^ 64 ≡ power = omega (arith, c.ranges.count.fits) in
    fits ∙ sym (run_len-within power c.args.count (run_len-power c.ilog2.result) c.ilog2.ensures.power_le c.ilog2.ensures.next_power_gt)
