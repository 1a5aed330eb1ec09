use Rattle.std.proofs.Common.{◌≡◌, ℕ, ◌+◌, ◌%◌, ◌^◌, add_assoc, sym, ap, ◌∙◌}
use Rattle.std.specs.Int.{w64, rotate_left}
use Rattle.std.proofs.Math.Nat.{mod-add-mod}
use Rattle.rk_bytes.specs.Model.Checksums.{xxh64_with_sum}
use Rattle.rk_sum.proofs.hash64.Sums.joined.Goals as goal

-- four numbers are added in turn
added : (a b c d m : ℕ) → (((a + b) % m + c) % m + d) % m ≡ (a + b + c + d) % m
added a b c d m =
    mod-add-mod ((a + b) % m + c) m d ∙ ap (λ n. n % m) (add_assoc ((a + b) % m) c d)
    ∙ mod-add-mod (a + b) m (c + d) ∙ ap (λ n. n % m) (sym (add_assoc (a + b) c d))

pub returns : goal.returns
returns c =
    let sums = c.args.self in
    let joined = added (rotate_left w64 sums.first 1) (rotate_left w64 sums.second 7) (rotate_left w64 sums.third 12) (rotate_left w64 sums.fourth 18) (2 ^ 64) in
    c.with_sum-3.ensures ∙ ap (λ hash. xxh64_with_sum hash sums.fourth)
    (c.with_sum-2.ensures ∙ ap (λ hash. xxh64_with_sum hash sums.third)
    (c.with_sum-half.ensures ∙ ap (λ hash. xxh64_with_sum hash sums.second)
    (c.with_sum.ensures ∙ ap (λ all. xxh64_with_sum all sums.first)
    ((λ i. (((c.rotate_left.ensures i + c.rotate_left-2.ensures i) % 2 ^ 64 + c.rotate_left-3.ensures i) % 2 ^ 64 + c.rotate_left-4.ensures i) % 2 ^ 64) ∙ joined))))
