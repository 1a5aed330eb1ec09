use Rattle.std.proofs.Common.{◌≡◌, ◌+◌, ◌%◌, ◌^◌, cond, sym, ap, ◌∙◌}
use Rattle.std.specs.Prelude.{nat_le, fold}
use Rattle.std.specs.Int.{w32, rotate_left}
use Rattle.std.proofs.Math.Nat.{add-mod-mod}
use Rattle.std.proofs.lemmas.Bool.{le-leb, lt-leb, cond-true, cond-false}
use Rattle.rk_bytes.specs.Model.Checksums.{xxh32_with_byte, xxh32_with_rest, xxh32_mixed}
use Rattle.rk_sum.proofs.Hashes.{rest32_of}
use Rattle.rk_sum.proofs.hash32.hash.Goals as goal
use Rattle.rk_sum.proofs.hash32.hash.Goals.{then-len-lt-STRIPE_LEN, else-len-lt-STRIPE_LEN}

pub returns : goal.returns
returns c =
    let len = c.args.len in
    let rest = c.args.rest.now in
    let start = c.if-len-lt-STRIPE_LEN.start in
    let sums = c.args.sums in
    let joined = (rotate_left w32 sums.first 1 + rotate_left w32 sums.second 7 + rotate_left w32 sums.third 12 + rotate_left w32 sums.fourth 18) % 2 ^ 32 in
    let begun : start ≡ cond (nat_le 16 len) joined 0x165667B1 = elim c.if-len-lt-STRIPE_LEN.branch [
      | then-len-lt-STRIPE_LEN w ↦ w.start-is ∙ sym (cond-false (nat_le 16 len) joined 0x165667B1 (lt-leb 16 len w.if-len-lt-STRIPE_LEN.true))
      | else-len-lt-STRIPE_LEN w ↦ w.start-is ∙ w.joined-start.ensures ∙ sym (cond-true (nat_le 16 len) joined 0x165667B1 (le-leb 16 len w.if-len-lt-STRIPE_LEN.false))
    ] in
    let with_len : (start + len % 2 ^ 32) % 2 ^ 32 ≡ (cond (nat_le 16 len) joined 0x165667B1 + len) % 2 ^ 32 = add-mod-mod start len (2 ^ 32) ∙ ap (λ start. (start + len) % 2 ^ 32) begun in
    c.mixed.ensures ∙ ap xxh32_mixed
    (c.with_bytes.ensures ∙ ap (λ hash. fold xxh32_with_byte hash c.as_chunks.result.1.now) c.with_words.ensures
    ∙ rest32_of ((start + len % 2 ^ 32) % 2 ^ 32) rest c.as_chunks.result.0.now c.as_chunks.result.1.now c.as_chunks.ensures.front c.as_chunks.ensures.back
    ∙ ap (λ hash. xxh32_with_rest hash rest) with_len)
