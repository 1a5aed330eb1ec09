use Rattle.std.proofs.Common.{◌≡◌, ◌+◌, ◌%◌, ◌^◌, cond, sym, ap, ◌∙◌}
use Rattle.std.specs.Prelude.{nat_le, fold}
use Rattle.std.proofs.lemmas.Bool.{le-leb, lt-leb, cond-true, cond-false}
use Rattle.rk_bytes.specs.Model.Checksums.{xxh64_of_sums, xxh64_with_word, xxh64_with_byte, xxh64_with_rest, xxh64_mixed}
use Rattle.rk_sum.proofs.Hashes.{rest64_of}
use Rattle.rk_sum.proofs.hash64.hash.Goals as goal
use Rattle.rk_sum.proofs.hash64.hash.Goals.{then-len-lt-STRIPE_LEN, else-len-lt-STRIPE_LEN}

pub returns : goal.returns
returns c =
    let len = c.args.len in
    let rest = c.args.rest.now in
    let start = c.if-len-lt-STRIPE_LEN.start in
    let sums = c.args.sums in
    let joined = xxh64_of_sums sums.first sums.second sums.third sums.fourth in
    let begun : start ≡ cond (nat_le 32 len) joined 0x27D4EB2F165667C5 = elim c.if-len-lt-STRIPE_LEN.branch [
      | then-len-lt-STRIPE_LEN w ↦ w.start-is ∙ sym (cond-false (nat_le 32 len) joined 0x27D4EB2F165667C5 (lt-leb 32 len w.if-len-lt-STRIPE_LEN.true))
      | else-len-lt-STRIPE_LEN w ↦ w.start-is ∙ w.joined-start.ensures ∙ sym (cond-true (nat_le 32 len) joined 0x27D4EB2F165667C5 (le-leb 32 len w.if-len-lt-STRIPE_LEN.false))
    ] in
    c.mixed.ensures ∙ ap xxh64_mixed
    (c.with_bytes.ensures ∙ ap (λ hash. fold xxh64_with_byte hash c.as_chunks-2.result.1.now)
    (c.with_words.ensures ∙ ap (λ hash. fold xxh64_with_word hash c.as_chunks-2.result.0.now) c.with_long_words-hash.ensures)
    ∙ rest64_of ((start + len) % 2 ^ 64) rest c.as_chunks.result.0.now c.as_chunks.result.1.now c.as_chunks-2.result.0.now c.as_chunks-2.result.1.now
    c.as_chunks.ensures.front c.as_chunks.ensures.back c.as_chunks-2.ensures.front c.as_chunks-2.ensures.back
    ∙ ap (λ start. xxh64_with_rest ((start + len) % 2 ^ 64) rest) begun)
