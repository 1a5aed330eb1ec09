use Rattle.std.proofs.Common.{◌/◌, length, refl, ap, ◌∙◌}
use Rattle.rk_bytes.specs.Model.Checksums.{xxh64_sum}
use Rattle.rk_sum.proofs.Hashes.{hash64_of}
use Rattle.rk_sum.proofs.Stripes.{pieces-are_chunks, after_chunks}
use Rattle.rk_sum.proofs.hash64.xxh64.Goals as goal

pub returns : goal.returns
returns c =
    let bytes = c.args.bytes.now in
    let sums = c.after.result in
    let whole = c.as_chunks.ensures.front ∙ pieces-are_chunks (length bytes / 32) 32 bytes in
    let left = c.as_chunks.ensures.back ∙ after_chunks 32 bytes in
    c.hash.ensures ∙ hash64_of bytes c.as_chunks.result.1.now (length bytes) sums.first sums.second sums.third sums.fourth refl
    (c.after.ensures.first ∙ ap (xxh64_sum 0 _) whole) (c.after.ensures.second ∙ ap (xxh64_sum 1 _) whole)
    (c.after.ensures.third ∙ ap (xxh64_sum 2 _) whole) (c.after.ensures.fourth ∙ ap (xxh64_sum 3 _) whole) left
