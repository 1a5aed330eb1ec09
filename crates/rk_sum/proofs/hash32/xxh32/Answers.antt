use Rattle.std.proofs.Common.{◌/◌, length, refl, ap, ◌∙◌}
use Rattle.rk_bytes.specs.Model.Checksums.{xxh32_sum}
use Rattle.rk_sum.proofs.Hashes.{hash32_of}
use Rattle.rk_sum.proofs.Stripes.{pieces-are_chunks, after_chunks}
use Rattle.rk_sum.proofs.hash32.xxh32.Goals as goal

pub returns : goal.returns
returns c =
    let bytes = c.args.bytes.now in
    let sums = c.after.result in
    let whole = c.as_chunks.ensures.front ∙ pieces-are_chunks (length bytes / 16) 16 bytes in
    let left = c.as_chunks.ensures.back ∙ after_chunks 16 bytes in
    c.hash.ensures ∙ hash32_of bytes c.as_chunks.result.1.now (length bytes) sums.first sums.second sums.third sums.fourth refl
    (c.after.ensures.first ∙ ap (xxh32_sum 0 _) whole) (c.after.ensures.second ∙ ap (xxh32_sum 1 _) whole)
    (c.after.ensures.third ∙ ap (xxh32_sum 2 _) whole) (c.after.ensures.fourth ∙ ap (xxh32_sum 3 _) whole) left
