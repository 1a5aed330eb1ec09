use Rattle.std.proofs.Common.{◌≡◌, ◌+◌, ◌/◌, [], ◌∷◌, ◌++◌, length, take, sym, ap, ◌∙◌, arith}
use Rattle.std.proofs.lemmas.List.{length-append}
use Rattle.rk_bytes.specs.Model.Checksums.{after_pieces, whole_pieces, xxh64_sum}
use Rattle.rk_sum.proofs.Hashes.{hash64_of, sum64_of_both}
use Rattle.rk_sum.proofs.Stripes.{pieces-are_chunks, after_chunks, after_pieces-append}
use Rattle.rk_sum.proofs.hash64.xxh64_with_last.Goals as goal

pub returns : goal.returns
returns c =
    let bytes = c.args.bytes.now in
    let last = c.args.last ∷ [] in
    let rest = c.as_chunks.result.1.now in
    let end = take (length rest + 1) c.with_last-end.result in
    let whole = c.as_chunks.ensures.front ∙ pieces-are_chunks (length bytes / 32) 32 bytes in
    let left = c.as_chunks.ensures.back ∙ after_chunks 32 bytes in
    let end_is : end ≡ after_pieces 32 bytes ++ last = c.with_last-end.ensures ∙ ap (λ rest. rest ++ last) left in
    let whole_end = c.as_chunks-2.ensures.front ∙ pieces-are_chunks (length end / 32) 32 end ∙ ap (whole_pieces 32) end_is in
    let left_end = c.as_chunks-2.ensures.back ∙ after_chunks 32 end ∙ ap (after_pieces 32) end_is ∙ sym (after_pieces-append 32 bytes last (omega arith)) in
    let first = c.after.ensures in
    let then = c.after-2.ensures in
    let sums = c.after-2.result in
    c.hash.ensures ∙ hash64_of (bytes ++ last) c.as_chunks-2.result.1.now (length bytes + 1) sums.first sums.second sums.third sums.fourth (sym (length-append bytes last))
    (then.first ∙ (λ i. xxh64_sum 0 ((first.first ∙ ap (xxh64_sum 0 _) whole) i) (whole_end i)) ∙ sum64_of_both 0 _ bytes last)
    (then.second ∙ (λ i. xxh64_sum 1 ((first.second ∙ ap (xxh64_sum 1 _) whole) i) (whole_end i)) ∙ sum64_of_both 1 _ bytes last)
    (then.third ∙ (λ i. xxh64_sum 2 ((first.third ∙ ap (xxh64_sum 2 _) whole) i) (whole_end i)) ∙ sum64_of_both 2 _ bytes last)
    (then.fourth ∙ (λ i. xxh64_sum 3 ((first.fourth ∙ ap (xxh64_sum 3 _) whole) i) (whole_end i)) ∙ sum64_of_both 3 _ bytes last)
    left_end
