use Rattle.std.proofs.Common.{◌≡◌, eqb, sym, ap, ◌∙◌, arith}
use Rattle.rk_bytes.specs.Model.Checksums.{crc32c, mask}
use Rattle.rk_bytes.specs.Model.LogMarks.{stored_sum, summed_part}
use Rattle.rk_log.proofs.FoundLemmas.{fragment_long, summed_part-range, stored_sum-bytes}
use Rattle.rk_log.proofs.header.has_right_sum.Goals as goal

pub returns : goal.returns
returns c =
    let bytes = c.args.bytes.now in
    let stored : c.from_le_bytes-stored.result ≡ stored_sum bytes = c.from_le_bytes-stored.ensures ∙ sym (stored_sum-bytes bytes (omega arith) ∙ omega arith) in
    let part = summed_part-range bytes c.args.len c.requires.len (omega (arith, fragment_long bytes, c.requires.len)) in
    let sum : c.mask.result ≡ mask (crc32c (summed_part bytes)) = c.mask.ensures ∙ ap mask (c.crc32c.ensures ∙ ap crc32c part) in
    λ i. eqb (stored i) (sum i)
