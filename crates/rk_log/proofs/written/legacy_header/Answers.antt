use Rattle.std.proofs.Common.{◌∷◌, [], length, None, ap, ◌∙◌, get_or, ◌++◌}
use Rattle.rk_bytes.specs.Model.Numbers.{fixed_of}
use Rattle.rk_log.proofs.WriteLemmas.{four_bytes, two_bytes, fragment_parts}
use Rattle.rk_log.proofs.written.legacy_header.Goals as goal

pub returns : goal.returns
returns c =
    let payload = c.args.payload.now in
    let stored = c.to_le_bytes.ensures in
    let len = c.to_le_bytes-2.ensures in
    four_bytes _ _ _ _ c.mask.result _ (ap (λ r. get_or r 0 0) stored) (ap (λ r. get_or r 1 0) stored) (ap (λ r. get_or r 2 0) stored) (ap (λ r. get_or r 3 0) stored)
    ∙ (ap (λ rest. fixed_of 4 c.mask.result ++ rest) (two_bytes _ _ (length payload) _ (ap (λ r. get_or r 0 0) len) (ap (λ r. get_or r 1 0) len))
    ∙ fragment_parts None c.args.kind c.crc32c_extend-sum.result c.mask.result payload (c.crc32c_extend-sum.ensures.whole (c.args.kind ∷ []) c.crc32c.ensures) c.mask.ensures)
