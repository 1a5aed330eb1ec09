use Rattle.std.proofs.Common.{◌≡◌, ℕ, List, ◌+◌, ◌∷◌, length, Some, ap, ◌∙◌, get_or, ◌++◌}
use Rattle.rk_bytes.specs.Model.Checksums.{crc32c}
use Rattle.rk_bytes.specs.Model.Numbers.{fixed_of}
use Rattle.rk_log.proofs.WriteLemmas.{four_bytes, two_bytes, fragment_parts}
use Rattle.rk_log.proofs.written.numbered_header.Goals as goal

pub returns : goal.returns
returns c =
    let payload = c.args.payload.now in
    let kind = c.args.kind + 4 in
    let stored = c.to_le_bytes-2.ensures in
    let len = c.to_le_bytes-3.ensures in
    let low = c.to_le_bytes.ensures in
    let number = λ (rest : List ℕ). four_bytes _ _ _ _ c.args.number rest (ap (λ r. get_or r 0 0) low) (ap (λ r. get_or r 1 0) low) (ap (λ r. get_or r 2 0) low) (ap (λ r. get_or r 3 0) low) in
    let sum : c.crc32c_extend-sum.result ≡ crc32c (kind ∷ (fixed_of 4 c.args.number ++ payload)) =
    c.crc32c_extend-sum.ensures.whole _ c.crc32c.ensures ∙ ap (λ rest. crc32c (kind ∷ rest)) (number payload) in
    four_bytes _ _ _ _ c.mask.result _ (ap (λ r. get_or r 0 0) stored) (ap (λ r. get_or r 1 0) stored) (ap (λ r. get_or r 2 0) stored) (ap (λ r. get_or r 3 0) stored)
    ∙ (ap (λ rest. fixed_of 4 c.mask.result ++ rest) (two_bytes _ _ (length payload) _ (ap (λ r. get_or r 0 0) len) (ap (λ r. get_or r 1 0) len)
    ∙ ap (λ rest. fixed_of 2 (length payload) ++ (kind ∷ rest)) (number payload))
    ∙ fragment_parts (Some c.args.number) c.args.kind c.crc32c_extend-sum.result c.mask.result payload sum c.mask.ensures)
