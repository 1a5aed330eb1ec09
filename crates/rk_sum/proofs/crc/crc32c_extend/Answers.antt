use Rattle.std.proofs.Common.{◌≡◌, ℕ, List, [], ◌∷◌, ◌++◌, bit_xor, refl, sym, ap, ◌∙◌}
use Rattle.std.specs.Int.Bits.{xor_assoc, xor_zero_r}
use Rattle.rk_bytes.specs.Model.Checksums.{crc_bits, crc_bytes, crc32c, crc32c_extended}
use Rattle.rk_sum.proofs.crc.crc32c_extend.Goals as goal

crc_bytes-append : (register : ℕ) (front bytes : List ℕ) → crc_bytes register (front ++ bytes) ≡ crc_bytes (crc_bytes register front) bytes
unfolding crc_bytes
crc_bytes-append register [] bytes = refl
crc_bytes-append register (b ∷ front) bytes = crc_bytes-append (crc_bits 8 (bit_xor register b)) front bytes

turned_back : (register : ℕ) → bit_xor (bit_xor register 0xFFFFFFFF) 0xFFFFFFFF ≡ register
turned_back register = xor_assoc register 0xFFFFFFFF 0xFFFFFFFF ∙ xor_zero_r register

crc32c-append : (front bytes : List ℕ) → crc32c_extended (crc32c front) bytes ≡ crc32c (front ++ bytes)
unfolding crc32c crc32c_extended
crc32c-append front bytes =
    ap (λ register. bit_xor (crc_bytes register bytes) 0xFFFFFFFF) (turned_back (crc_bytes 0xFFFFFFFF front))
    ∙ ap (λ register. bit_xor register 0xFFFFFFFF) (sym (crc_bytes-append 0xFFFFFFFF front bytes))

pub returns-clause-whole : goal.returns-clause-whole
unfolding crc32c_extended
returns-clause-whole c = λ front is.
    ap (λ register. bit_xor register 0xFFFFFFFF) c.after_bytes.ensures
    ∙ (ap (λ crc. crc32c_extended crc c.args.bytes.now) is ∙ crc32c-append front c.args.bytes.now)
