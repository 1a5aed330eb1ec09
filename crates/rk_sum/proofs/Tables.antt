-- What the tables hold.
use Rattle.std.proofs.Common.{◌≡◌, ℕ, zero, suc, ◌+◌, ◌*◌, ◌<◌, List, [], ◌∷◌, length, get_or, map, zero-add, refl, ap, ◌∙◌, arith}
use Rattle.std.specs.List.{range_with_len}
use Rattle.std.proofs.lemmas.List.{get_or-map, length-map}
use Rattle.std.proofs.lemmas.List.FromFn.{get_or-range_with_len, length-range_with_len}
use Rattle.rk_bytes.specs.Model.Checksums.{crc_bit, crc_bits}
use Rattle.rk_sum.specs.declared.crc.tables.TheConstants.{TABLES}
use Rattle.rk_sum.proofs.Registers.{crc_bits-add}

-- as many rows, each a byte of zeros after the one before
unfoldable rows : ℕ → List ℕ → List (List ℕ)
rows zero row = []
rows (suc n) row = let next = map (crc_bits 8) row in next ∷ rows n next

tables : TABLES ≡ rows 8 (range_with_len 0 256)
unfolding rows crc_bits crc_bit
tables = refl

rows_entry : (n k i : ℕ) (row : List ℕ) → k < n → i < length row → get_or (get_or (rows n row) k []) i 0 ≡ crc_bits (8 * (k + 1)) (get_or row i 0)
unfolding rows
rows_entry zero k i row h _ = absurd (omega (arith, h))
rows_entry (suc n) zero i row _ h = get_or-map (crc_bits 8) row i 0 0 h
rows_entry (suc n) (suc k) i row h l =
    let long : i < length (map (crc_bits 8) row) = rw length-map l in
    let count : 8 * (suc k + 1) ≡ 8 + 8 * (k + 1) = omega arith in
    let earlier : k < n = omega (arith, h) in
    rw (count, crc_bits-add 8 (8 * (k + 1)))
    (rows_entry n k i (map (crc_bits 8) row) earlier long ∙ ap (crc_bits (8 * (k + 1))) (get_or-map (crc_bits 8) row i 0 0 l))

pub table_entry : (k i : ℕ) → k < 8 → i < 256 → get_or (get_or TABLES k []) i 0 ≡ crc_bits (8 * (k + 1)) i
table_entry k i h l =
    let bytes : List ℕ = range_with_len 0 256 in
    let long : length bytes ≡ 256 = length-range_with_len 0 256 in
    ap (λ rs. get_or (get_or rs k []) i 0) tables ∙ rows_entry 8 k i bytes h (rw long l)
    ∙ ap (crc_bits (8 * (k + 1))) (get_or-range_with_len 0 256 i 0 l ∙ zero-add i)
