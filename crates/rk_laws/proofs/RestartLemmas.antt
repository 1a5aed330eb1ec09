-- The parts of a block that are read from its end are those that it is made of.
use Rattle.std.proofs.Common.{◌≡◌, ℕ, zero, suc, ◌+◌, ◌-◌, ◌*◌, ◌^◌, ◌<◌, ◌≤◌, false, List, [], ◌∷◌, ◌++◌, length, take, drop, Result, Ok, refl, sym, ◌∙◌, ap, subst, arith}
use Rattle.std.specs.Prelude.{flat_map, nat_lt, nat_le, ◌==◌, ◌||◌}
use Rattle.std.specs.List.{AllByRecursion}
use Rattle.std.proofs.lemmas.Bool.{le-ltb, ltb-false, lt-leb, leb-false, eqb-false, ne_eqb, or_parts}
use Rattle.std.proofs.lemmas.List.{take-append-drop, length-take-le, length-append, length-drop, drop-drop}
use Rattle.std.proofs.Math.Seq.{take-append_seam, drop-append_seam, drop-append-add}
use Rattle.rk_bytes.specs.declared.model.block.BlockFault.{BlockFault}
use Rattle.rk_bytes.specs.Model.Numbers.{AreBytes, little_endian, fixed_of}
use Rattle.rk_bytes.specs.Model.BlockEntries.{fixed32s, restart_count, block_parts}
use Rattle.rk_bytes.proofs.Callers.Readings.{passed, rest_of_bytes, front_of_bytes, bytes_after}
use Rattle.rk_bytes.proofs.Callers.FixedNumbers.{little_endian-fixed_of, fixed_of-little_endian}

-- the offsets that bytes spell, and their bytes again
fixed32s-bytes : (n : ℕ) (bytes : List ℕ) → AreBytes bytes → length bytes ≡ 4 * n → (flat_map (fixed_of 4) (fixed32s bytes) ≡ bytes) × (length (fixed32s bytes) ≡ n) × AllByRecursion (λ offset. offset < 2 ^ 32) (fixed32s bytes)
fixed32s-bytes zero [] are len = (refl, refl, tt)
fixed32s-bytes (suc n) [] are len = absurd (omega arith)
fixed32s-bytes n (a ∷ []) are len = absurd (omega arith)
fixed32s-bytes n (a ∷ b ∷ []) are len = absurd (omega arith)
fixed32s-bytes n (a ∷ b ∷ c ∷ []) are len = absurd (omega arith)
fixed32s-bytes zero (a ∷ b ∷ c ∷ d ∷ bytes) are len = absurd (omega arith)
fixed32s-bytes (suc n) (a ∷ b ∷ c ∷ d ∷ bytes) are len =
    let (more, count, fit) = fixed32s-bytes n bytes are.1.1.1.1 (omega arith) in
    let four : fixed_of 4 (little_endian (a ∷ b ∷ c ∷ d ∷ [])) ≡ a ∷ b ∷ c ∷ d ∷ [] = fixed_of-little_endian (a ∷ b ∷ c ∷ d ∷ []) (are.0, (are.1.0, (are.1.1.0, (are.1.1.1.0, tt)))) in
    (ap (λ front. front ++ flat_map (fixed_of 4) (fixed32s bytes)) four ∙ ap (λ rest. a ∷ b ∷ c ∷ d ∷ rest) more, ap suc count, (omega (arith, are.0, are.1.0, are.1.1.0, are.1.1.1.0), fit))

fixed32s-spelled : (offsets : List ℕ) → AllByRecursion (λ offset. offset < 2 ^ 32) offsets → (fixed32s (flat_map (fixed_of 4) offsets) ≡ offsets) × (length (flat_map (fixed_of 4) offsets) ≡ 4 * length offsets)
fixed32s-spelled [] fit = (refl, refl)
fixed32s-spelled (n ∷ offsets) fit =
    let (more, len) = fixed32s-spelled offsets fit.1 in
    (ap (λ first. first ∷ fixed32s (flat_map (fixed_of 4) offsets)) (little_endian-fixed_of 4 n fit.0) ∙ ap (λ rest. n ∷ rest) more, omega (arith, len))

-- the parts of a block with room for this count
parts_with : List ℕ → ℕ → List ℕ × List ℕ
parts_with block count = let len = length block - 4 - 4 * count in (take len block, fixed32s (take (4 * count) (drop len block)))

record Counted (block : List ℕ) (count : ℕ) : Type 0 where
  is : restart_count block ≡ count
  some : 0 < count
  few : count < 2 ^ 31
  room : 4 + 4 * count ≤ length block

block_parts-counted : (block : List ℕ) (count : ℕ) → Counted block count → block_parts block ≡ Ok (parts_with block count)
unfolding parts_with
block_parts-counted block count c =
    let some : count ≡ 0 → ⊥ = λ none. omega arith in
    rw (c.is, le-ltb (length block) 4 (omega arith), lt-leb (2 ^ 31) count c.few, ne_eqb count 0 some, le-ltb (length block) (4 + 4 * count) c.room)

above_zero : (n : ℕ) → (n == 0) ≡ false → 0 < n
above_zero zero e = absurd (eqb-false 0 0 e refl)
above_zero (suc n) e = omega arith

counted_of : (block : List ℕ) (r : List ℕ × List ℕ) → block_parts block ≡ Ok r → Counted block (restart_count block) × (parts_with block (restart_count block) ≡ r)
unfolding parts_with
counted_of block r e =
    let long = passed (nat_lt (length block) 4) _ _ r e in
    let few = passed (nat_le (2 ^ 31) (restart_count block)) _ _ r long.1 in
    let fitting = passed (restart_count block == 0 || nat_lt (length block) (4 + 4 * restart_count block)) _ _ r few.1 in
    let tests = or_parts (restart_count block == 0) _ fitting.0 in
    (record { is = refl; some = above_zero (restart_count block) tests.0; few = leb-false (2 ^ 31) (restart_count block) few.0; room = ltb-false (length block) (4 + 4 * restart_count block) tests.1 }, cc)

-- The block is made of these parts, and of how many offsets there are.
pub record MadeOf (block : List ℕ) (r : List ℕ × List ℕ) : Type 0 where
  pub whole : block ≡ r.0 ++ (flat_map (fixed_of 4) r.1 ++ fixed_of 4 (length r.1))
  pub few : length r.1 < 2 ^ 31
  pub fit : AllByRecursion (λ offset. offset < 2 ^ 32) r.1

-- a block of entries, of bytes of offsets, and of four bytes that count these
made_of : (block entries middle last : List ℕ) (count : ℕ) → AreBytes block → block ≡ entries ++ (middle ++ last) → length middle ≡ 4 * count → length last ≡ 4 → little_endian last ≡ count → count < 2 ^ 31 → MadeOf block (entries, fixed32s middle)
made_of block entries middle last count are whole middle_len last_len is few =
    let later = bytes_after block entries (middle ++ last) are whole in
    let (offsets, number, fit) = fixed32s-bytes count middle (front_of_bytes middle last later) middle_len in
    let four : fixed_of 4 (length (fixed32s middle)) ≡ last =
    ap (fixed_of 4) (number ∙ sym is) ∙ subst (λ n. fixed_of n (little_endian last) ≡ last) last_len (fixed_of-little_endian last (rest_of_bytes middle last later)) in
    record { whole = whole ∙ ap (λ x. entries ++ x) (ap (λ x. x ++ last) (sym offsets) ∙ ap (λ x. flat_map (fixed_of 4) (fixed32s middle) ++ x) (sym four)); few = subst (λ n. n < 2 ^ 31) (sym number) few; fit = fit }

three_parts : (len middle : ℕ) (block : List ℕ) → block ≡ take len block ++ (take middle (drop len block) ++ drop (len + middle) block)
three_parts len middle block =
    sym (take-append-drop len block) ∙ ap (λ x. take len block ++ x) (sym (take-append-drop middle (drop len block)) ∙ ap (λ x. take middle (drop len block) ++ x) (drop-drop middle len block))

-- what is read of a block's end is what the block is made of
pub block_parts_ok : (block : List ℕ) (r : List ℕ × List ℕ) → AreBytes block → block_parts block ≡ Ok r → MadeOf block r
unfolding parts_with
block_parts_ok block r are e =
    let (c, same) = counted_of block r e in
    let count = restart_count block in
    let len = length block - 4 - 4 * count in
    let end : len + 4 * count ≡ length block - 4 = omega (arith, c.room) in
    let whole : block ≡ take len block ++ (take (4 * count) (drop len block) ++ drop (length block - 4) block) =
    subst (λ n. block ≡ take len block ++ (take (4 * count) (drop len block) ++ drop n block)) end (three_parts len (4 * count) block) in
    let middle : length (take (4 * count) (drop len block)) ≡ 4 * count = length-take-le (4 * count) (drop len block) (omega (arith, length-drop len block, c.room)) in
    let last : length (drop (length block - 4) block) ≡ 4 = omega (arith, length-drop (length block - 4) block, c.room) in
    subst (λ (r : List ℕ × List ℕ). MadeOf block r) same
    (made_of block (take len block) (take (4 * count) (drop len block)) (drop (length block - 4) block) count are whole middle last refl c.few)

parts_of : (entries middle last : List ℕ) (count : ℕ) → length middle ≡ 4 * count → length last ≡ 4 → little_endian last ≡ count → 0 < count → count < 2 ^ 31 → block_parts (entries ++ (middle ++ last)) ≡ Ok (entries, fixed32s middle)
unfolding parts_with
parts_of entries middle last count middle_len last_len is some few =
    let block = entries ++ (middle ++ last) in
    let len : length block ≡ length entries + (4 * count + 4) = omega (arith, length-append entries (middle ++ last), length-append middle last) in
    let before : length block - 4 ≡ length entries + 4 * count = omega (arith, len) in
    let first : length block - 4 - 4 * count ≡ length entries = omega (arith, len) in
    let end : drop (length block - 4) block ≡ last =
    ap (λ n. drop n block) before ∙ drop-append-add entries (middle ++ last) (4 * count) ∙ ap (λ n. drop n (middle ++ last)) (sym middle_len) ∙ drop-append_seam middle last in
    let offsets : take (4 * count) (middle ++ last) ≡ middle = ap (λ n. take n (middle ++ last)) (sym middle_len) ∙ take-append_seam middle last in
    block_parts-counted block count (record { is = ap little_endian end ∙ is; some = some; few = few; room = omega (arith, len) })
    ∙ rw (first, take-append_seam, drop-append_seam, offsets)

-- what a block is made of is read of it
pub block_parts-made : (block : List ℕ) (r : List ℕ × List ℕ) → 0 < length r.1 → MadeOf block r → block_parts block ≡ Ok r
block_parts-made block r some m =
    let (offsets, len) = fixed32s-spelled r.1 m.fit in
    ap block_parts m.whole
    ∙ parts_of r.0 (flat_map (fixed_of 4) r.1) (fixed_of 4 (length r.1)) (length r.1) len refl (little_endian-fixed_of 4 (length r.1) (omega (arith, m.few))) some m.few
    ∙ ap (λ (offsets : List ℕ). let parts : Result (List ℕ × List ℕ) BlockFault = Ok (r.0, offsets) in parts) offsets
