-- A block that is read apart from the table stands the tests of its trailer as it does within the table.
use Rattle.std.proofs.Common.{◌≡◌, ℕ, ◌+◌, ◌-◌, ◌^◌, ◌<◌, ◌≤◌, Bool, true, false, cond, List, length, take, drop, nat_lt, nat_le, Result, Ok, Err, refl, sym, ap, ◌∙◌, arith, zero-add, get_or-take, length-drop}
use Rattle.std.specs.Prelude.{◌==◌, ◌||◌, not, slice_index}
use Rattle.std.proofs.lemmas.Bool.{lt-ltb, le-ltb, lt-leb, ltb-true, ltb-false}
use Rattle.std.proofs.lemmas.List.{take-take, drop-take, drop-drop, length-take}
use Rattle.rk_bytes.specs.declared.model.block.Handle.{Handle}
use Rattle.rk_bytes.specs.declared.model.table.SumKind.{SumKind}
use Rattle.rk_bytes.specs.declared.model.table.TrailerFault.{TrailerFault}
use Rattle.rk_bytes.specs.declared.model.table.TrailerFault.TheVariants.{OutOfFile, Checksum, Compressed}
use Rattle.rk_bytes.specs.Model.Numbers.{little_endian}
use Rattle.rk_bytes.specs.Model.TableFooter.{checked_block, has_sum}

-- what the tests give: whether the bytes end before the trailer does, the block, the bytes of its sum, and its type
abbrev tested : SumKind → Bool → List ℕ → List ℕ → ℕ → Result (List ℕ) TrailerFault
tested sum out block stored type_byte =
    cond out (Err OutOfFile) (cond (not (has_sum sum (little_endian stored) block type_byte)) (Err Checksum) (cond (type_byte == 0) (Ok block) (Err (Compressed type_byte))))

-- whether the bytes end before the trailer does
abbrev is_out : ℕ → ℕ → Bool
is_out len end = nat_le (2 ^ 64) end || nat_lt len end

is_tested : (bytes : List ℕ) (handle : Handle) (sum : SumKind)
    → checked_block bytes handle sum ≡ tested sum (is_out (length bytes) (handle.offset + handle.size + 5)) (take handle.size (drop handle.offset bytes)) (take 4 (drop 1 (drop (handle.offset + handle.size) bytes))) (slice_index (drop (handle.offset + handle.size) bytes) 0)
unfolding checked_block
is_tested bytes handle sum = refl

out : (len end : ℕ) → len < end → is_out len end ≡ true
out len end short = by (nat_le (2 ^ 64) end) (lt-ltb len end short)
  where
    by : (great : Bool) → nat_lt len end ≡ true → (great || nat_lt len end) ≡ true
    by true e = refl
    by false e = e

within : (len end : ℕ) → end ≤ len → end < 2 ^ 64 → is_out len end ≡ false
within len end fits small = rw (lt-leb (2 ^ 64) end small, le-ltb len end fits) refl

pub out-of-file : (bytes : List ℕ) (handle : Handle) (sum : SumKind) → length bytes < handle.offset + handle.size + 5 → checked_block bytes handle sum ≡ Err OutOfFile
out-of-file bytes handle sum short =
    is_tested bytes handle sum ∙ ap (λ out. tested sum out (take handle.size (drop handle.offset bytes)) (take 4 (drop 1 (drop (handle.offset + handle.size) bytes))) (slice_index (drop (handle.offset + handle.size) bytes) 0)) (out (length bytes) (handle.offset + handle.size + 5) short)

-- a block that passes the tests stands where its handle says
pub block_is : (bytes : List ℕ) (handle : Handle) (sum : SumKind) (block : List ℕ) → checked_block bytes handle sum ≡ Ok block → block ≡ take handle.size (drop handle.offset bytes)
block_is bytes handle sum block told =
    let trailer = drop (handle.offset + handle.size) bytes in
    by (is_out (length bytes) (handle.offset + handle.size + 5)) (has_sum sum (little_endian (take 4 (drop 1 trailer))) (take handle.size (drop handle.offset bytes)) (slice_index trailer 0)) (slice_index trailer 0 == 0) (sym (is_tested bytes handle sum) ∙ told)
  where
    by : (out summed plain : Bool) → cond out (Err OutOfFile) (cond (not summed) (Err Checksum) (cond plain (Ok (take handle.size (drop handle.offset bytes))) (Err (Compressed (slice_index (drop (handle.offset + handle.size) bytes) 0))))) ≡ Ok block → block ≡ take handle.size (drop handle.offset bytes)
    by true summed plain e = cc
    by false false plain e = cc
    by false true false e = cc
    by false true true e = cc

-- the part of a list behind one that was cut off, where enough is left
cut : (n size : ℕ) (xs : List ℕ) → n ≤ size → drop n (take size xs) ≡ take (size - n) (drop n xs)
cut n size xs fits = let same : n + (size - n) ≡ size = omega arith in ap (λ m. drop n (take m xs)) (sym same) ∙ drop-take n (size - n) xs

-- the sum and the type of a trailer of 5 bytes or more are those of all that follows the block
stored_is : (n : ℕ) (rest : List ℕ) → 5 ≤ n → take 4 (drop 1 (take n rest)) ≡ take 4 (drop 1 rest)
stored_is n rest long = ap (take 4) (cut 1 n rest (omega arith)) ∙ take-take 4 (n - 1) (drop 1 rest) (omega arith)

module _ (table : List ℕ) (handle : Handle) (size : ℕ) (fits : handle.offset + handle.size + 5 ≤ size) (small : handle.offset + handle.size + 5 < 2 ^ 64) where
  -- the bytes of the block and its trailer
  abbrev part : List ℕ
  part = take (handle.size + 5) (drop handle.offset table)

  -- what follows the block
  abbrev rest : List ℕ
  rest = drop (handle.offset + handle.size) table

  abbrev alone : Handle
  alone = record { offset = 0; size = handle.size }

  block_same : take handle.size (drop 0 part) ≡ take handle.size (drop handle.offset (take size table))
  block_same =
      take-take handle.size (handle.size + 5) (drop handle.offset table) (omega arith)
      ∙ sym (ap (take handle.size) (cut handle.offset size table (omega arith)) ∙ take-take handle.size (size - handle.offset) (drop handle.offset table) (omega arith))

  trailer_alone : drop (0 + handle.size) part ≡ take 5 rest
  trailer_alone = ap (λ n. drop n part) (zero-add handle.size) ∙ drop-take handle.size 5 (drop handle.offset table) ∙ ap (take 5) (drop-drop handle.size handle.offset table)

  trailer_within : drop (handle.offset + handle.size) (take size table) ≡ take (size - (handle.offset + handle.size)) rest
  trailer_within = cut (handle.offset + handle.size) size table (omega arith)

  -- the sum and the type, read alone and within the table
  stored_same : take 4 (drop 1 (drop (0 + handle.size) part)) ≡ take 4 (drop 1 (drop (handle.offset + handle.size) (take size table)))
  stored_same =
      ap (λ l. take 4 (drop 1 l)) trailer_alone ∙ stored_is 5 rest (omega arith)
      ∙ sym (ap (λ l. take 4 (drop 1 l)) trailer_within ∙ stored_is (size - (handle.offset + handle.size)) rest (omega arith))

  type_same : slice_index (drop (0 + handle.size) part) 0 ≡ slice_index (drop (handle.offset + handle.size) (take size table)) 0
  type_same =
      let more = size - (handle.offset + handle.size) in
      let some : 0 < more = omega arith in
      ap (λ l. slice_index l 0) trailer_alone ∙ get_or-take 5 rest 0 0 (omega arith)
      ∙ sym (ap (λ l. slice_index l 0) trailer_within ∙ get_or-take more rest 0 0 some)

  out_same : is_out (length part) (0 + handle.size + 5) ≡ is_out (length (take size table)) (handle.offset + handle.size + 5)
  out_same = by (nat_lt (length table) (handle.offset + handle.size + 5)) refl
    where
      by : (short : Bool) → nat_lt (length table) (handle.offset + handle.size + 5) ≡ short → is_out (length part) (0 + handle.size + 5) ≡ is_out (length (take size table)) (handle.offset + handle.size + 5)
      by true e =
          let is_short : length table < handle.offset + handle.size + 5 = ltb-true (length table) (handle.offset + handle.size + 5) e in
          out (length part) (0 + handle.size + 5) (omega (arith, length-take (handle.size + 5) (drop handle.offset table), length-drop handle.offset table))
          ∙ sym (out (length (take size table)) (handle.offset + handle.size + 5) (omega (arith, length-take size table)))
      by false e =
          let is_long : handle.offset + handle.size + 5 ≤ length table = ltb-false (length table) (handle.offset + handle.size + 5) e in
          within (length part) (0 + handle.size + 5) (omega (arith, length-take (handle.size + 5) (drop handle.offset table), length-drop handle.offset table)) (omega arith)
          ∙ sym (within (length (take size table)) (handle.offset + handle.size + 5) (omega (arith, length-take size table)) (omega arith))

  pub same_alone : (sum : SumKind) → checked_block part alone sum ≡ checked_block (take size table) handle sum
  same_alone sum =
      is_tested part alone sum
      ∙ (λ i. tested sum (out_same i) (block_same i) (stored_same i) (type_same i))
      ∙ sym (is_tested (take size table) handle sum)

-- a handle past the first so many bytes has no block in them
pub past_size : (table : List ℕ) (handle : Handle) (size : ℕ) (sum : SumKind) → size < handle.offset + handle.size + 5 → checked_block (take size table) handle sum ≡ Err OutOfFile
past_size table handle size sum short = out-of-file (take size table) handle sum (omega (arith, length-take size table))
