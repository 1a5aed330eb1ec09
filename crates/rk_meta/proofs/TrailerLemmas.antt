-- A handle's block, by the tests of its trailer.
use Rattle.std.proofs.Common.{◌≡◌, ℕ, ◌+◌, ◌^◌, ◌<◌, ◌≤◌, Bool, true, false, cond, List, length, take, drop, nat_lt, nat_le, Result, Ok, Err, refl, ◌∙◌, arith}
use Rattle.std.specs.Prelude.{◌==◌, ◌||◌, not, slice_index}
use Rattle.std.proofs.lemmas.Bool.{lt-ltb, le-ltb, lt-leb, cond-true}
use Rattle.rk_bytes.specs.declared.model.block.Handle.{Handle}
use Rattle.rk_bytes.specs.declared.model.table.SumKind.{SumKind}
use Rattle.rk_bytes.specs.declared.model.table.TrailerFault.{TrailerFault}
use Rattle.rk_bytes.specs.declared.model.table.TrailerFault.TheVariants.{OutOfFile, Checksum, Compressed}
use Rattle.rk_bytes.specs.Model.Numbers.{little_endian}
use Rattle.rk_bytes.specs.Model.TableFooter.{checked_block, has_sum}

-- what a block's tests give: whether it passes the bytes' end, whether its sum is right, whether its type is 0
abbrev pub tested : Bool → Bool → Bool → ℕ → List ℕ → Result (List ℕ) TrailerFault
tested out summed plain type_byte block =
    cond out (Err OutOfFile) (cond (not summed) (Err Checksum) (cond plain (Ok block) (Err (Compressed type_byte))))

pub out-of-file : (bytes : List ℕ) (handle : Handle) (sum : SumKind) → length bytes < handle.offset + handle.size + 5 → checked_block bytes handle sum ≡ Err OutOfFile
unfolding checked_block
out-of-file bytes handle sum short = by (nat_le (2 ^ 64) (handle.offset + handle.size + 5)) (lt-ltb (length bytes) (handle.offset + handle.size + 5) short)
  where
    by : (great : Bool) → nat_lt (length bytes) (handle.offset + handle.size + 5) ≡ true
        → cond (great || nat_lt (length bytes) (handle.offset + handle.size + 5)) (Err OutOfFile) (cond (not (has_sum sum (little_endian (take 4 (drop 1 (drop (handle.offset + handle.size) bytes)))) (take handle.size (drop handle.offset bytes)) (slice_index (drop (handle.offset + handle.size) bytes) 0))) (Err Checksum) (cond (slice_index (drop (handle.offset + handle.size) bytes) 0 == 0) (Ok (take handle.size (drop handle.offset bytes))) (Err (Compressed (slice_index (drop (handle.offset + handle.size) bytes) 0))))) ≡ Err OutOfFile
    by true is = refl
    by false is = cond-true _ _ _ is

pub within-file : (bytes : List ℕ) (handle : Handle) (sum : SumKind) (block trailer : List ℕ) → length bytes < 2 ^ 64 → handle.offset + handle.size + 5 ≤ length bytes
    → block ≡ take handle.size (drop handle.offset bytes) → trailer ≡ drop (handle.offset + handle.size) bytes
    → checked_block bytes handle sum ≡ tested false (has_sum sum (little_endian (take 4 (drop 1 trailer))) block (slice_index trailer 0)) (slice_index trailer 0 == 0) (slice_index trailer 0) block
unfolding checked_block
within-file bytes handle sum block trailer fits within is is' =
    let small : handle.offset + handle.size + 5 < 2 ^ 64 = omega arith in
    rw (lt-leb (2 ^ 64) (handle.offset + handle.size + 5) small, le-ltb (length bytes) (handle.offset + handle.size + 5) within, is, is') refl

pub wrong-sum : (bytes : List ℕ) (handle : Handle) (sum : SumKind) (block trailer : List ℕ) → length bytes < 2 ^ 64 → handle.offset + handle.size + 5 ≤ length bytes
    → block ≡ take handle.size (drop handle.offset bytes) → trailer ≡ drop (handle.offset + handle.size) bytes
    → has_sum sum (little_endian (take 4 (drop 1 trailer))) block (slice_index trailer 0) ≡ false
    → checked_block bytes handle sum ≡ Err Checksum
wrong-sum bytes handle sum block trailer fits within is is' wrong = within-file bytes handle sum block trailer fits within is is' ∙ rw wrong refl

pub compressed : (bytes : List ℕ) (handle : Handle) (sum : SumKind) (block trailer : List ℕ) → length bytes < 2 ^ 64 → handle.offset + handle.size + 5 ≤ length bytes
    → block ≡ take handle.size (drop handle.offset bytes) → trailer ≡ drop (handle.offset + handle.size) bytes
    → has_sum sum (little_endian (take 4 (drop 1 trailer))) block (slice_index trailer 0) ≡ true
    → (slice_index trailer 0 == 0) ≡ false
    → checked_block bytes handle sum ≡ Err (Compressed (slice_index trailer 0))
compressed bytes handle sum block trailer fits within is is' right other = within-file bytes handle sum block trailer fits within is is' ∙ rw (right, other) refl

pub plain : (bytes : List ℕ) (handle : Handle) (sum : SumKind) (block trailer : List ℕ) → length bytes < 2 ^ 64 → handle.offset + handle.size + 5 ≤ length bytes
    → block ≡ take handle.size (drop handle.offset bytes) → trailer ≡ drop (handle.offset + handle.size) bytes
    → has_sum sum (little_endian (take 4 (drop 1 trailer))) block (slice_index trailer 0) ≡ true
    → (slice_index trailer 0 == 0) ≡ true
    → checked_block bytes handle sum ≡ Ok block
plain bytes handle sum block trailer fits within is is' right zero = within-file bytes handle sum block trailer fits within is is' ∙ rw (right, zero) refl
