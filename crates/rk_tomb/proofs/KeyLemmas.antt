-- The user key of an internal key that is made, and the number after it.
use Rattle.std.proofs.Common.{◌≡◌, ℕ, ◌-◌, ◌^◌, ◌<◌, List, ◌++◌, length, take, drop, ap, ◌∙◌, arith, length-append}
use Rattle.std.proofs.Math.Seq.{take-append_seam, drop-append_seam}
use Rattle.rk_bytes.specs.declared.model.key.Kind.{Kind}
use Rattle.rk_bytes.specs.declared.model.key.Kind.TheVariants.{Deletion, Value, Merge, SingleDeletion, RangeDeletion}
use Rattle.rk_bytes.specs.Model.Numbers.{little_endian, fixed_of}
use Rattle.rk_bytes.specs.Model.InternalKey.{kind_number, packed_of, user_key, packed, internal_key}
use Rattle.rk_bytes.proofs.Callers.FixedNumbers.{little_endian-fixed_of, length-fixed_of}

pub kind_number-byte : (kind : Kind) → kind_number kind < 256
kind_number-byte Deletion = omega arith
kind_number-byte Value = omega arith
kind_number-byte Merge = omega arith
kind_number-byte SingleDeletion = omega arith
kind_number-byte RangeDeletion = omega arith

without_number : (user : List ℕ) (n : ℕ) → length (user ++ fixed_of 8 n) - 8 ≡ length user
without_number user n = let eight = length-fixed_of 8 n in omega (arith, length-append user (fixed_of 8 n))

pub user_key-internal_key : (user : List ℕ) (sequence : ℕ) (kind : Kind) → user_key (internal_key user sequence kind) ≡ user
unfolding internal_key
user_key-internal_key user sequence kind =
    let end : List ℕ = fixed_of 8 (packed_of sequence kind) in
    ap (λ len. take len (user ++ end)) (without_number user (packed_of sequence kind)) ∙ take-append_seam user end

pub packed-internal_key : (user : List ℕ) (sequence : ℕ) (kind : Kind) → sequence < 2 ^ 56 → packed (internal_key user sequence kind) ≡ packed_of sequence kind
unfolding internal_key
packed-internal_key user sequence kind few =
    let n : ℕ = packed_of sequence kind in
    let end : List ℕ = fixed_of 8 n in
    let byte : kind_number kind < 256 = kind_number-byte kind in
    ap (λ len. little_endian (drop len (user ++ end))) (without_number user n) ∙ ap little_endian (drop-append_seam user end) ∙ little_endian-fixed_of 8 n (omega arith)
