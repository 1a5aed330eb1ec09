-- An internal key has the parts that it is made of.
use Rattle.std.proofs.Common.{◌≡◌, ℕ, Bool, ◌+◌, ◌-◌, ◌/◌, ◌%◌, ◌^◌, ◌<◌, ◌≤◌, List, ◌++◌, length, take, drop, refl, ap, ◌∙◌, arith, length-append, cond}
use Rattle.std.specs.Prelude.{Option, Some, Result, Ok, Err, option_map, ok_or}
use Rattle.std.proofs.Math.Seq.{take-append_seam, drop-append_seam}
use Rattle.std.proofs.lemmas.Bool.{le-ltb}
use Rattle.rk_bytes.specs.declared.model.key.Kind.{Kind}
use Rattle.rk_bytes.specs.declared.model.key.Kind.TheVariants.{Deletion, Value, Merge, SingleDeletion, RangeDeletion}
use Rattle.rk_bytes.specs.declared.model.key.KeyFault.{KeyFault}
use Rattle.rk_bytes.specs.declared.model.key.KeyFault.TheVariants.{Short}
use Rattle.rk_bytes.specs.Model.Numbers.{little_endian, fixed_of}
use Rattle.rk_bytes.specs.Model.InternalKey.{kind_number, kind_of, packed_of, user_key, packed, internal_key, KeyParts, kind_fault, key_parts}
use Rattle.rk_bytes.proofs.Callers.FixedNumbers.{little_endian-fixed_of, length-fixed_of}

kind_of-kind_number : (kind : Kind) → kind_of (kind_number kind) ≡ Some kind
kind_of-kind_number Deletion = refl
kind_of-kind_number Value = refl
kind_of-kind_number Merge = refl
kind_of-kind_number SingleDeletion = refl
kind_of-kind_number RangeDeletion = refl

kind_number-byte : (kind : Kind) → kind_number kind < 256
kind_number-byte Deletion = omega arith
kind_number-byte Value = omega arith
kind_number-byte Merge = omega arith
kind_number-byte SingleDeletion = omega arith
kind_number-byte RangeDeletion = omega arith

-- the length without the last 8 bytes
without_end : (user end : List ℕ) → length end ≡ 8 → length (user ++ end) - 8 ≡ length user
without_end user end eight = omega (arith, length-append user end)

-- key_parts, by what it reads of a key: whether it is short, its user key, its sequence number, its kind and that kind's number
abbrev pub answer : Bool → List ℕ → ℕ → Option Kind → ℕ → Result KeyParts KeyFault
answer is_short user sequence found number =
    cond is_short (Err Short) (ok_or (option_map (λ kind. record { user = user; sequence = sequence; kind = kind }) found) (kind_fault number))

with_parts : (key user : List ℕ) (sequence : ℕ) (kind : Kind) → 8 ≤ length key → user_key key ≡ user → packed key ≡ packed_of sequence kind
    → key_parts key ≡ Ok (record { user = user; sequence = sequence; kind = kind })
with_parts key user sequence kind long users number =
    let byte : kind_number kind < 256 = kind_number-byte kind in
    let sequence_is : packed key / 256 ≡ sequence = omega arith in
    let kind_is : packed key % 256 ≡ kind_number kind = omega arith in
    let found : kind_of (packed key % 256) ≡ Some kind = ap kind_of kind_is ∙ kind_of-kind_number kind in
    λ i. answer (le-ltb (length key) 8 long i) (users i) (sequence_is i) (found i) (kind_is i)

pub key_parts-internal_key : (user : List ℕ) (sequence : ℕ) (kind : Kind) → sequence < 2 ^ 56 → key_parts (internal_key user sequence kind) ≡ Ok (record { user = user; sequence = sequence; kind = kind })
unfolding internal_key
key_parts-internal_key user sequence kind below =
    let n : ℕ = packed_of sequence kind in
    let end : List ℕ = fixed_of 8 n in
    let eight : length end ≡ 8 = length-fixed_of 8 n in
    let byte : kind_number kind < 256 = kind_number-byte kind in
    let cut : length (user ++ end) - 8 ≡ length user = without_end user end eight in
    with_parts (user ++ end) user sequence kind (omega (arith, length-append user end))
    (ap (λ len. take len (user ++ end)) cut ∙ take-append_seam user end)
    (ap (λ len. little_endian (drop len (user ++ end))) cut ∙ ap little_endian (drop-append_seam user end) ∙ little_endian-fixed_of 8 n (omega arith))

-- it is 8 bytes longer than its user key
pub length-internal_key : (user : List ℕ) (sequence : ℕ) (kind : Kind) → length (internal_key user sequence kind) ≡ length user + 8
unfolding internal_key
length-internal_key user sequence kind = omega (arith, length-append user (fixed_of 8 (packed_of sequence kind)), length-fixed_of 8 (packed_of sequence kind))
