-- How many bytes a reading leaves at most.
use Rattle.std.specs.Prelude.{nat_lt}
use Rattle.std.proofs.Common.{◌≡◌, ℕ, ◌+◌, ◌^◌, ◌<◌, ◌≤◌, Bool, true, false, cond, List, length, take, drop, Result, Ok, Err, refl, ap, subst, arith, length-drop}
use Rattle.std.proofs.lemmas.Bool.{ltb-false}
use Rattle.rk_bytes.specs.declared.model.number.NumFault.TheVariants.{Cut}
use Rattle.rk_bytes.specs.Model.Numbers.{Read, ◌>>=◌, groups_value, high_count, part_of, varint_at, varint32_at, varint64_at, prefixed_at, reads_or}
use Rattle.rk_bytes.proofs.Callers.Readings.{passed, taken}

-- what is left of what is read has at most so many bytes
pub record Leaves {A F : Type 0} (left : A → List ℕ) (most : ℕ) (read : Result A F) : Type 0 where
  pub at_most : (one : A) → read ≡ Ok one → length (left one) ≤ most

-- what is left after a value
abbrev pub after : {A : Type 0} → A × List ℕ → List ℕ
after one = one.1

pub leaves_fault : {A F : Type 0} (left : A → List ℕ) (most : ℕ) (why : F) → Leaves left most (Err why)
leaves_fault left most why = record { at_most = λ one is. absurd cc }

pub leaves_ok : {A F : Type 0} (left : A → List ℕ) (most : ℕ) (x : A) → length (left x) ≤ most → Leaves {A = A} {F = F} left most (Ok x)
leaves_ok {A = A} {F = F} left most x short = record { at_most = λ one is. let same : x ≡ one = cc in subst (λ one. length (left one) ≤ most) same short }

pub leaves_either : {A F : Type 0} {left : A → List ℕ} {most : ℕ} (test : Bool) {one two : Result A F} → Leaves left most one → Leaves left most two → Leaves left most (cond test one two)
leaves_either true a b = a
leaves_either false a b = b

pub leaves_then : {A B F : Type 0} {left : B → List ℕ} {most : ℕ} (before : A → List ℕ) (read : Result A F) (next : A → Result B F) → Leaves before most read → ((one : A) → length (before one) ≤ most → Leaves left most (next one)) → Leaves left most (read >>= next)
leaves_then before (Ok one) next first then = then one (first.at_most one refl)
leaves_then {left = left} {most = most} before (Err why) next first then = leaves_fault left most why

pub leaves_or : {A F : Type 0} {most : ℕ} (fault : F) (read : Read A) → Leaves after most read → Leaves after most (reads_or fault read)
leaves_or fault (Ok one) leaves = record { at_most = λ other is. leaves.at_most other (let same : one ≡ other = cc in ap Ok same) }
leaves_or {most = most} fault (Err why) leaves = leaves_fault after most fault

pub leaves_more : {A F : Type 0} {left : A → List ℕ} (few most : ℕ) (read : Result A F) → few ≤ most → Leaves left few read → Leaves left most read
leaves_more few most read more leaves = record { at_most = λ one is. let short = leaves.at_most one is in omega arith }

-- a varint has a byte at least
pub varint_shorter : (most bits : ℕ) (bytes : List ℕ) (one : ℕ × List ℕ) → varint_at most bits bytes ≡ Ok one → length one.1 < length bytes
varint_shorter most bits bytes one e =
    let len = high_count bytes + 1 in
    let short = passed (nat_lt most len) _ _ one e in
    let whole = passed (nat_lt (length bytes) len) _ _ one short.1 in
    let fitting = taken (nat_lt (groups_value (take len bytes)) (2 ^ bits)) _ _ one whole.1 in
    let enough : len ≤ length bytes = ltb-false (length bytes) len whole.0 in
    subst (λ (one : ℕ × List ℕ). length one.1 < length bytes) fitting.1 (omega (arith, length-drop len bytes))

varint_leaves : (most bits : ℕ) (bytes : List ℕ) → Leaves after (length bytes) (varint_at most bits bytes)
varint_leaves most bits bytes = record { at_most = λ one is. let short = varint_shorter most bits bytes one is in omega arith }

-- as what stands after another value
pub varint32_leaves : (most : ℕ) (bytes : List ℕ) → length bytes ≤ most → Leaves after most (varint32_at bytes)
varint32_leaves most bytes short = leaves_more (length bytes) most (varint32_at bytes) short (varint_leaves 5 32 bytes)

pub varint64_leaves : (most : ℕ) (bytes : List ℕ) → length bytes ≤ most → Leaves after most (varint64_at bytes)
varint64_leaves most bytes short = leaves_more (length bytes) most (varint64_at bytes) short (varint_leaves 10 64 bytes)

part_leaves : (most n : ℕ) (bytes : List ℕ) → length bytes ≤ most → Leaves after most (part_of n bytes)
part_leaves most n bytes short = leaves_either (nat_lt (length bytes) n) (leaves_fault after most Cut) (leaves_ok after most (take n bytes, drop n bytes) (omega (arith, length-drop n bytes)))

pub prefixed_leaves : (most : ℕ) (bytes : List ℕ) → length bytes ≤ most → Leaves after most (prefixed_at bytes)
prefixed_leaves most bytes short = leaves_then after (varint32_at bytes) (λ len. part_of len.0 len.1) (varint32_leaves most bytes short) (λ len short. part_leaves most len.0 len.1 short)
