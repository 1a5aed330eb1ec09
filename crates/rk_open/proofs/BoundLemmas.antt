-- The bounds that are stated for a file, and the records of its table.
use Rattle.std.proofs.Common.{◌≡◌, ℕ, ◌-◌, ◌<◌, ◌≤◌, Bool, true, false, List, [], ◌∷◌, ◌++◌, length, take, drop, map, refl, ap, ◌∙◌, arith, length-append}
use Rattle.std.specs.Prelude.{◌&&◌}
use Rattle.std.specs.Ordering.{nat_cmp, ordering_then, is_le}
use Rattle.std.specs.Cmp.Lexicographic.{slice_cmp}
use Rattle.std.proofs.Math.Seq.{take-append_seam, drop-append_seam}
use Rattle.rk_bytes.specs.declared.model.key.Kind.{Kind}
use Rattle.rk_bytes.specs.declared.model.key.Kind.TheVariants.{Deletion, Value, Merge, SingleDeletion, RangeDeletion}
use Rattle.rk_bytes.specs.declared.model.key.Record.{Record}
use Rattle.rk_bytes.specs.declared.model.manifest.FileMeta.{FileMeta}
use Rattle.rk_bytes.specs.Model.Numbers.{little_endian, fixed_of}
use Rattle.rk_bytes.specs.Model.InternalKey.{kind_number, packed_of, user_key, packed, internal_key, top_sequence}
use Rattle.rk_bytes.specs.Model.KeyView.{lies_within, key_of}
use Rattle.rk_bytes.specs.Model.Opening.{are_within, of_family}
use Rattle.rk_bytes.proofs.Callers.FixedNumbers.{little_endian-fixed_of, length-fixed_of}

kind_number-byte : (kind : Kind) → kind_number kind < 256
kind_number-byte Deletion = omega arith
kind_number-byte Value = omega arith
kind_number-byte Merge = omega arith
kind_number-byte SingleDeletion = omega arith
kind_number-byte RangeDeletion = omega arith

without_number : (user : List ℕ) (n : ℕ) → length (user ++ fixed_of 8 n) - 8 ≡ length user
without_number user n = let eight = length-fixed_of 8 n in omega (arith, length-append user (fixed_of 8 n))

pub user_of : (r : Record) → user_key (key_of r) ≡ r.key
unfolding internal_key
user_of r =
    let end : List ℕ = fixed_of 8 (packed_of r.sequence r.kind) in
    ap (λ len. take len (r.key ++ end)) (without_number r.key (packed_of r.sequence r.kind)) ∙ take-append_seam r.key end

pub number_of : (r : Record) → r.sequence ≤ top_sequence → packed (key_of r) ≡ packed_of r.sequence r.kind
unfolding internal_key
number_of r few =
    let n : ℕ = packed_of r.sequence r.kind in
    let end : List ℕ = fixed_of 8 n in
    let byte : kind_number r.kind < 256 = kind_number-byte r.kind in
    ap (λ len. little_endian (drop len (r.key ++ end))) (without_number r.key n) ∙ ap little_endian (drop-append_seam r.key end) ∙ little_endian-fixed_of 8 n (omega arith)

-- a record's internal key between others, by its parts
pub within_parts : (smallest largest : List ℕ) (r : Record) → r.sequence ≤ top_sequence → lies_within smallest largest (key_of r)
    ≡ (is_le (ordering_then (slice_cmp nat_cmp (user_key smallest) r.key) (nat_cmp (packed_of r.sequence r.kind) (packed smallest)))
    && is_le (ordering_then (slice_cmp nat_cmp r.key (user_key largest)) (nat_cmp (packed largest) (packed_of r.sequence r.kind))))
within_parts smallest largest r few = λ i.
    is_le (ordering_then (slice_cmp nat_cmp (user_key smallest) (user_of r i)) (nat_cmp (number_of r few i) (packed smallest)))
    && is_le (ordering_then (slice_cmp nat_cmp (user_of r i) (user_key largest)) (nat_cmp (packed largest) (number_of r few i)))

-- the family of a table's records says nothing of where they lie
pub within_family : (file : FileMeta) (family : ℕ) (records : List Record) → are_within file (map (of_family family) records) ≡ are_within file records
within_family file family [] = refl
within_family file family (r ∷ records) = ap (λ later. lies_within file.smallest file.largest (key_of r) && later) (within_family file family records)

pub within_append : (file : FileMeta) (xs ys : List Record) → are_within file (xs ++ ys) ≡ (are_within file xs && are_within file ys)
within_append file [] ys = refl
within_append file (x ∷ xs) ys = ap (λ later. lies_within file.smallest file.largest (key_of x) && later) (within_append file xs ys) ∙ and_assoc (lies_within file.smallest file.largest (key_of x)) (are_within file xs) (are_within file ys)
  where
    and_assoc : (a b c : Bool) → (a && (b && c)) ≡ ((a && b) && c)
    and_assoc true b c = refl
    and_assoc false b c = refl
