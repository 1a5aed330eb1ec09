-- Each part of a batch takes a byte at least.
use Rattle.std.specs.Prelude.{◌==◌, slice_index}
use Rattle.std.proofs.Common.{◌≡◌, ℕ, ◌+◌, ◌-◌, ◌<◌, ◌≤◌, List, [], ◌∷◌, length, drop, Option, Some, None, Result, Ok, Err, arith}
use Rattle.rk_bytes.specs.declared.model.batch.BatchFault.{BatchFault}
use Rattle.rk_bytes.specs.declared.model.batch.BatchFault.TheVariants.{BadRecord, UnsupportedTag}
use Rattle.rk_bytes.specs.declared.model.key.Kind.{Kind}
use Rattle.rk_bytes.specs.declared.model.key.Kind.TheVariants.{Deletion, Value, Merge, SingleDeletion, RangeDeletion}
use Rattle.rk_bytes.specs.Model.Numbers.{prefixed_at, reads_or}
use Rattle.rk_bytes.specs.Model.WriteBatch.{Part, noop, kind_of_tag, names_family, is_unsupported_batch_tag, family_at, value_at, change_at, log_bytes_at, part_of_tag, change_count, batch_part_at}
use Rattle.rk_bytes.proofs.Callers.InTurn.{Shortens}
use Rattle.rk_bytes.proofs.Callers.Leaving.{Leaves, after, leaves_fault, leaves_ok, leaves_either, leaves_then, leaves_or, varint32_leaves, prefixed_leaves}

family_leaves : (most tag : ℕ) (bytes : List ℕ) → length bytes ≤ most → Leaves after most (family_at tag bytes)
family_leaves most tag bytes short = leaves_either (names_family tag) (varint32_leaves most bytes short) (leaves_ok after most (0, bytes) short)

value_leaves : (most : ℕ) (kind : Kind) (bytes : List ℕ) → length bytes ≤ most → Leaves after most (value_at kind bytes)
value_leaves most Deletion bytes short = leaves_ok after most ([], bytes) short
value_leaves most SingleDeletion bytes short = leaves_ok after most ([], bytes) short
value_leaves most Value bytes short = prefixed_leaves most bytes short
value_leaves most Merge bytes short = prefixed_leaves most bytes short
value_leaves most RangeDeletion bytes short = prefixed_leaves most bytes short

change_leaves : (most place sequence tag : ℕ) (kind : Kind) (bytes : List ℕ) → length bytes ≤ most → Leaves after most (change_at place sequence tag kind bytes)
change_leaves most place sequence tag kind bytes short =
    leaves_then after (family_at tag bytes) _ (family_leaves most tag bytes short) λ family short.
    leaves_then after (prefixed_at family.1) _ (prefixed_leaves most family.1 short) λ key short.
    leaves_then after (value_at kind key.1) _ (value_leaves most kind key.1 short) λ value short.
    leaves_ok after most (_, value.1) short

log_bytes_leaves : (most place : ℕ) (bytes : List ℕ) → length bytes ≤ most → Leaves after most (log_bytes_at place bytes)
log_bytes_leaves most place bytes short = leaves_then after (prefixed_at bytes) _ (prefixed_leaves most bytes short) λ slice short. leaves_ok after most (_, slice.1) short

tagged_leaves : (most place sequence tag : ℕ) (bytes : List ℕ) (kind : Option Kind) → length bytes ≤ most
    → Leaves after most (elim kind as (λ kind. Result (Part × List ℕ) BatchFault) [ Some kind ↦ reads_or (BadRecord place) (change_at place sequence tag kind bytes) | None ↦ Err (BadRecord place) ])
tagged_leaves most place sequence tag bytes (Some kind) short = leaves_or (BadRecord place) (change_at place sequence tag kind bytes) (change_leaves most place sequence tag kind bytes short)
tagged_leaves most place sequence tag bytes None short = leaves_fault after most (BadRecord place)

tag_leaves : (place sequence tag : ℕ) (bytes : List ℕ) → Leaves after (length bytes) (part_of_tag place sequence tag bytes)
tag_leaves place sequence tag bytes =
    let most = length bytes in
    leaves_either (tag == 0x3) (leaves_or (BadRecord place) (log_bytes_at place bytes) (log_bytes_leaves most place bytes (omega arith)))
    (leaves_either (tag == 0xD) (leaves_ok after most (noop place, bytes) (omega arith))
    (leaves_either (is_unsupported_batch_tag tag) (leaves_fault after most (UnsupportedTag tag)) (tagged_leaves most place sequence tag bytes (kind_of_tag tag) (omega arith))))

pub part_shorter : (batch_len sequence : ℕ) (before : List Part) (bytes : List ℕ) (one : Part × List ℕ) → batch_part_at batch_len sequence before bytes ≡ Ok one → length one.1 < length bytes
part_shorter batch_len sequence before [] one is = absurd cc
part_shorter batch_len sequence before (b ∷ bytes) one is =
    let leaves = tag_leaves (batch_len - length (b ∷ bytes)) (sequence + change_count before) b bytes in
    let short = leaves.at_most one is in omega arith

-- as reading in turn asks for
pub batch_shortens : (batch_len sequence : ℕ) → Shortens (batch_part_at batch_len sequence)
batch_shortens batch_len sequence = record { shorter = part_shorter batch_len sequence }

pub rest_shorter : (place sequence : ℕ) (bytes : List ℕ) (part : Part) (rest : List ℕ) → 0 < length bytes → part_of_tag place sequence (slice_index bytes 0) (drop 1 bytes) ≡ Ok (part, rest) → length rest < length bytes
rest_shorter place sequence [] part rest some is = absurd (omega arith)
rest_shorter place sequence (b ∷ bytes) part rest some is =
    let leaves = tag_leaves place sequence b bytes in
    let short = leaves.at_most (part, rest) is in omega arith
