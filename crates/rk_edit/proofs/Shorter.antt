-- Each field of an edit takes a byte at least.
use Rattle.std.specs.Prelude.{◌==◌, ◌&&◌, ◌/◌, ◌%◌, not, nat_le, slice_index, find, option_map}
use Rattle.std.proofs.Common.{◌≡◌, ℕ, zero, suc, ◌-◌, ◌<◌, ◌≤◌, Bool, true, false, cond, List, [], ◌∷◌, length, Option, Some, None, Result, Ok, Err, refl, ap, ◌∙◌, subst, arith}
use Rattle.rk_bytes.specs.declared.model.number.NumFault.TheVariants.{Cut, TooLarge}
use Rattle.rk_bytes.specs.declared.model.edit.EditFault.{EditFault}
use Rattle.rk_bytes.specs.declared.model.edit.EditFault.TheVariants.{UnknownTag, UnsupportedTag, BadField}
use Rattle.rk_bytes.specs.Model.Numbers.{Read, ◌>>=◌, varint32_at, varint64_at, prefixed_at, reads_or}
use Rattle.rk_bytes.specs.Model.InternalKey.{top_sequence}
use Rattle.rk_bytes.specs.Model.VersionEdit.{Field, comparator, log_number, next_file, last_sequence, compact_cursor, delete_file, add_file, previous_log, least_log, family, family_add, family_drop, greatest_family, group, wal_delete, ignored, level_at, bound_at, sequence_at, file_with, file_at, with_sequences, sequenced_file_at, after_path, after_custom, after_customs, custom_file_at, in_slice, tracked_at, added_log, reads, value_readers, value_reader, is_unsupported_edit_tag, is_passed_over, field_of_tag, clashes, field_at}
use Rattle.rk_bytes.proofs.Callers.InTurn.{Shortens}
use Rattle.rk_bytes.proofs.Callers.Leaving.{Leaves, after, leaves_fault, leaves_ok, leaves_either, leaves_then, leaves_or, varint_shorter, varint32_leaves, varint64_leaves, prefixed_leaves}

level_leaves : (most : ℕ) (bytes : List ℕ) → length bytes ≤ most → Leaves after most (level_at bytes)
level_leaves most bytes short = leaves_then after (varint32_at bytes) _ (varint32_leaves most bytes short) (λ level short. leaves_either (nat_le level.0 255) (leaves_ok after most level short) (leaves_fault after most TooLarge))

bound_leaves : (most : ℕ) (bytes : List ℕ) → length bytes ≤ most → Leaves after most (bound_at bytes)
bound_leaves most bytes short = leaves_then after (prefixed_at bytes) _ (prefixed_leaves most bytes short) (λ key short. leaves_either (nat_le 8 (length key.0)) (leaves_ok after most key short) (leaves_fault after most Cut))

sequence_leaves : (most : ℕ) (bytes : List ℕ) → length bytes ≤ most → Leaves after most (sequence_at bytes)
sequence_leaves most bytes short = leaves_then after (varint64_at bytes) _ (varint64_leaves most bytes short) (λ sequence short. leaves_either (nat_le sequence.0 top_sequence) (leaves_ok after most sequence short) (leaves_fault after most TooLarge))

file_leaves : (most : ℕ) (bytes : List ℕ) → length bytes ≤ most → Leaves after most (file_at bytes)
file_leaves most bytes short =
    leaves_then after (level_at bytes) _ (level_leaves most bytes short) λ level short.
    leaves_then after (varint64_at level.1) _ (varint64_leaves most level.1 short) λ number short.
    leaves_then after (varint64_at number.1) _ (varint64_leaves most number.1 short) λ size short.
    leaves_then after (bound_at size.1) _ (bound_leaves most size.1 short) λ smallest short.
    leaves_then after (bound_at smallest.1) _ (bound_leaves most smallest.1 short) λ largest short.
    leaves_ok after most (file_with level.0 number.0 size.0 smallest.0 largest.0, largest.1) short

sequenced_leaves : (most : ℕ) (bytes : List ℕ) → length bytes ≤ most → Leaves after most (sequenced_file_at bytes)
sequenced_leaves most bytes short =
    leaves_then after (file_at bytes) _ (file_leaves most bytes short) λ file short.
    leaves_then after (varint64_at file.1) _ (varint64_leaves most file.1 short) λ least short.
    leaves_then after (varint64_at least.1) _ (varint64_leaves most least.1 short) λ greatest short.
    leaves_ok after most (with_sequences file.0 least.0 greatest.0, greatest.1) short

abbrev whole : List ℕ → List ℕ
whole rest = rest

path_leaves : (most place : ℕ) (path bytes : List ℕ) → length bytes ≤ most → Leaves whole most (after_path place path bytes)
path_leaves most place path bytes short = leaves_either (not (length path == 1)) (leaves_fault whole most (BadField 103 place)) (leaves_either (slice_index path 0 == 0) (leaves_ok whole most bytes short) (leaves_fault whole most (UnsupportedTag 65 place)))

custom_leaves : (most place tag : ℕ) (bytes : List ℕ) → length bytes ≤ most → Leaves whole most (after_custom place tag bytes)
custom_leaves most place tag bytes short =
    leaves_either (not (tag == 65) && tag / 64 % 2 == 1) (leaves_fault whole most (UnknownTag tag place))
    (leaves_then after (reads_or (BadField 103 place) (prefixed_at bytes)) _ (leaves_or (BadField 103 place) (prefixed_at bytes) (prefixed_leaves most bytes short)) λ value short.
    leaves_either (tag == 65) (path_leaves most place value.0 value.1 short) (leaves_ok whole most value.1 short))

customs_leaves : (n most place : ℕ) (bytes : List ℕ) → length bytes ≤ most → Leaves whole most (after_customs n place bytes)
unfolding after_customs
customs_leaves zero most place bytes short = leaves_fault whole most (BadField 103 place)
customs_leaves (suc n) most place bytes short =
    leaves_then after (reads_or (BadField 103 place) (varint32_at bytes)) _ (leaves_or (BadField 103 place) (varint32_at bytes) (varint32_leaves most bytes short)) λ tag short.
    leaves_either (tag.0 == 1) (leaves_ok whole most tag.1 short)
    (leaves_then whole (after_custom place tag.0 tag.1) _ (custom_leaves most place tag.0 tag.1 short) λ rest short. customs_leaves n most place rest short)

custom_file_leaves : (most place : ℕ) (bytes : List ℕ) → length bytes ≤ most → Leaves after most (custom_file_at place bytes)
custom_file_leaves most place bytes short =
    leaves_then after (reads_or (BadField 103 place) (sequenced_file_at bytes)) _ (leaves_or (BadField 103 place) (sequenced_file_at bytes) (sequenced_leaves most bytes short)) λ file short.
    leaves_then whole (after_customs (length file.1) place file.1) _ (customs_leaves (length file.1) most place file.1 short) λ rest short.
    leaves_ok after most (add_file file.0, rest) short

-- The reader leaves no more than it is given.
record LeavesSome {A : Type 0} (read : List ℕ → Read A) : Type 0 where
  leaves : (most : ℕ) (bytes : List ℕ) → length bytes ≤ most → Leaves after most (read bytes)

reads_leaves : {A : Type 0} (make : A → Field) (read : List ℕ → Read A) → LeavesSome read → LeavesSome (reads make read)
reads_leaves make read l = record { leaves = λ most bytes short. leaves_then after (read bytes) _ (l.leaves most bytes short) λ value short. leaves_ok after most (make value.0, value.1) short }

-- whatever stands in a slice
slice_leaves : {A : Type 0} (read : List ℕ → Read A) → LeavesSome (in_slice read)
slice_leaves {A = A} read = record {
  leaves = λ most bytes short.
      leaves_then after (prefixed_at bytes) _ (prefixed_leaves most bytes short) λ slice short.
      leaves_then (λ value. slice.1) (read slice.0) _ (record { at_most = λ value is. short }) λ value short. leaves_ok after most (value.0, slice.1) short;
}

-- Each reader of these rows does.
infixr 5 ◌also◌
data AllLeave : List (ℕ × (List ℕ → Read Field)) → Type 0 where
  no_row : AllLeave []
  ◌also◌ : {tag : ℕ} {read : List ℕ → Read Field} {rows : List (ℕ × (List ℕ → Read Field))} → LeavesSome read → AllLeave rows → AllLeave ((tag, read) ∷ rows)

all_leave : AllLeave value_readers
all_leave =
    let number : LeavesSome varint64_at = record { leaves = varint64_leaves } in
    let id : LeavesSome varint32_at = record { leaves = varint32_leaves } in
    let slice : LeavesSome prefixed_at = record { leaves = prefixed_leaves } in
    reads_leaves comparator prefixed_at slice
    also reads_leaves log_number varint64_at number
    also reads_leaves next_file varint64_at number
    also reads_leaves last_sequence sequence_at (record { leaves = sequence_leaves })
    also record { leaves = λ most bytes short. leaves_then after (level_at bytes) _ (level_leaves most bytes short) λ level short. leaves_then after (bound_at level.1) _ (bound_leaves most level.1 short) λ key short. leaves_ok after most (compact_cursor level.0 key.0, key.1) short }
    also record { leaves = λ most bytes short. leaves_then after (level_at bytes) _ (level_leaves most bytes short) λ level short. leaves_then after (varint64_at level.1) _ (varint64_leaves most level.1 short) λ number short. leaves_ok after most (delete_file level.0 number.0, number.1) short }
    also reads_leaves add_file file_at (record { leaves = file_leaves })
    also reads_leaves previous_log varint64_at number
    also reads_leaves least_log varint64_at number
    also reads_leaves add_file sequenced_file_at (record { leaves = sequenced_leaves })
    also reads_leaves family varint32_at id
    also reads_leaves family_add prefixed_at slice
    also record { leaves = λ most bytes short. leaves_ok after most (family_drop, bytes) short }
    also reads_leaves greatest_family varint32_at id
    also reads_leaves group varint32_at id
    also reads_leaves added_log (in_slice tracked_at) (slice_leaves tracked_at)
    also reads_leaves wal_delete (in_slice varint64_at) (slice_leaves varint64_at)
    also no_row

found_leaves : (tag : ℕ) (rows : List (ℕ × (List ℕ → Read Field))) (found : List ℕ → Read Field) → AllLeave rows → option_map (λ row. row.1) (find (λ row. row.0 == tag) rows) ≡ Some found → LeavesSome found
found_leaves tag rows found no_row e = absurd cc
found_leaves tag rows found (◌also◌ {tag = own} {read = read} {rows = later} first more) e = by (own == tag) e (λ e. found_leaves tag later found more e)
  where
    by : (told : Bool) → option_map (λ (row : ℕ × (List ℕ → Read Field)). row.1) (cond told (Some (own, read)) (find (λ row. row.0 == tag) later)) ≡ Some found
        → (option_map (λ (row : ℕ × (List ℕ → Read Field)). row.1) (find (λ row. row.0 == tag) later) ≡ Some found → LeavesSome found) → LeavesSome found
    by true e next = let same : read ≡ found = cc in subst (λ read. LeavesSome read) same first
    by false e next = next e

row_leaves : (most place tag : ℕ) (bytes : List ℕ) (found : Option (List ℕ → Read Field)) → value_reader tag ≡ found → length bytes ≤ most
    → Leaves after most (elim found as (λ found. Result (Field × List ℕ) EditFault) [ Some value_at ↦ reads_or (BadField tag place) (value_at bytes) | None ↦ Err (UnknownTag tag place) ])
row_leaves most place tag bytes (Some read) is short = leaves_or (BadField tag place) (read bytes) ((found_leaves tag value_readers read all_leave is).leaves most bytes short)
row_leaves most place tag bytes None is short = leaves_fault after most (UnknownTag tag place)

tag_leaves : (most place tag : ℕ) (bytes : List ℕ) → length bytes ≤ most → Leaves after most (field_of_tag place tag bytes)
tag_leaves most place tag bytes short =
    leaves_either (tag == 103) (custom_file_leaves most place bytes short)
    (leaves_either (is_unsupported_edit_tag tag) (leaves_fault after most (UnsupportedTag tag place))
    (leaves_either (is_passed_over tag) (leaves_or (BadField tag place) (reads (ignored tag) prefixed_at bytes) ((reads_leaves (ignored tag) prefixed_at (record { leaves = prefixed_leaves })).leaves most bytes short))
    (row_leaves most place tag bytes (value_reader tag) refl short)))

pub field_shorter : (len : ℕ) (before : List Field) (bytes : List ℕ) (one : Field × List ℕ) → field_at len before bytes ≡ Ok one → length one.1 < length bytes
field_shorter len before bytes one is = by (varint32_at bytes) refl is
  where
    by : (tag : Read ℕ) → varint32_at bytes ≡ tag → reads_or (BadField 0 (len - length bytes)) tag >>= (λ tag. cond (clashes tag.0 before) (Err (BadField tag.0 (len - length bytes))) (field_of_tag (len - length bytes) tag.0 tag.1)) ≡ Ok one → length one.1 < length bytes
    by (Ok tag) read is =
        let shorter = varint_shorter 5 32 bytes tag read in
        let leaves : Leaves after (length tag.1) (cond (clashes tag.0 before) (Err (BadField tag.0 (len - length bytes))) (field_of_tag (len - length bytes) tag.0 tag.1)) =
        leaves_either (clashes tag.0 before) (leaves_fault after (length tag.1) (BadField tag.0 (len - length bytes))) (tag_leaves (length tag.1) (len - length bytes) tag.0 tag.1 (omega arith)) in
        let short = leaves.at_most one is in omega arith
    by (Err why) read is = absurd cc

-- as reading in turn asks for
pub edit_shortens : (len : ℕ) → Shortens (field_at len)
edit_shortens len = record { shorter = field_shorter len }

pub custom_shorter : (place tag : ℕ) (bytes rest : List ℕ) → after_custom place tag bytes ≡ Ok rest → length rest ≤ length bytes
custom_shorter place tag bytes rest is = (custom_leaves (length bytes) place tag bytes (omega arith)).at_most rest is

pub tag_shorter : (why : EditFault) (bytes : List ℕ) (tag : ℕ × List ℕ) → reads_or why (varint32_at bytes) ≡ Ok tag → length tag.1 < length bytes
tag_shorter why bytes tag is = by (varint32_at bytes) refl is
  where
    by : (read : Read ℕ) → varint32_at bytes ≡ read → reads_or why read ≡ Ok tag → length tag.1 < length bytes
    by (Ok one) told is = let same : one ≡ tag = cc in varint_shorter 5 32 bytes tag (told ∙ ap Ok same)
    by (Err fault) told is = absurd cc
