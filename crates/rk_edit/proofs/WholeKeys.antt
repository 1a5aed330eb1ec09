-- The internal keys of a field that is read have 8 bytes at least.
use Rattle.std.specs.Prelude.{◌==◌, nat_le, find, option_map}
use Rattle.std.proofs.Common.{◌≡◌, ℕ, ◌-◌, ◌≤◌, Bool, true, false, cond, List, [], ◌∷◌, length, Option, Some, None, Result, Ok, Err, refl, subst}
use Rattle.std.proofs.lemmas.Bool.{leb-true}
use Rattle.rk_bytes.specs.declared.model.number.NumFault.TheVariants.{Cut}
use Rattle.rk_bytes.specs.declared.model.edit.EditFault.{EditFault}
use Rattle.rk_bytes.specs.declared.model.edit.EditFault.TheVariants.{UnknownTag, UnsupportedTag, BadField}
use Rattle.rk_bytes.specs.Model.Numbers.{Read, ◌>>=◌, varint32_at, varint64_at, prefixed_at, reads_or}
use Rattle.rk_bytes.specs.Model.VersionEdit.{NewFile, Field, comparator, log_number, next_file, last_sequence, compact_cursor, delete_file, add_file, previous_log, least_log, family, family_add, family_drop, greatest_family, group, wal_delete, ignored, level_at, bound_at, sequence_at, file_with, file_at, with_sequences, sequenced_file_at, after_customs, custom_file_at, in_slice, tracked_at, added_log, reads, value_readers, value_reader, is_unsupported_edit_tag, is_passed_over, field_of_tag, clashes, field_at}
use Rattle.rk_edit.specs.Fields.{HasWholeKeys}

-- what is read has this property
record Gives {A F : Type 0} (P : A → Type 0) (read : Result A F) : Type 0 where
  holds : (x : A) → read ≡ Ok x → P x

gives_ok : {A F : Type 0} (P : A → Type 0) (x : A) → P x → Gives {F = F} P (Ok x)
gives_ok P x has = record { holds = λ y is. let same : x ≡ y = cc in subst P same has }

gives_fault : {A F : Type 0} (P : A → Type 0) (why : F) → Gives P (Err why)
gives_fault P why = record { holds = λ x is. absurd cc }

gives_either : {A F : Type 0} (P : A → Type 0) (test : Bool) {one two : Result A F} → Gives P one → Gives P two → Gives P (cond test one two)
gives_either P true first second = first
gives_either P false first second = second

gives_then : {A B F : Type 0} (Q : A → Type 0) (P : B → Type 0) (read : Result A F) (next : A → Result B F) → Gives Q read → ((x : A) → Q x → Gives P (next x)) → Gives P (read >>= next)
gives_then Q P (Ok x) next first then = then x (first.holds x refl)
gives_then Q P (Err why) next first then = gives_fault P why

gives_after : {A B F : Type 0} (P : B → Type 0) (read : Result A F) (next : A → Result B F) → ((x : A) → Gives P (next x)) → Gives P (read >>= next)
gives_after P (Ok x) next then = then x
gives_after P (Err why) next then = gives_fault P why

gives_or : {A : Type 0} (P : A × List ℕ → Type 0) (why : EditFault) (read : Read A) → Gives P read → Gives P (reads_or why read)
gives_or P why (Ok one) first = gives_ok P one (first.holds one refl)
gives_or P why (Err fault) first = gives_fault P why

abbrev WholeKey : List ℕ × List ℕ → Type 0
WholeKey one = 8 ≤ length one.0

abbrev WholeFile : NewFile × List ℕ → Type 0
WholeFile one = (8 ≤ length one.0.smallest) × (8 ≤ length one.0.largest)

abbrev WholeField : Field × List ℕ → Type 0
WholeField one = HasWholeKeys one.0

bound_whole : (bytes : List ℕ) → Gives WholeKey (bound_at bytes)
bound_whole bytes = gives_after WholeKey (prefixed_at bytes) _ λ key. by key (nat_le 8 (length key.0)) refl
  where
    by : (key : List ℕ × List ℕ) (told : Bool) → nat_le 8 (length key.0) ≡ told → Gives WholeKey (cond told (Ok key) (Err Cut))
    by key true is = gives_ok WholeKey key (leb-true 8 (length key.0) is)
    by key false is = gives_fault WholeKey Cut

file_whole : (bytes : List ℕ) → Gives WholeFile (file_at bytes)
file_whole bytes =
    gives_after WholeFile (level_at bytes) _ λ level.
    gives_after WholeFile (varint64_at level.1) _ λ number.
    gives_after WholeFile (varint64_at number.1) _ λ size.
    gives_then WholeKey WholeFile (bound_at size.1) _ (bound_whole size.1) λ smallest low.
    gives_then WholeKey WholeFile (bound_at smallest.1) _ (bound_whole smallest.1) λ largest high.
    gives_ok WholeFile (file_with level.0 number.0 size.0 smallest.0 largest.0, largest.1) (low, high)

sequenced_whole : (bytes : List ℕ) → Gives WholeFile (sequenced_file_at bytes)
sequenced_whole bytes =
    gives_then WholeFile WholeFile (file_at bytes) _ (file_whole bytes) λ file whole.
    gives_after WholeFile (varint64_at file.1) _ λ least.
    gives_after WholeFile (varint64_at least.1) _ λ greatest.
    gives_ok WholeFile (with_sequences file.0 least.0 greatest.0, greatest.1) whole

custom_whole : (place : ℕ) (bytes : List ℕ) → Gives WholeField (custom_file_at place bytes)
custom_whole place bytes =
    gives_then WholeFile WholeField (reads_or (BadField 103 place) (sequenced_file_at bytes)) _ (gives_or WholeFile (BadField 103 place) (sequenced_file_at bytes) (sequenced_whole bytes)) λ file whole.
    gives_after WholeField (after_customs (length file.1) place file.1) _ λ rest.
    gives_ok WholeField (add_file file.0, rest) whole

-- The reader gives whole keys.
record ReadsWhole (read : List ℕ → Read Field) : Type 0 where
  whole : (bytes : List ℕ) → Gives WholeField (read bytes)

reads_file : (read : List ℕ → Read NewFile) → ((bytes : List ℕ) → Gives WholeFile (read bytes)) → ReadsWhole (reads add_file read)
reads_file read first = record { whole = λ bytes. gives_then WholeFile WholeField (read bytes) _ (first bytes) λ file whole. gives_ok WholeField (add_file file.0, file.1) whole }

-- a field of a kind that has no keys
reads_keyless : {A : Type 0} (make : A → Field) (read : List ℕ → Read A) → ((x : A) → HasWholeKeys (make x)) → ReadsWhole (reads make read)
reads_keyless make read none = record { whole = λ bytes. gives_after WholeField (read bytes) _ λ value. gives_ok WholeField (make value.0, value.1) (none value.0) }

-- Each reader of these rows does.
infixr 5 ◌also◌
data AllWhole : List (ℕ × (List ℕ → Read Field)) → Type 0 where
  no_row : AllWhole []
  ◌also◌ : {tag : ℕ} {read : List ℕ → Read Field} {rows : List (ℕ × (List ℕ → Read Field))} → ReadsWhole read → AllWhole rows → AllWhole ((tag, read) ∷ rows)

all_whole : AllWhole value_readers
all_whole =
    reads_keyless comparator prefixed_at (λ name. tt)
    also reads_keyless log_number varint64_at (λ n. tt)
    also reads_keyless next_file varint64_at (λ n. tt)
    also reads_keyless last_sequence sequence_at (λ n. tt)
    also record { whole = λ bytes. gives_after WholeField (level_at bytes) _ λ level. gives_then WholeKey WholeField (bound_at level.1) _ (bound_whole level.1) λ key whole. gives_ok WholeField (compact_cursor level.0 key.0, key.1) whole }
    also record { whole = λ bytes. gives_after WholeField (level_at bytes) _ λ level. gives_after WholeField (varint64_at level.1) _ λ number. gives_ok WholeField (delete_file level.0 number.0, number.1) tt }
    also reads_file file_at file_whole
    also reads_keyless previous_log varint64_at (λ n. tt)
    also reads_keyless least_log varint64_at (λ n. tt)
    also reads_file sequenced_file_at sequenced_whole
    also reads_keyless family varint32_at (λ id. tt)
    also reads_keyless family_add prefixed_at (λ name. tt)
    also record { whole = λ bytes. gives_ok WholeField (family_drop, bytes) tt }
    also reads_keyless greatest_family varint32_at (λ id. tt)
    also reads_keyless group varint32_at (λ left. tt)
    also reads_keyless added_log (in_slice tracked_at) (λ tracked. tt)
    also reads_keyless wal_delete (in_slice varint64_at) (λ n. tt)
    also no_row

found_whole : (tag : ℕ) (rows : List (ℕ × (List ℕ → Read Field))) (found : List ℕ → Read Field) → AllWhole rows → option_map (λ row. row.1) (find (λ row. row.0 == tag) rows) ≡ Some found → ReadsWhole found
found_whole tag rows found no_row e = absurd cc
found_whole tag rows found (◌also◌ {tag = own} {read = read} {rows = later} first more) e = by (own == tag) e (λ e. found_whole tag later found more e)
  where
    by : (told : Bool) → option_map (λ (row : ℕ × (List ℕ → Read Field)). row.1) (cond told (Some (own, read)) (find (λ row. row.0 == tag) later)) ≡ Some found
        → (option_map (λ (row : ℕ × (List ℕ → Read Field)). row.1) (find (λ row. row.0 == tag) later) ≡ Some found → ReadsWhole found) → ReadsWhole found
    by true e next = let same : read ≡ found = cc in subst (λ read. ReadsWhole read) same first
    by false e next = next e

row_whole : (place tag : ℕ) (bytes : List ℕ) (found : Option (List ℕ → Read Field)) → value_reader tag ≡ found
    → Gives WholeField (elim found as (λ found. Result (Field × List ℕ) EditFault) [ Some value_at ↦ reads_or (BadField tag place) (value_at bytes) | None ↦ Err (UnknownTag tag place) ])
row_whole place tag bytes (Some read) is = gives_or WholeField (BadField tag place) (read bytes) ((found_whole tag value_readers read all_whole is).whole bytes)
row_whole place tag bytes None is = gives_fault WholeField (UnknownTag tag place)

tag_whole : (place tag : ℕ) (bytes : List ℕ) → Gives WholeField (field_of_tag place tag bytes)
tag_whole place tag bytes =
    gives_either WholeField (tag == 103) (custom_whole place bytes)
    (gives_either WholeField (is_unsupported_edit_tag tag) (gives_fault WholeField (UnsupportedTag tag place))
    (gives_either WholeField (is_passed_over tag) (gives_or WholeField (BadField tag place) (reads (ignored tag) prefixed_at bytes) ((reads_keyless (ignored tag) prefixed_at (λ value. tt)).whole bytes))
    (row_whole place tag bytes (value_reader tag) refl)))

pub whole_keys : (len : ℕ) (before : List Field) (bytes : List ℕ) (field : Field) (rest : List ℕ) → field_at len before bytes ≡ Ok (field, rest) → HasWholeKeys field
whole_keys len before bytes field rest is =
    (gives_after WholeField (reads_or (BadField 0 (len - length bytes)) (varint32_at bytes)) (λ tag. cond (clashes tag.0 before) (Err (BadField tag.0 (len - length bytes))) (field_of_tag (len - length bytes) tag.0 tag.1))
    λ tag. gives_either WholeField (clashes tag.0 before) (gives_fault WholeField (BadField tag.0 (len - length bytes))) (tag_whole (len - length bytes) tag.0 tag.1)).holds (field, rest) is
