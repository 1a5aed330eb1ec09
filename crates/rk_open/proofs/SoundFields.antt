-- Each field of an edit that is read has internal keys of 8 bytes at least, and no last sequence number above the
-- greatest one.
use Rattle.std.specs.Prelude.{◌==◌, nat_le, find, option_map}
use Rattle.std.proofs.Common.{◌≡◌, ℕ, zero, suc, ◌-◌, ◌≤◌, Bool, true, false, cond, List, [], ◌∷◌, length, Option, Some, None, Result, Ok, Err, refl, subst}
use Rattle.std.proofs.lemmas.Bool.{leb-true}
use Rattle.std.specs.List.{AllByRecursion}
use Rattle.rk_bytes.specs.declared.model.number.NumFault.TheVariants.{Cut, TooLarge}
use Rattle.rk_bytes.specs.declared.model.edit.EditFault.{EditFault}
use Rattle.rk_bytes.specs.declared.model.edit.EditFault.TheVariants.{UnknownTag, UnsupportedTag, BadField}
use Rattle.rk_bytes.specs.Model.InternalKey.{top_sequence}
use Rattle.rk_bytes.specs.Model.Numbers.{Read, ◌>>=◌, varint32_at, varint64_at, prefixed_at, reads_or, in_turn}
use Rattle.rk_bytes.specs.Model.VersionEdit.{NewFile, Field, comparator, log_number, next_file, last_sequence, compact_cursor, delete_file, add_file, previous_log, least_log, family, family_add, family_drop, greatest_family, group, wal_delete, ignored, level_at, bound_at, sequence_at, file_with, file_at, with_sequences, sequenced_file_at, after_customs, custom_file_at, in_slice, tracked_at, added_log, reads, value_readers, value_reader, is_unsupported_edit_tag, is_passed_over, field_of_tag, clashes, field_at, edit_fields}

-- an added file's bounds are internal keys
abbrev pub HasWholeKeys : NewFile → Type 0
HasWholeKeys file = (8 ≤ length file.smallest) × (8 ≤ length file.largest)

-- what holds of a field that is read
abbrev pub IsSound : Field → Type 0
IsSound (add_file file) = HasWholeKeys file
IsSound (last_sequence n) = n ≤ top_sequence
IsSound _ = Unit

-- what is read has this property
record Gives {A F : Type 0} (P : A → Type 0) (read : Result A F) : Type 0 where
  holds : (x : A) → read ≡ Ok x → P x

gives_ok : {A F : Type 0} (P : A → Type 0) (x : A) → P x → Gives {F = F} P (Ok x)
gives_ok P x has = record { holds = λ y is. let same : x ≡ y = cc in subst P same has }

gives_fault : {A F : Type 0} (P : A → Type 0) (why : F) → Gives P (Err why)
gives_fault P why = record { holds = λ x is. absurd cc }

gives_either : {A F : Type 0} (P : A → Type 0) (test : Bool) {one two : Result A F} → Gives P one → Gives P two → Gives P (cond test one two)
gives_either P true first second = first
gives_either P false first second = second

gives_then : {A B F : Type 0} (Q : A → Type 0) (P : B → Type 0) (read : Result A F) (next : A → Result B F) → Gives Q read → ((x : A) → Q x → Gives P (next x)) → Gives P (read >>= next)
gives_then Q P (Ok x) next first then = then x (first.holds x refl)
gives_then Q P (Err why) next first then = gives_fault P why

gives_after : {A B F : Type 0} (P : B → Type 0) (read : Result A F) (next : A → Result B F) → ((x : A) → Gives P (next x)) → Gives P (read >>= next)
gives_after P (Ok x) next then = then x
gives_after P (Err why) next then = gives_fault P why

gives_or : {A : Type 0} (P : A × List ℕ → Type 0) (why : EditFault) (read : Read A) → Gives P read → Gives P (reads_or why read)
gives_or P why (Ok one) first = gives_ok P one (first.holds one refl)
gives_or P why (Err fault) first = gives_fault P why

abbrev WholeKey : List ℕ × List ℕ → Type 0
WholeKey one = 8 ≤ length one.0

abbrev WholeFile : NewFile × List ℕ → Type 0
WholeFile one = HasWholeKeys one.0

abbrev SoundField : Field × List ℕ → Type 0
SoundField one = IsSound one.0

bound_whole : (bytes : List ℕ) → Gives WholeKey (bound_at bytes)
bound_whole bytes = gives_after WholeKey (prefixed_at bytes) _ λ key. by key (nat_le 8 (length key.0)) refl
  where
    by : (key : List ℕ × List ℕ) (told : Bool) → nat_le 8 (length key.0) ≡ told → Gives WholeKey (cond told (Ok key) (Err Cut))
    by key true is = gives_ok WholeKey key (leb-true 8 (length key.0) is)
    by key false is = gives_fault WholeKey Cut

abbrev WithinTop : ℕ × List ℕ → Type 0
WithinTop one = one.0 ≤ top_sequence

sequence_within : (bytes : List ℕ) → Gives WithinTop (sequence_at bytes)
sequence_within bytes = gives_after WithinTop (varint64_at bytes) _ λ sequence. by sequence (nat_le sequence.0 top_sequence) refl
  where
    by : (sequence : ℕ × List ℕ) (told : Bool) → nat_le sequence.0 top_sequence ≡ told → Gives WithinTop (cond told (Ok sequence) (Err TooLarge))
    by sequence true is = gives_ok WithinTop sequence (leb-true sequence.0 top_sequence is)
    by sequence false is = gives_fault WithinTop TooLarge

file_whole : (bytes : List ℕ) → Gives WholeFile (file_at bytes)
file_whole bytes =
    gives_after WholeFile (level_at bytes) _ λ level.
    gives_after WholeFile (varint64_at level.1) _ λ number.
    gives_after WholeFile (varint64_at number.1) _ λ size.
    gives_then WholeKey WholeFile (bound_at size.1) _ (bound_whole size.1) λ smallest low.
    gives_then WholeKey WholeFile (bound_at smallest.1) _ (bound_whole smallest.1) λ largest high.
    gives_ok WholeFile (file_with level.0 number.0 size.0 smallest.0 largest.0, largest.1) (low, high)

sequenced_whole : (bytes : List ℕ) → Gives WholeFile (sequenced_file_at bytes)
sequenced_whole bytes =
    gives_then WholeFile WholeFile (file_at bytes) _ (file_whole bytes) λ file whole.
    gives_after WholeFile (varint64_at file.1) _ λ least.
    gives_after WholeFile (varint64_at least.1) _ λ greatest.
    gives_ok WholeFile (with_sequences file.0 least.0 greatest.0, greatest.1) whole

custom_sound : (place : ℕ) (bytes : List ℕ) → Gives SoundField (custom_file_at place bytes)
custom_sound place bytes =
    gives_then WholeFile SoundField (reads_or (BadField 103 place) (sequenced_file_at bytes)) _ (gives_or WholeFile (BadField 103 place) (sequenced_file_at bytes) (sequenced_whole bytes)) λ file whole.
    gives_after SoundField (after_customs (length file.1) place file.1) _ λ rest.
    gives_ok SoundField (add_file file.0, rest) whole

-- The reader gives sound fields.
record ReadsSound (read : List ℕ → Read Field) : Type 0 where
  sound : (bytes : List ℕ) → Gives SoundField (read bytes)

reads_value : {A : Type 0} (P : A × List ℕ → Type 0) (make : A → Field) (read : List ℕ → Read A) → ((bytes : List ℕ) → Gives P (read bytes)) → ((one : A × List ℕ) → P one → IsSound (make one.0)) → ReadsSound (reads make read)
reads_value P make read first so = record { sound = λ bytes. gives_then P SoundField (read bytes) _ (first bytes) λ one has. gives_ok SoundField (make one.0, one.1) (so one has) }

-- a field of a kind of which nothing has to hold
reads_any : {A : Type 0} (make : A → Field) (read : List ℕ → Read A) → ((x : A) → IsSound (make x)) → ReadsSound (reads make read)
reads_any make read any = record { sound = λ bytes. gives_after SoundField (read bytes) _ λ value. gives_ok SoundField (make value.0, value.1) (any value.0) }

-- Each reader of these rows does.
infixr 5 ◌also◌
data AllSound : List (ℕ × (List ℕ → Read Field)) → Type 0 where
  no_row : AllSound []
  ◌also◌ : {tag : ℕ} {read : List ℕ → Read Field} {rows : List (ℕ × (List ℕ → Read Field))} → ReadsSound read → AllSound rows → AllSound ((tag, read) ∷ rows)

all_sound : AllSound value_readers
all_sound =
    reads_any comparator prefixed_at (λ name. tt)
    also reads_any log_number varint64_at (λ n. tt)
    also reads_any next_file varint64_at (λ n. tt)
    also reads_value WithinTop last_sequence sequence_at sequence_within (λ one within. within)
    also record { sound = λ bytes. gives_after SoundField (level_at bytes) _ λ level. gives_after SoundField (bound_at level.1) _ λ key. gives_ok SoundField (compact_cursor level.0 key.0, key.1) tt }
    also record { sound = λ bytes. gives_after SoundField (level_at bytes) _ λ level. gives_after SoundField (varint64_at level.1) _ λ number. gives_ok SoundField (delete_file level.0 number.0, number.1) tt }
    also reads_value WholeFile add_file file_at file_whole (λ one whole. whole)
    also reads_any previous_log varint64_at (λ n. tt)
    also reads_any least_log varint64_at (λ n. tt)
    also reads_value WholeFile add_file sequenced_file_at sequenced_whole (λ one whole. whole)
    also reads_any family varint32_at (λ id. tt)
    also reads_any family_add prefixed_at (λ name. tt)
    also record { sound = λ bytes. gives_ok SoundField (family_drop, bytes) tt }
    also reads_any greatest_family varint32_at (λ id. tt)
    also reads_any group varint32_at (λ left. tt)
    also reads_any added_log (in_slice tracked_at) (λ tracked. tt)
    also reads_any wal_delete (in_slice varint64_at) (λ n. tt)
    also no_row

found_sound : (tag : ℕ) (rows : List (ℕ × (List ℕ → Read Field))) (found : List ℕ → Read Field) → AllSound rows → option_map (λ row. row.1) (find (λ row. row.0 == tag) rows) ≡ Some found → ReadsSound found
found_sound tag rows found no_row e = absurd cc
found_sound tag rows found (◌also◌ {tag = own} {read = read} {rows = later} first more) e = by (own == tag) e (λ e. found_sound tag later found more e)
  where
    by : (told : Bool) → option_map (λ (row : ℕ × (List ℕ → Read Field)). row.1) (cond told (Some (own, read)) (find (λ row. row.0 == tag) later)) ≡ Some found
        → (option_map (λ (row : ℕ × (List ℕ → Read Field)). row.1) (find (λ row. row.0 == tag) later) ≡ Some found → ReadsSound found) → ReadsSound found
    by true e next = let same : read ≡ found = cc in subst (λ read. ReadsSound read) same first
    by false e next = next e

row_sound : (place tag : ℕ) (bytes : List ℕ) (found : Option (List ℕ → Read Field)) → value_reader tag ≡ found
    → Gives SoundField (elim found as (λ found. Result (Field × List ℕ) EditFault) [ Some value_at ↦ reads_or (BadField tag place) (value_at bytes) | None ↦ Err (UnknownTag tag place) ])
row_sound place tag bytes (Some read) is = gives_or SoundField (BadField tag place) (read bytes) ((found_sound tag value_readers read all_sound is).sound bytes)
row_sound place tag bytes None is = gives_fault SoundField (UnknownTag tag place)

tag_sound : (place tag : ℕ) (bytes : List ℕ) → Gives SoundField (field_of_tag place tag bytes)
tag_sound place tag bytes =
    gives_either SoundField (tag == 103) (custom_sound place bytes)
    (gives_either SoundField (is_unsupported_edit_tag tag) (gives_fault SoundField (UnsupportedTag tag place))
    (gives_either SoundField (is_passed_over tag) (gives_or SoundField (BadField tag place) (reads (ignored tag) prefixed_at bytes) ((reads_any (ignored tag) prefixed_at (λ value. tt)).sound bytes))
    (row_sound place tag bytes (value_reader tag) refl)))

field_sound : (len : ℕ) (before : List Field) (bytes : List ℕ) → Gives SoundField (field_at len before bytes)
field_sound len before bytes =
    gives_after SoundField (reads_or (BadField 0 (len - length bytes)) (varint32_at bytes)) (λ tag. cond (clashes tag.0 before) (Err (BadField tag.0 (len - length bytes))) (field_of_tag (len - length bytes) tag.0 tag.1))
    λ tag. gives_either SoundField (clashes tag.0 before) (gives_fault SoundField (BadField tag.0 (len - length bytes))) (tag_sound (len - length bytes) tag.0 tag.1)

-- fields that are read one after another
in_turn_sound : (len n : ℕ) (before : List Field) (bytes : List ℕ) → Gives (AllByRecursion IsSound) (in_turn (field_at len) n before bytes)
unfolding in_turn
in_turn_sound len zero before [] = gives_ok (AllByRecursion IsSound) [] tt
in_turn_sound len zero before (b ∷ bytes) =
    gives_then SoundField (AllByRecursion IsSound) (field_at len before []) (λ one. Ok (one.0 ∷ [])) (field_sound len before []) λ one sound. gives_ok (AllByRecursion IsSound) (one.0 ∷ []) (sound, tt)
in_turn_sound len (suc n) before [] = gives_ok (AllByRecursion IsSound) [] tt
in_turn_sound len (suc n) before (b ∷ bytes) =
    gives_then SoundField (AllByRecursion IsSound) (field_at len before (b ∷ bytes)) (λ one. in_turn (field_at len) n (one.0 ∷ before) one.1 >>= λ more. Ok (one.0 ∷ more)) (field_sound len before (b ∷ bytes)) λ one sound.
    gives_then (AllByRecursion IsSound) (AllByRecursion IsSound) (in_turn (field_at len) n (one.0 ∷ before) one.1) (λ more. Ok (one.0 ∷ more)) (in_turn_sound len n (one.0 ∷ before) one.1) λ more all.
    gives_ok (AllByRecursion IsSound) (one.0 ∷ more) (sound, all)

pub edit_sound : (bytes : List ℕ) (edit : List Field) → edit_fields bytes ≡ Ok edit → AllByRecursion IsSound edit
unfolding edit_fields
edit_sound bytes edit is = (in_turn_sound (length bytes) (length bytes) [] bytes).holds edit is
