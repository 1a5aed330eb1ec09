-- The fields of an edit are read just where they are spelled.
use Rattle.std.proofs.Common.{◌≡◌, ℕ, zero, suc, ◌+◌, ◌-◌, ◌≤◌, Bool, true, false, cond, List, [], ◌∷◌, ◌++◌, length, Option, Some, None, Result, Ok, Err, refl, sym, ◌∙◌, ap, subst, arith, inl, inr}
use Rattle.std.specs.Prelude.{◌==◌, find, option_map}
use Rattle.std.proofs.lemmas.Bool.{eqb-true, ne_eqb, cond-true, cond-false, false≢true}
use Rattle.std.proofs.lemmas.List.{length-append}
use Rattle.rk_bytes.specs.declared.model.edit.EditFault.{EditFault}
use Rattle.rk_bytes.specs.declared.model.edit.EditFault.TheVariants.{UnknownTag, UnsupportedTag, BadField}
use Rattle.rk_bytes.specs.declared.model.manifest.Tracked.{Tracked}
use Rattle.rk_bytes.specs.Model.Numbers.{AreBytes, Read, ◌>>=◌, IsVarint32, IsVarint64, IsPrefixed, varint32_at, varint64_at, prefixed_at, reads_or, in_turn}
use Rattle.rk_bytes.proofs.Callers.Readings.{both_steps, first_step, passed, varint_len}
use Rattle.rk_laws.proofs.Readers.{Front, Exact, front_as, exact_varint32, exact_varint64, exact_prefixed, reads_or_ok, exact_or, exact_as, Both, exact_then, Made, exact_made, exact_unless}
use Rattle.rk_bytes.specs.Model.VersionEdit.{NewFile, Field, comparator, log_number, next_file, last_sequence, compact_cursor, delete_file, add_file, previous_log, least_log, family, family_add, family_drop, greatest_family, group, wal_add, wal_delete, ignored, in_slice, tracked_at, added_log, sequence_at, cursor_at, deleted_at, file_at, sequenced_file_at, custom_file_at, reads, value_readers, value_reader, is_unsupported_edit_tag, is_passed_over, field_of_tag, clashes, field_at, edit_fields, SpellsLevel, SpellsBound, SpellsSequencedFile, SpellsAddedFile, SpellsInSlice, SpellsTracked, SpellsFieldValue, SpellsField, SpellsFields, IsEdit}
use Rattle.rk_laws.proofs.EditFiles.{SpellsSequence, exact_sequence, exact_cursor, exact_deleted, SpellsPlainFile, exact_file, exact_sequenced, SpellsEnd, exact_custom_file}
use Rattle.rk_laws.proofs.EditTracked.{exact_added_log, exact_deleted_log}

custom_file_spelled : (part : List ℕ) (field : Field) → Both SpellsSequencedFile SpellsEnd part field → SpellsFieldValue 103 part field
custom_file_spelled part field b = subst (λ field. SpellsFieldValue 103 part field) b.second.0 (inr (inr (refl, b.front, b.back, b.whole, b.first, b.second.1)))

-- A reader of a tag's values reads what is spelled.
record ReadsTag (tag : ℕ) (read : List ℕ → Read Field) : Type 0 where
  reads_value : (bytes : List ℕ) (r : Field × List ℕ) → AreBytes bytes → read bytes ≡ Ok r → Front (SpellsFieldValue tag) bytes r

reads_tag : {A : Type 0} (tag : ℕ) (make : A → Field) (read : List ℕ → Read A) (S : List ℕ → A → Type 0) → Exact read S → ((part : List ℕ) (x : A) → S part x → SpellsFieldValue tag part (make x)) → ReadsTag tag (reads make read)
reads_tag tag make read S x to = record {
  reads_value = λ bytes r are e. front_as (Made make S) (SpellsFieldValue tag) bytes r (λ part field m. subst (λ field. SpellsFieldValue tag part field) m.is (to part m.of m.spells)) ((exact_made make read S x).reads bytes r are e);
}

reads_cursor : ReadsTag 5 cursor_at
reads_cursor = record {
  reads_value = λ bytes r are e. front_as _ (SpellsFieldValue 5) bytes r (λ part field b. subst (λ field. SpellsFieldValue 5 part field) b.second.is (refl, b.front, b.back, b.whole, b.first, b.second.spells)) (exact_cursor.reads bytes r are e);
}

reads_deleted : ReadsTag 6 deleted_at
reads_deleted = record {
  reads_value = λ bytes r are e. front_as _ (SpellsFieldValue 6) bytes r (λ part field b. subst (λ field. SpellsFieldValue 6 part field) b.second.is (refl, b.front, b.back, b.whole, b.first, b.second.spells)) (exact_deleted.reads bytes r are e);
}

reads_drop : ReadsTag 202 (λ bytes. Ok (family_drop, bytes))
reads_drop = record {
  reads_value = λ bytes r are e.
      let same : (family_drop, bytes) ≡ r = cc in
      subst (λ (r : Field × List ℕ). Front (SpellsFieldValue 202) bytes r) same (record { part = []; whole = refl; spells = (refl, refl); after = are });
}

-- Each reader of these rows does.
infixr 5 ◌also◌
data AllRead : List (ℕ × (List ℕ → Read Field)) → Type 0 where
  no_row : AllRead []
  ◌also◌ : {tag : ℕ} {read : List ℕ → Read Field} {rows : List (ℕ × (List ℕ → Read Field))} → ReadsTag tag read → AllRead rows → AllRead ((tag, read) ∷ rows)

all_read : AllRead value_readers
all_read =
    reads_tag 1 comparator prefixed_at IsPrefixed exact_prefixed (λ part x s. (refl, s))
    also reads_tag 2 log_number varint64_at IsVarint64 exact_varint64 (λ part x s. (refl, s))
    also reads_tag 3 next_file varint64_at IsVarint64 exact_varint64 (λ part x s. (refl, s))
    also reads_tag 4 last_sequence sequence_at SpellsSequence exact_sequence (λ part x s. (refl, s.0, s.1))
    also reads_cursor
    also reads_deleted
    also reads_tag 7 add_file file_at SpellsPlainFile exact_file (λ part x s. inl (refl, s.0, s.1))
    also reads_tag 9 previous_log varint64_at IsVarint64 exact_varint64 (λ part x s. (refl, s))
    also reads_tag 10 least_log varint64_at IsVarint64 exact_varint64 (λ part x s. (refl, s))
    also reads_tag 100 add_file sequenced_file_at SpellsSequencedFile exact_sequenced (λ part x s. inr (inl (refl, s)))
    also reads_tag 200 family varint32_at IsVarint32 exact_varint32 (λ part x s. (refl, s))
    also reads_tag 201 family_add prefixed_at IsPrefixed exact_prefixed (λ part x s. (refl, s))
    also reads_drop
    also reads_tag 203 greatest_family varint32_at IsVarint32 exact_varint32 (λ part x s. (refl, s))
    also reads_tag 300 group varint32_at IsVarint32 exact_varint32 (λ part x s. (refl, s))
    also reads_tag 8199 added_log (in_slice tracked_at) (SpellsInSlice SpellsTracked) exact_added_log (λ part x s. (refl, s))
    also reads_tag 8200 wal_delete (in_slice varint64_at) (SpellsInSlice IsVarint64) exact_deleted_log (λ part x s. (refl, s))
    also no_row

-- a row that is found
found_row : (tag : ℕ) (rows : List (ℕ × (List ℕ → Read Field))) (found : List ℕ → Read Field) → AllRead rows → option_map (λ row. row.1) (find (λ row. row.0 == tag) rows) ≡ Some found → ReadsTag tag found
found_row tag rows found no_row e = absurd cc
found_row tag rows found (◌also◌ {tag = own} {read = read} {rows = later} first more) e = by (own == tag) refl e (λ e. found_row tag later found more e)
  where
    by : (told : Bool) → (own == tag) ≡ told → option_map (λ (row : ℕ × (List ℕ → Read Field)). row.1) (cond told (Some (own, read)) (find (λ row. row.0 == tag) later)) ≡ Some found
        → (option_map (λ (row : ℕ × (List ℕ → Read Field)). row.1) (find (λ row. row.0 == tag) later) ≡ Some found → ReadsTag tag found) → ReadsTag tag found
    by true told e next =
        let same : read ≡ found = cc in
        subst (λ read. ReadsTag tag read) same (subst (λ tag. ReadsTag tag read) (eqb-true own tag told) first)
    by false told e next = next e

abbrev by_reader : ℕ → ℕ → List ℕ → Option (List ℕ → Read Field) → Result (Field × List ℕ) EditFault
by_reader place tag bytes found = elim found [
  | Some value_at ↦ reads_or (BadField tag place) (value_at bytes)
  | None ↦ Err (UnknownTag tag place)
]

known_tag_reads : (place tag : ℕ) (bytes : List ℕ) (r : Field × List ℕ) (found : Option (List ℕ → Read Field)) → value_reader tag ≡ found → AreBytes bytes → by_reader place tag bytes found ≡ Ok r → Front (SpellsFieldValue tag) bytes r
known_tag_reads place tag bytes r (Some read) found are e = (found_row tag value_readers read all_read found).reads_value bytes r are (reads_or_ok _ (read bytes) r e)
known_tag_reads place tag bytes r None found are e = absurd cc

-- what is read after a tag, by two tests of the tag
abbrev if_passed_over : ℕ → ℕ → List ℕ → Bool → Result (Field × List ℕ) EditFault
if_passed_over place tag bytes told = cond told (reads_or (BadField tag place) (reads (ignored tag) prefixed_at bytes)) (by_reader place tag bytes (value_reader tag))

abbrev but_103 : ℕ → ℕ → List ℕ → Bool → Result (Field × List ℕ) EditFault
but_103 place tag bytes told = cond told (custom_file_at place bytes) (cond (is_unsupported_edit_tag tag) (Err (UnsupportedTag tag place)) (if_passed_over place tag bytes (is_passed_over tag)))

passed_over_reads : (place tag : ℕ) (bytes : List ℕ) (r : Field × List ℕ) (told : Bool) → is_passed_over tag ≡ told → is_unsupported_edit_tag tag ≡ false → AreBytes bytes → if_passed_over place tag bytes told ≡ Ok r → Front (SpellsFieldValue tag) bytes r
passed_over_reads place tag bytes r true told supported are e =
    front_as (Made (ignored tag) IsPrefixed) (SpellsFieldValue tag) bytes r
    (λ part field m. subst (λ field. SpellsFieldValue tag part field) m.is (refl, supported, told, m.spells))
    ((exact_made (ignored tag) prefixed_at IsPrefixed exact_prefixed).reads bytes r are (reads_or_ok _ _ r e))
passed_over_reads place tag bytes r false told supported are e = known_tag_reads place tag bytes r (value_reader tag) refl are e

but_103_reads : (place tag : ℕ) (bytes : List ℕ) (r : Field × List ℕ) (told : Bool) → (tag == 103) ≡ told → AreBytes bytes → but_103 place tag bytes told ≡ Ok r → Front (SpellsFieldValue tag) bytes r
but_103_reads place tag bytes r true told are e =
    subst (λ tag. Front (SpellsFieldValue tag) bytes r) (sym (eqb-true tag 103 told))
    (front_as (Both SpellsSequencedFile SpellsEnd) (SpellsFieldValue 103) bytes r custom_file_spelled ((exact_custom_file place).reads bytes r are e))
but_103_reads place tag bytes r false told are e =
    let test = passed (is_unsupported_edit_tag tag) _ _ r e in
    passed_over_reads place tag bytes r (is_passed_over tag) refl test.0 are test.1

module _ (place tag : ℕ) (part rest : List ℕ) where
  at_tag : (known : ℕ) (field : Field) → tag ≡ known → field_of_tag place known (part ++ rest) ≡ Ok (field, rest) → field_of_tag place tag (part ++ rest) ≡ Ok (field, rest)
  at_tag known field e is = ap (λ tag. field_of_tag place tag (part ++ rest)) e ∙ is

  made_read : {A : Type 0} (known : ℕ) (make : A → Field) (read : List ℕ → Read A) (S : List ℕ → A → Type 0) → Exact read S → (x : A) → S part x → reads_or (BadField known place) (reads make read (part ++ rest)) ≡ Ok (make x, rest)
  made_read known make read S exact x s = ap (reads_or (BadField known place)) ((exact_made make read S exact).spelled part rest (make x) (record { of = x; is = refl; spells = s }))

  ignored_spelled : (own : ℕ) (value : List ℕ) → is_unsupported_edit_tag own ≡ false → is_passed_over own ≡ true → IsPrefixed part value → field_of_tag place own (part ++ rest) ≡ Ok (ignored own value, rest)
  ignored_spelled own value supported over is =
      cond-false (own == 103) _ _ (ne_eqb own 103 (λ e. false≢true (ap is_passed_over (sym e) ∙ over)))
      ∙ cond-false (is_unsupported_edit_tag own) _ _ supported
      ∙ cond-true (is_passed_over own) _ _ over
      ∙ made_read own (ignored own) prefixed_at IsPrefixed exact_prefixed value is

  file_spelled : (file : NewFile) → SpellsAddedFile tag part file → field_of_tag place tag (part ++ rest) ≡ Ok (add_file file, rest)
  file_spelled file (inl s) = at_tag 7 (add_file file) s.0 (made_read 7 add_file file_at SpellsPlainFile exact_file file (s.1, s.2))
  file_spelled file (inr (inl s)) = at_tag 100 (add_file file) s.0 (made_read 100 add_file sequenced_file_at SpellsSequencedFile exact_sequenced file s.1)
  file_spelled file (inr (inr (is, front, customs, whole, sequenced, ends))) =
      let both : Both SpellsSequencedFile SpellsEnd part (add_file file) = record { one = file; front = front; back = customs; whole = whole; first = sequenced; second = (refl, ends) } in
      at_tag 103 (add_file file) is ((exact_custom_file place).spelled part rest (add_file file) both)

  -- what is spelled after a tag is read
  tag_spelled : (field : Field) → SpellsFieldValue tag part field → field_of_tag place tag (part ++ rest) ≡ Ok (field, rest)
  tag_spelled (comparator name) s = at_tag 1 (comparator name) s.0 (made_read 1 comparator prefixed_at IsPrefixed exact_prefixed name s.1)
  tag_spelled (log_number n) s = at_tag 2 (log_number n) s.0 (made_read 2 log_number varint64_at IsVarint64 exact_varint64 n s.1)
  tag_spelled (next_file n) s = at_tag 3 (next_file n) s.0 (made_read 3 next_file varint64_at IsVarint64 exact_varint64 n s.1)
  tag_spelled (last_sequence n) s = at_tag 4 (last_sequence n) s.0 (made_read 4 last_sequence sequence_at SpellsSequence exact_sequence n (s.1, s.2))
  tag_spelled (compact_cursor level key) (is, front, back, whole, first, second) =
      let both : Both SpellsLevel (λ level. Made (compact_cursor level) SpellsBound) part (compact_cursor level key) = record { one = level; front = front; back = back; whole = whole; first = first; second = record { of = key; is = refl; spells = second } } in
      at_tag 5 (compact_cursor level key) is (ap (reads_or (BadField 5 place)) (exact_cursor.spelled part rest (compact_cursor level key) both))
  tag_spelled (delete_file level number) (is, front, back, whole, first, second) =
      let both : Both SpellsLevel (λ level. Made (delete_file level) IsVarint64) part (delete_file level number) = record { one = level; front = front; back = back; whole = whole; first = first; second = record { of = number; is = refl; spells = second } } in
      at_tag 6 (delete_file level number) is (ap (reads_or (BadField 6 place)) (exact_deleted.spelled part rest (delete_file level number) both))
  tag_spelled (add_file file) s = file_spelled file s
  tag_spelled (previous_log n) s = at_tag 9 (previous_log n) s.0 (made_read 9 previous_log varint64_at IsVarint64 exact_varint64 n s.1)
  tag_spelled (least_log n) s = at_tag 10 (least_log n) s.0 (made_read 10 least_log varint64_at IsVarint64 exact_varint64 n s.1)
  tag_spelled (family id) s = at_tag 200 (family id) s.0 (made_read 200 family varint32_at IsVarint32 exact_varint32 id s.1)
  tag_spelled (family_add name) s = at_tag 201 (family_add name) s.0 (made_read 201 family_add prefixed_at IsPrefixed exact_prefixed name s.1)
  tag_spelled family_drop s = at_tag 202 family_drop s.0 (ap (λ part. Ok (family_drop, part ++ rest)) s.1)
  tag_spelled (greatest_family id) s = at_tag 203 (greatest_family id) s.0 (made_read 203 greatest_family varint32_at IsVarint32 exact_varint32 id s.1)
  tag_spelled (group left) s = at_tag 300 (group left) s.0 (made_read 300 group varint32_at IsVarint32 exact_varint32 left s.1)
  tag_spelled (wal_add log synced) s =
      let tracked : Tracked = record { log = log; synced = synced } in
      at_tag 8199 (wal_add log synced) s.0 (made_read 8199 added_log (in_slice tracked_at) (SpellsInSlice SpellsTracked) exact_added_log tracked s.1)
  tag_spelled (wal_delete log) s = at_tag 8200 (wal_delete log) s.0 (made_read 8200 wal_delete (in_slice varint64_at) (SpellsInSlice IsVarint64) exact_deleted_log log s.1)
  tag_spelled (ignored own value) s = at_tag own (ignored own value) s.0 (ignored_spelled own value s.1 s.2 s.3)

exact_tag : (place tag : ℕ) → Exact (field_of_tag place tag) (SpellsFieldValue tag)
exact_tag place tag = record {
  reads = λ bytes r are e. but_103_reads place tag bytes r (tag == 103) refl are e;
  spelled = λ part rest field s. tag_spelled place tag part rest field s;
}

-- the field at a place
abbrev field_from : ℕ → List Field → List ℕ → Result (Field × List ℕ) EditFault
field_from place before bytes = reads_or (BadField 0 place) (varint32_at bytes) >>= λ tag. cond (clashes tag.0 before) (Err (BadField tag.0 place)) (field_of_tag place tag.0 tag.1)

abbrev Apart : List Field → ℕ → List ℕ → Field → Type 0
Apart before tag bytes field = SpellsFieldValue tag bytes field × (clashes tag before ≡ false)

exact_field : (place : ℕ) (before : List Field) → Exact (field_from place before) (SpellsField before)
exact_field place before =
    exact_as (field_from place before) (Both IsVarint32 (Apart before)) (SpellsField before)
    (exact_then (λ bytes. reads_or (BadField 0 place) (varint32_at bytes)) (λ tag bytes. cond (clashes tag before) (Err (BadField tag place)) (field_of_tag place tag bytes)) IsVarint32 (Apart before)
    (exact_or (BadField 0 place) varint32_at IsVarint32 exact_varint32)
    (λ tag. exact_unless (clashes tag before) (BadField tag place) (field_of_tag place tag) (SpellsFieldValue tag) (exact_tag place tag)))
    (λ part field b. record { tag = b.one; tag_bytes = b.front; value_bytes = b.back; spelled = b.whole; tag_is = b.first; value = b.second.0; apart = b.second.1 })
    (λ part field s. record { one = s.tag; front = s.tag_bytes; back = s.value_bytes; whole = s.spelled; first = s.tag_is; second = (s.value, s.apart) })

-- a field takes a byte at least
some_bytes : (before : List Field) (part : List ℕ) (field : Field) → SpellsField before part field → 1 ≤ length part
some_bytes before part field s = omega (arith, varint_len s.tag_bytes s.tag_is.groups, ap length s.spelled, length-append s.tag_bytes s.value_bytes)

-- the fields that are read are spelled
fields_read : (edit_len n : ℕ) (before : List Field) (bytes : List ℕ) (fields : List Field) → AreBytes bytes → length bytes ≤ n → in_turn (field_at edit_len) n before bytes ≡ Ok fields → SpellsFields before bytes fields
unfolding in_turn
fields_read edit_len zero before [] fields are few e = let none : [] ≡ fields = cc in subst (λ fields. SpellsFields before [] fields) none refl
fields_read edit_len zero before (b ∷ bytes) fields are few e = absurd (omega arith)
fields_read edit_len (suc n) before [] fields are few e = let none : [] ≡ fields = cc in subst (λ fields. SpellsFields before [] fields) none refl
fields_read edit_len (suc n) before (b ∷ bytes) fields are few e =
    both_steps (field_at edit_len before (b ∷ bytes)) _ fields e λ one one_read e1.
    both_steps (in_turn (field_at edit_len) n (one.0 ∷ before) one.1) _ fields e1 λ more more_read e2.
    let f = (exact_field (edit_len - length (b ∷ bytes)) before).reads (b ∷ bytes) one are one_read in
    let some = some_bytes before f.part one.0 f.spells in
    let lens : length (b ∷ bytes) ≡ length f.part + length one.1 = ap length f.whole ∙ length-append f.part one.1 in
    let whole : one.0 ∷ more ≡ fields = cc in
    subst (λ fields. SpellsFields before (b ∷ bytes) fields) whole (f.part, one.1, f.whole, f.spells, fields_read edit_len n (one.0 ∷ before) one.1 more f.after (omega arith) more_read)

no_bytes : (edit_len n : ℕ) (before : List Field) → in_turn (field_at edit_len) n before [] ≡ Ok []
unfolding in_turn
no_bytes edit_len zero before = refl
no_bytes edit_len (suc n) before = refl

one_more_field : (edit_len n : ℕ) (before : List Field) (bytes : List ℕ) → 1 ≤ length bytes
    → in_turn (field_at edit_len) (suc n) before bytes ≡ (field_at edit_len before bytes >>= λ one. in_turn (field_at edit_len) n (one.0 ∷ before) one.1 >>= λ more. Ok (one.0 ∷ more))
unfolding in_turn
one_more_field edit_len n before [] some = absurd (omega arith)
one_more_field edit_len n before (b ∷ bytes) some = refl

-- the fields that are spelled are read
fields_spelled : (edit_len n : ℕ) (before : List Field) (bytes : List ℕ) (fields : List Field) → length bytes ≤ n → SpellsFields before bytes fields → in_turn (field_at edit_len) n before bytes ≡ Ok fields
fields_spelled edit_len n before bytes [] few none = ap (λ bytes. in_turn (field_at edit_len) n before bytes) none ∙ no_bytes edit_len n before
fields_spelled edit_len zero before bytes (field ∷ fields) few (part, rest, whole, s, more) =
    absurd (omega (arith, some_bytes before part field s, ap length whole, length-append part rest))
fields_spelled edit_len (suc n) before bytes (field ∷ fields) few (part, rest, whole, s, more) =
    let some = some_bytes before part field s in
    let lens : length bytes ≡ length part + length rest = ap length whole ∙ length-append part rest in
    let read : field_at edit_len before bytes ≡ Ok (field, rest) =
    ap (field_from (edit_len - length bytes) before) whole ∙ (exact_field (edit_len - length bytes) before).spelled part rest field s in
    one_more_field edit_len n before bytes (omega arith)
    ∙ first_step (field_at edit_len before bytes) _ _ read
    ∙ first_step _ _ fields (fields_spelled edit_len n (field ∷ before) rest fields (omega arith) more)

pub edit_fields_ok : (bytes : List ℕ) (fields : List Field) → AreBytes bytes → edit_fields bytes ≡ Ok fields → IsEdit bytes fields
unfolding edit_fields
edit_fields_ok bytes fields are e = fields_read (length bytes) (length bytes) [] bytes fields are (omega arith) e

pub edit_fields-edit : (bytes : List ℕ) (fields : List Field) → IsEdit bytes fields → edit_fields bytes ≡ Ok fields
unfolding edit_fields
edit_fields-edit bytes fields is = fields_spelled (length bytes) (length bytes) [] bytes fields (omega arith) is
