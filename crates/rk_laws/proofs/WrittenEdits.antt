-- What is written of the fields of an edit spells them.
use Rattle.std.proofs.Common.{◌≡◌, ◌⊎◌, inl, inr, ℕ, ◌^◌, ◌<◌, ◌≤◌, false, List, [], ◌∷◌, ◌++◌, length, flat_map, Option, Some, None, Ok, refl, sym, subst, arith, is_some, append_assoc}
use Rattle.std.specs.List.{list_any, AllByRecursion}
use Rattle.std.proofs.lemmas.Bool.{or_parts, or_from, true≢false}
use Rattle.std.proofs.lemmas.List.{append-nil, length-append}
use Rattle.rk_bytes.specs.declared.model.edit.Seqs.{Seqs}
use Rattle.rk_bytes.specs.Model.Numbers.{IsVarint32, IsVarint64, IsPrefixed, varint_of, prefixed_of}
use Rattle.rk_bytes.specs.Model.VersionEdit.{NewFile, Field, edit_fields, comparator, log_number, next_file, last_sequence, compact_cursor, delete_file, add_file, previous_log, least_log, family, family_add, family_drop, greatest_family, group, wal_add, wal_delete, ignored, family_add_in, drops_family, clashes, SpellsBound, SpellsLevel, SpellsFile, SpellsSequencedFile, no_custom, SpellsInSlice, no_size, one_size, SpellsTracked, SpellsFieldValue, SpellsField, SpellsFields}
use Rattle.rk_bytes.specs.Model.Writers.{field_bytes, file_bytes, added_file_bytes, tracked_bytes, edit_bytes}
use Rattle.rk_bytes.proofs.Callers.Varints.{IsVarint32-varint_of, IsVarint64-varint_of}
use Rattle.rk_laws.proofs.EditFields.{edit_fields-edit}
use Rattle.rk_laws.specs.Writable.{IsBound, AreStated, IsFile, IsSize, IsWritable, AddsOrDrops}

-- a slice after its length
slice_spelled : (slice : List ℕ) → length slice < 2 ^ 32 → IsPrefixed (prefixed_of slice) slice
slice_spelled slice short = record { len_bytes = varint_of (length slice); len = IsVarint32-varint_of (length slice) short; parts = refl }

bound_spelled : (key : List ℕ) → IsBound key → SpellsBound (prefixed_of key) key
bound_spelled key is = (slice_spelled key is.1, is.0)

level_spelled : (level : ℕ) → level ≤ 255 → SpellsLevel (varint_of level) level
level_spelled level most = (IsVarint32-varint_of level (omega arith), most)

file_spelled : (file : NewFile) → IsFile file → SpellsFile (file_bytes file) file
file_spelled file is = record {
  level_bytes = varint_of file.level;
  number_bytes = varint_of file.number;
  size_bytes = varint_of file.size;
  smallest_bytes = prefixed_of file.smallest;
  largest_bytes = prefixed_of file.largest;
  spelled = simp append_assoc;
  level = level_spelled file.level is.level;
  number = IsVarint64-varint_of file.number is.number;
  size = IsVarint64-varint_of file.size is.size;
  smallest = bound_spelled file.smallest is.smallest;
  largest = bound_spelled file.largest is.largest;
}

-- the tag that ends the custom fields, and the one that ends a tracked log
end_is : IsVarint32 (varint_of 1) 1
end_is = IsVarint32-varint_of 1 (omega arith)

-- an added file, with its sequence numbers where they are stated
added_spelled : (before : List Field) (file : NewFile) → IsFile file → (seqs : Option Seqs) → file.seqs ≡ seqs → AreStated seqs → SpellsField before (added_file_bytes file seqs) (add_file file)
added_spelled before file is None none stated = record {
  tag = 7;
  tag_bytes = varint_of 7;
  value_bytes = file_bytes file;
  spelled = refl;
  tag_is = IsVarint32-varint_of 7 (omega arith);
  value = inl (refl, file_spelled file is, none);
  apart = refl;
}
added_spelled before file is (Some seqs) some stated =
    let numbers = varint_of seqs.least ++ varint_of seqs.greatest in
    let front : SpellsSequencedFile (file_bytes file ++ numbers) file = record {
      file_bytes = file_bytes file;
      least_bytes = varint_of seqs.least;
      greatest_bytes = varint_of seqs.greatest;
      numbers = seqs;
      spelled = refl;
      parts = file_spelled file is;
      stated = some;
      least = IsVarint64-varint_of seqs.least stated.0;
      greatest = IsVarint64-varint_of seqs.greatest stated.1;
    } in
    record {
      tag = 103;
      tag_bytes = varint_of 103;
      value_bytes = (file_bytes file ++ numbers) ++ varint_of 1;
      spelled = simp append_assoc;
      tag_is = IsVarint32-varint_of 103 (omega arith);
      value = inr (inr (refl, file_bytes file ++ numbers, varint_of 1, refl, front, no_custom end_is));
      apart = refl;
    }

-- the slice of a tracked log
tracked_spelled : (log : ℕ) (synced : Option ℕ) → log < 2 ^ 64 → IsSize synced → SpellsTracked (tracked_bytes log synced) (record { log = log; synced = synced })
tracked_spelled log None below size = record {
  log_bytes = varint_of log;
  size_bytes = varint_of 1;
  sizes = [];
  spelled = refl;
  log = IsVarint64-varint_of log below;
  stated = no_size end_is;
  is = refl;
}
tracked_spelled log (Some size) below most = record {
  log_bytes = varint_of log;
  size_bytes = varint_of 2 ++ (varint_of size ++ varint_of 1);
  sizes = size ∷ [];
  spelled = simp append_assoc;
  log = IsVarint64-varint_of log below;
  stated = one_size refl (IsVarint32-varint_of 2 (omega arith)) (IsVarint64-varint_of size most) (no_size end_is);
  is = refl;
}

-- that slice, and a number, are short
number_short : (n : ℕ) → n < 2 ^ 64 → length (varint_of n) < 2 ^ 32
number_short n below = let short = (IsVarint64-varint_of n below).short in omega arith

tracked_short : (log : ℕ) (synced : Option ℕ) → log < 2 ^ 64 → IsSize synced → length (tracked_bytes log synced) < 2 ^ 32
tracked_short log None below size =
    let short = (IsVarint64-varint_of log below).short in
    let whole = length-append (varint_of log) (varint_of 1) in
    let one : length (varint_of 1) ≡ 1 = refl in
    omega arith
tracked_short log (Some size) below most =
    let short = (IsVarint64-varint_of log below).short in
    let sized = (IsVarint64-varint_of size most).short in
    let whole = length-append (varint_of log ++ varint_of 2 ++ varint_of size) (varint_of 1) in
    let rest = length-append (varint_of log ++ varint_of 2) (varint_of size) in
    let last = length-append (varint_of log) (varint_of 2) in
    let one : length (varint_of 1) ≡ 1 = refl in
    let two : length (varint_of 2) ≡ 1 = refl in
    omega arith

-- a value that fills a slice
in_slice : {A : Type 0} (S : List ℕ → A → Type 0) (slice : List ℕ) (x : A) → length slice < 2 ^ 32 → S slice x → SpellsInSlice S (prefixed_of slice) x
in_slice S slice x short is = record { slice = slice; front = slice; passed = []; whole = slice_spelled slice short; spelled = sym (append-nil slice); value = is }

-- a field that no family's addition or drop stands against
plain : (before : List Field) (tag : ℕ) (value : List ℕ) (field : Field) → tag < 2 ^ 32 → clashes tag before ≡ false → SpellsFieldValue tag value field → SpellsField before (varint_of tag ++ value) field
plain before tag value field below apart is = record {
  tag = tag;
  tag_bytes = varint_of tag;
  value_bytes = value;
  spelled = refl;
  tag_is = IsVarint32-varint_of tag below;
  value = is;
  apart = apart;
}

-- of the fields before and those that follow, none adds a family, or none drops one
abbrev Apart : List Field → List Field → Type 0
Apart before fields =
    (list_any (λ field. is_some (family_add_in field)) before ≡ false) × (list_any (λ field. is_some (family_add_in field)) fields ≡ false)
    ⊎ (list_any drops_family before ≡ false) × (list_any drops_family fields ≡ false)

-- any field
field_spelled : (before : List Field) (field : Field) (fields : List Field) → Apart before (field ∷ fields) → IsWritable field → SpellsField before (field_bytes field) field
field_spelled before (comparator name) fields apart is = plain before 1 (prefixed_of name) (comparator name) (omega arith) refl (refl, slice_spelled name is)
field_spelled before (log_number n) fields apart is = plain before 2 (varint_of n) (log_number n) (omega arith) refl (refl, IsVarint64-varint_of n is)
field_spelled before (next_file n) fields apart is = plain before 3 (varint_of n) (next_file n) (omega arith) refl (refl, IsVarint64-varint_of n is)
field_spelled before (last_sequence n) fields apart is = plain before 4 (varint_of n) (last_sequence n) (omega arith) refl (refl, IsVarint64-varint_of n (omega arith), is)
field_spelled before (compact_cursor level key) fields apart is =
    subst (λ bytes. SpellsField before bytes (compact_cursor level key)) (sym (append_assoc (varint_of 5) (varint_of level) (prefixed_of key))) (
    plain before 5 (varint_of level ++ prefixed_of key) (compact_cursor level key) (omega arith) refl (refl, varint_of level, prefixed_of key, refl, level_spelled level is.0, bound_spelled key is.1))
field_spelled before (delete_file level number) fields apart is =
    subst (λ bytes. SpellsField before bytes (delete_file level number)) (sym (append_assoc (varint_of 6) (varint_of level) (varint_of number))) (
    plain before 6 (varint_of level ++ varint_of number) (delete_file level number) (omega arith) refl (refl, varint_of level, varint_of number, refl, level_spelled level is.0, IsVarint64-varint_of number is.1))
field_spelled before (add_file file) fields apart is = added_spelled before file is file.seqs refl is.seqs
field_spelled before (previous_log n) fields apart is = plain before 9 (varint_of n) (previous_log n) (omega arith) refl (refl, IsVarint64-varint_of n is)
field_spelled before (least_log n) fields apart is = plain before 10 (varint_of n) (least_log n) (omega arith) refl (refl, IsVarint64-varint_of n is)
field_spelled before (family id) fields apart is = plain before 200 (varint_of id) (family id) (omega arith) refl (refl, IsVarint32-varint_of id is)
field_spelled before (family_add name) fields (inl none) is = absurd (true≢false none.1)
field_spelled before (family_add name) fields (inr none) is = plain before 201 (prefixed_of name) (family_add name) (omega arith) none.0 (refl, slice_spelled name is)
field_spelled before family_drop fields (inl none) is = record {
  tag = 202;
  tag_bytes = varint_of 202;
  value_bytes = [];
  spelled = refl;
  tag_is = IsVarint32-varint_of 202 (omega arith);
  value = (refl, refl);
  apart = or_from (list_any (λ field. is_some (family_add_in field)) before) false none.0 refl;
}
field_spelled before family_drop fields (inr none) is = absurd (true≢false none.1)
field_spelled before (greatest_family id) fields apart is = plain before 203 (varint_of id) (greatest_family id) (omega arith) refl (refl, IsVarint32-varint_of id is)
field_spelled before (group left) fields apart is = plain before 300 (varint_of left) (group left) (omega arith) refl (refl, IsVarint32-varint_of left is)
field_spelled before (wal_add log synced) fields apart is =
    plain before 8199 (prefixed_of (tracked_bytes log synced)) (wal_add log synced) (omega arith) refl (refl, in_slice SpellsTracked (tracked_bytes log synced) (record { log = log; synced = synced }) (tracked_short log synced is.0 is.1) (tracked_spelled log synced is.0 is.1))
field_spelled before (wal_delete log) fields apart is =
    plain before 8200 (prefixed_of (varint_of log)) (wal_delete log) (omega arith) refl (refl, in_slice IsVarint64 (varint_of log) log (number_short log is) (IsVarint64-varint_of log is))
field_spelled before (ignored tag value) fields apart is = absurd is

-- what is left of the fields stays apart from those before
apart_then : (before : List Field) (field : Field) (fields : List Field) → Apart before (field ∷ fields) → Apart (field ∷ before) fields
apart_then before field fields (inl none) =
    let parts = or_parts (is_some (family_add_in field)) (list_any (λ field. is_some (family_add_in field)) fields) none.1 in
    inl (or_from (is_some (family_add_in field)) (list_any (λ field. is_some (family_add_in field)) before) parts.0 none.0, parts.1)
apart_then before field fields (inr none) =
    let parts = or_parts (drops_family field) (list_any drops_family fields) none.1 in
    inr (or_from (drops_family field) (list_any drops_family before) parts.0 none.0, parts.1)

fields_spelled : (before fields : List Field) → Apart before fields → AllByRecursion IsWritable fields → SpellsFields before (flat_map field_bytes fields) fields
fields_spelled before [] apart are = refl
fields_spelled before (field ∷ fields) apart are =
    (field_bytes field, flat_map field_bytes fields, refl, field_spelled before field fields apart are.0, fields_spelled (field ∷ before) fields (apart_then before field fields apart) are.1)

-- an edit of fields that are within their bounds is read as them
pub edit_written : (fields : List Field) → AllByRecursion IsWritable fields → AddsOrDrops fields → edit_fields (edit_bytes fields) ≡ Ok fields
unfolding edit_bytes
edit_written fields are apart = edit_fields-edit (edit_bytes fields) fields (fields_spelled [] fields (at_begin apart) are)
  where
    at_begin : AddsOrDrops fields → Apart [] fields
    at_begin (inl none) = inl (refl, none)
    at_begin (inr none) = inr (refl, none)
