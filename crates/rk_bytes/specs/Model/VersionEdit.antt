-- Version edits: what a record of a manifest changes (db/version_edit.cc, db/wal_edit.cc). The order of the
-- tests, the bounds, which tags are refused, that of two synced sizes the last counts, and that any other
-- tag with bit 8192 has a slice and is passed over, are this project's own rules.
use Rattle.std.specs.Prelude.{◌≡◌, ◌≢◌, ◌⊎◌, ℕ, ◌-◌, ◌/◌, ◌%◌, ◌≤◌, zero, suc, Bool, true, false, not, ◌&&◌, ◌||◌, List, [], ◌∷◌, ◌++◌, length, map, find, slice_index, nat_le, ◌==◌, if◌then◌else◌, Option, Some, None, option_map, is_some, Result, Ok, Err, codes, refl}
use Rattle.std.specs.List.{list_any, last_or}
use Rattle.rk_bytes.specs.declared.model.number.NumFault.TheVariants.{Cut, TooLarge}
use Rattle.rk_bytes.specs.declared.model.edit.Seqs.{Seqs}
use Rattle.rk_bytes.specs.declared.model.edit.EditFault.{EditFault}
use Rattle.rk_bytes.specs.declared.model.edit.EditFault.TheVariants.{UnknownTag, UnsupportedTag, BadField}
use Rattle.rk_bytes.specs.declared.model.manifest.Tracked.{Tracked}
use Rattle.rk_bytes.specs.Model.Numbers.{IsVarint32, IsVarint64, IsPrefixed, Read, ◌>>=◌, varint32_at, varint64_at, prefixed_at, reads_or, in_turn}
use Rattle.rk_bytes.specs.Model.InternalKey.{top_sequence}

-- an added file: its bounds are internal keys, and its sequence numbers may be stated
pub record NewFile : Type 0 where
  pub level : ℕ
  pub number : ℕ
  pub size : ℕ
  pub smallest : List ℕ
  pub largest : List ℕ
  pub seqs : Option Seqs

-- A compact cursor has a level and an internal key, a deleted file a level and a number, a log that is
-- tracked its number and its synced size where one is stated, and an ignored field its tag and its value.
pub data Field : Type 0 where
  comparator : List ℕ → Field
  log_number : ℕ → Field
  next_file : ℕ → Field
  last_sequence : ℕ → Field
  compact_cursor : ℕ → List ℕ → Field
  delete_file : ℕ → ℕ → Field
  add_file : NewFile → Field
  previous_log : ℕ → Field
  least_log : ℕ → Field
  family : ℕ → Field
  family_add : List ℕ → Field
  family_drop : Field
  greatest_family : ℕ → Field
  group : ℕ → Field
  wal_add : ℕ → Option ℕ → Field
  wal_delete : ℕ → Field
  ignored : ℕ → List ℕ → Field

-- What a field of one kind holds: the comparator's name.
abbrev pub comparator_in : Field → Option (List ℕ)
comparator_in (comparator name) = Some name
comparator_in _ = None

-- the log number of the edit's family
abbrev pub log_number_in : Field → Option ℕ
log_number_in (log_number n) = Some n
log_number_in _ = None

-- the next file's number
abbrev pub next_file_in : Field → Option ℕ
next_file_in (next_file n) = Some n
next_file_in _ = None

-- the last sequence number
abbrev pub last_sequence_in : Field → Option ℕ
last_sequence_in (last_sequence n) = Some n
last_sequence_in _ = None

-- the level and the number of a deleted file
abbrev pub deleted_in : Field → Option (ℕ × ℕ)
deleted_in (delete_file level number) = Some (level, number)
deleted_in _ = None

-- an added file
abbrev pub added_in : Field → Option NewFile
added_in (add_file file) = Some file
added_in _ = None

-- the least log to keep
abbrev pub least_log_in : Field → Option ℕ
least_log_in (least_log n) = Some n
least_log_in _ = None

-- the id of the edit's family
abbrev pub family_in : Field → Option ℕ
family_in (family id) = Some id
family_in _ = None

-- the name of a family that is added
abbrev pub family_add_in : Field → Option (List ℕ)
family_add_in (family_add name) = Some name
family_add_in _ = None

-- the field drops the edit's family
abbrev pub drops_family : Field → Bool
drops_family family_drop = true
drops_family _ = false

-- the greatest family's id
abbrev pub greatest_family_in : Field → Option ℕ
greatest_family_in (greatest_family id) = Some id
greatest_family_in _ = None

-- how many more edits of the group come
abbrev pub group_in : Field → Option ℕ
group_in (group left) = Some left
group_in _ = None

-- Values with bounds of their own: a level is at most 255, an internal key has 8 bytes at least, and a last
-- sequence number is at most the greatest one. Which fault they give isn't looked at: the field is bad.
abbrev pub level_at : List ℕ → Read ℕ
level_at bytes = do
  level ← varint32_at bytes
  if nat_le level.0 255 then Ok level else Err TooLarge

-- an internal key
abbrev pub bound_at : List ℕ → Read (List ℕ)
bound_at bytes = do
  key ← prefixed_at bytes
  if nat_le 8 (length key.0) then Ok key else Err Cut

-- a last sequence number
abbrev pub sequence_at : List ℕ → Read ℕ
sequence_at bytes = do
  sequence ← varint64_at bytes
  if nat_le sequence.0 top_sequence then Ok sequence else Err TooLarge

-- a compact cursor
abbrev pub cursor_at : List ℕ → Read Field
cursor_at bytes = do
  level ← level_at bytes
  key ← bound_at level.1
  Ok (compact_cursor level.0 key.0, key.1)

-- a deleted file
abbrev pub deleted_at : List ℕ → Read Field
deleted_at bytes = do
  level ← level_at bytes
  number ← varint64_at level.1
  Ok (delete_file level.0 number.0, number.1)

-- an added file that states no sequence numbers
abbrev pub file_with : ℕ → ℕ → ℕ → List ℕ → List ℕ → NewFile
file_with level number size smallest largest =
    record { level = level; number = number; size = size; smallest = smallest; largest = largest; seqs = None }

-- the level, number, size and bounds of an added file
abbrev pub file_at : List ℕ → Read NewFile
file_at bytes = do
  level ← level_at bytes
  number ← varint64_at level.1
  size ← varint64_at number.1
  smallest ← bound_at size.1
  largest ← bound_at smallest.1
  Ok (file_with level.0 number.0 size.0 smallest.0 largest.0, largest.1)

-- the file with these sequence numbers
abbrev pub with_sequences : NewFile → ℕ → ℕ → NewFile
with_sequences file least greatest = record (file) { seqs = Some (record { least = least; greatest = greatest }) }

-- an added file with its sequence numbers
abbrev pub sequenced_file_at : List ℕ → Read NewFile
sequenced_file_at bytes = do
  file ← file_at bytes
  least ← varint64_at file.1
  greatest ← varint64_at least.1
  Ok (with_sequences file.0 least.0 greatest.0, greatest.1)

-- The bytes after a custom field of an added file, whose tag stands before these. A path's id has to be
-- 0, in one byte. Any other field may be passed over, unless its tag has bit 64.
abbrev pub after_path : ℕ → List ℕ → List ℕ → Result (List ℕ) EditFault
after_path place path bytes =
    if not (length path == 1) then Err (BadField 103 place)
    else (if slice_index path 0 == 0 then Ok bytes else Err (UnsupportedTag 65 place))

-- the bytes after any custom field
abbrev pub after_custom : ℕ → ℕ → List ℕ → Result (List ℕ) EditFault
after_custom place tag bytes =
    if not (tag == 65) && tag / 64 % 2 == 1 then Err (UnknownTag tag place)
    else (do
      value ← reads_or (BadField 103 place) (prefixed_at bytes)
      if tag == 65 then after_path place value.0 value.1 else Ok value.1)

-- the bytes after the custom fields, of which there are fewer than n, and after the tag 1 that ends them
unfoldable pub after_customs : ℕ → ℕ → List ℕ → Result (List ℕ) EditFault
after_customs zero place bytes = Err (BadField 103 place)
after_customs (suc n) place bytes = do
  tag ← reads_or (BadField 103 place) (varint32_at bytes)
  if tag.0 == 1 then Ok tag.1 else (do
    rest ← after_custom place tag.0 tag.1
    after_customs n place rest)

-- an added file with its custom fields
abbrev pub custom_file_at : ℕ → List ℕ → Result (Field × List ℕ) EditFault
custom_file_at place bytes = do
  file ← reads_or (BadField 103 place) (sequenced_file_at bytes)
  rest ← after_customs (length file.1) place file.1
  Ok (add_file file.0, rest)

-- a value at the front of a slice, whose other bytes are passed over
abbrev pub in_slice : {A : Type 0} → (List ℕ → Read A) → List ℕ → Read A
in_slice value_at bytes = do
  slice ← prefixed_at bytes
  value ← value_at slice.0
  Ok (value.0, slice.1)

-- The synced sizes of a tracked log, each after the tag 2, up to the tag 1. There are fewer than n. Which
-- fault is given isn't looked at.
unfoldable pub synced_sizes_at : ℕ → List ℕ → Read (List ℕ)
synced_sizes_at zero bytes = Err Cut
synced_sizes_at (suc n) bytes = do
  tag ← varint32_at bytes
  if tag.0 == 1 then Ok ([], tag.1) else (if not (tag.0 == 2) then Err TooLarge else (do
    size ← varint64_at tag.1
    more ← synced_sizes_at n size.1
    Ok (size.0 ∷ more.0, more.1)))

-- a log with its synced size, which is the last of those stated
abbrev pub tracked_with : ℕ → List ℕ → Tracked
tracked_with log sizes = record { log = log; synced = last_or None sizes }

-- a tracked log
abbrev pub tracked_at : List ℕ → Read Tracked
tracked_at bytes = do
  log ← varint64_at bytes
  sizes ← synced_sizes_at (length log.1) log.1
  Ok (tracked_with log.0 sizes.0, sizes.1)

-- the field that adds a tracked log
abbrev pub added_log : Tracked → Field
added_log tracked = wal_add tracked.log tracked.synced

-- a field that is made of the value that is read
abbrev pub reads : {A : Type 0} → (A → Field) → (List ℕ → Read A) → List ℕ → Read Field
reads field value_at bytes = do
  value ← value_at bytes
  Ok (field value.0, value.1)

-- each tag, and how its value reads
abbrev pub value_readers : List (ℕ × (List ℕ → Read Field))
value_readers =
    (1, reads comparator prefixed_at)
    ∷ (2, reads log_number varint64_at)
    ∷ (3, reads next_file varint64_at)
    ∷ (4, reads last_sequence sequence_at)
    ∷ (5, cursor_at)
    ∷ (6, deleted_at)
    ∷ (7, reads add_file file_at)
    ∷ (9, reads previous_log varint64_at)
    ∷ (10, reads least_log varint64_at)
    ∷ (100, reads add_file sequenced_file_at)
    ∷ (200, reads family varint32_at)
    ∷ (201, reads family_add prefixed_at)
    ∷ (202, λ bytes. Ok (family_drop, bytes))
    ∷ (203, reads greatest_family varint32_at)
    ∷ (300, reads group varint32_at)
    ∷ (8199, reads added_log (in_slice tracked_at))
    ∷ (8200, reads wal_delete (in_slice varint64_at))
    ∷ []

-- how the value after this tag reads
abbrev pub value_reader : ℕ → Option (List ℕ → Read Field)
value_reader tag = option_map (λ row. row.1) (find (λ row. row.0 == tag) value_readers)

-- An older form of an added file (102), blob files (400 and 401), the addition and the garbage of blob files
-- in their deprecated form (8194 and 8195), and the first forms of the addition and the deletion of a tracked
-- log (8196 and 8197).
abbrev pub is_unsupported_edit_tag : ℕ → Bool
is_unsupported_edit_tag tag = tag == 102 || tag == 400 || tag == 401 || nat_le 8194 tag && nat_le tag 8197

-- the tag of a field that is passed over: any other one with bit 8192
abbrev pub is_passed_over : ℕ → Bool
is_passed_over tag = tag / 8192 % 2 == 1 && not (tag == 8199 || tag == 8200)

-- the field with this tag, after the tag
abbrev pub field_of_tag : ℕ → ℕ → List ℕ → Result (Field × List ℕ) EditFault
field_of_tag place tag bytes =
    if tag == 103 then custom_file_at place bytes
    else (if is_unsupported_edit_tag tag then Err (UnsupportedTag tag place)
    else (if is_passed_over tag then reads_or (BadField tag place) (reads (ignored tag) prefixed_at bytes)
    else elim (value_reader tag) [
      | Some value_at ↦ reads_or (BadField tag place) (value_at bytes)
      | None ↦ Err (UnknownTag tag place)
    ]))

-- a family's drop after its add, or an add after a drop
abbrev pub clashes : ℕ → List Field → Bool
clashes tag before =
    tag == 202 && list_any (λ field. is_some (family_add_in field)) before
    || tag == 201 && list_any drops_family before

-- the field at the front of an edit's last bytes
abbrev pub field_at : ℕ → List Field → List ℕ → Result (Field × List ℕ) EditFault
field_at edit_len before bytes =
    let place = edit_len - length bytes in do
      tag ← reads_or (BadField 0 place) (varint32_at bytes)
      if clashes tag.0 before then Err (BadField tag.0 place) else field_of_tag place tag.0 tag.1

-- The fields of the edit that the bytes are, or the first fault.
unfoldable pub edit_fields : List ℕ → Result (List Field) EditFault
edit_fields bytes = in_turn (field_at (length bytes)) (length bytes) [] bytes

-- The same without reading: the bytes of a level, and of a compact cursor's or a file's internal key.
abbrev pub SpellsLevel : List ℕ → ℕ → Type 0
SpellsLevel bytes level = IsVarint32 bytes level × (level ≤ 255)

-- an internal key has 8 bytes at least
abbrev pub SpellsBound : List ℕ → List ℕ → Type 0
SpellsBound bytes key = IsPrefixed bytes key × (8 ≤ length key)

-- The bytes are an added file's level, number, size and bounds.
pub record SpellsFile (bytes : List ℕ) (file : NewFile) : Type 0 where
  pub level_bytes : List ℕ
  pub number_bytes : List ℕ
  pub size_bytes : List ℕ
  pub smallest_bytes : List ℕ
  pub largest_bytes : List ℕ
  pub spelled : bytes ≡ level_bytes ++ (number_bytes ++ (size_bytes ++ (smallest_bytes ++ largest_bytes)))
  pub level : SpellsLevel level_bytes file.level
  pub number : IsVarint64 number_bytes file.number
  pub size : IsVarint64 size_bytes file.size
  pub smallest : SpellsBound smallest_bytes file.smallest
  pub largest : SpellsBound largest_bytes file.largest

-- and its sequence numbers
pub record SpellsSequencedFile (bytes : List ℕ) (file : NewFile) : Type 0 where
  pub file_bytes : List ℕ
  pub least_bytes : List ℕ
  pub greatest_bytes : List ℕ
  pub numbers : Seqs
  pub spelled : bytes ≡ file_bytes ++ (least_bytes ++ greatest_bytes)
  pub parts : SpellsFile file_bytes file
  pub stated : file.seqs ≡ Some numbers
  pub least : IsVarint64 least_bytes numbers.least
  pub greatest : IsVarint64 greatest_bytes numbers.greatest

-- A custom field that may be passed over: a path's id that is 0, or any other whose tag has no bit 64.
abbrev pub MayPass : ℕ → List ℕ → Type 0
MayPass tag value = (tag ≡ 65) × (value ≡ 0 ∷ []) ⊎ (tag / 64 % 2 ≡ 0)

-- The bytes are custom fields of an added file, each a tag and a slice, and the tag 1 that ends them.
pub data SpellsCustoms : List ℕ → Type 0 where
  no_custom : {bytes : List ℕ} → IsVarint32 bytes 1 → SpellsCustoms bytes
  one_custom :
      {bytes tag_bytes value_bytes rest value : List ℕ} {tag : ℕ}
      → bytes ≡ tag_bytes ++ (value_bytes ++ rest)
      → IsVarint32 tag_bytes tag
      → tag ≢ 1
      → IsPrefixed value_bytes value
      → MayPass tag value
      → SpellsCustoms rest
      → SpellsCustoms bytes

-- The bytes after an added file's tag, in each of the three forms.
abbrev pub SpellsAddedFile : ℕ → List ℕ → NewFile → Type 0
SpellsAddedFile tag bytes file =
    (tag ≡ 7) × SpellsFile bytes file × (file.seqs ≡ None)
    ⊎ (tag ≡ 100) × SpellsSequencedFile bytes file
    ⊎ (tag ≡ 103) × (front : List ℕ) × (customs : List ℕ) × (bytes ≡ front ++ customs)
    × SpellsSequencedFile front file × SpellsCustoms customs

-- The bytes are a slice, and this value stands at its front.
pub record SpellsInSlice {A : Type 0} (Spells : List ℕ → A → Type 0) (bytes : List ℕ) (x : A) : Type 0 where
  pub slice : List ℕ
  pub front : List ℕ
  pub passed : List ℕ
  pub whole : IsPrefixed bytes slice
  pub spelled : slice ≡ front ++ passed
  pub value : Spells front x

-- The bytes are the synced sizes of a tracked log, each after the tag 2, and the tag 1.
pub data SpellsSyncedSizes : List ℕ → List ℕ → Type 0 where
  no_size : {bytes : List ℕ} → IsVarint32 bytes 1 → SpellsSyncedSizes bytes []
  one_size :
      {bytes tag_bytes size_bytes rest sizes : List ℕ} {size : ℕ}
      → bytes ≡ tag_bytes ++ (size_bytes ++ rest)
      → IsVarint32 tag_bytes 2
      → IsVarint64 size_bytes size
      → SpellsSyncedSizes rest sizes
      → SpellsSyncedSizes bytes (size ∷ sizes)

-- The bytes are a tracked log: its number and its synced sizes, of which the last counts.
pub record SpellsTracked (bytes : List ℕ) (tracked : Tracked) : Type 0 where
  pub log_bytes : List ℕ
  pub size_bytes : List ℕ
  pub sizes : List ℕ
  pub spelled : bytes ≡ log_bytes ++ size_bytes
  pub log : IsVarint64 log_bytes tracked.log
  pub stated : SpellsSyncedSizes size_bytes sizes
  pub is : tracked ≡ tracked_with tracked.log sizes

-- The tag is this field's, and the bytes are its value. An ignored field's tag is neither refused nor that of
-- another field.
abbrev pub SpellsFieldValue : ℕ → List ℕ → Field → Type 0
SpellsFieldValue tag bytes (comparator name) = (tag ≡ 1) × IsPrefixed bytes name
SpellsFieldValue tag bytes (log_number n) = (tag ≡ 2) × IsVarint64 bytes n
SpellsFieldValue tag bytes (next_file n) = (tag ≡ 3) × IsVarint64 bytes n
SpellsFieldValue tag bytes (last_sequence n) = (tag ≡ 4) × IsVarint64 bytes n × (n ≤ top_sequence)
SpellsFieldValue tag bytes (compact_cursor level key) =
    (tag ≡ 5) × (front : List ℕ) × (back : List ℕ) × (bytes ≡ front ++ back) × SpellsLevel front level × SpellsBound back key
SpellsFieldValue tag bytes (delete_file level number) =
    (tag ≡ 6) × (front : List ℕ) × (back : List ℕ) × (bytes ≡ front ++ back) × SpellsLevel front level × IsVarint64 back number
SpellsFieldValue tag bytes (add_file file) = SpellsAddedFile tag bytes file
SpellsFieldValue tag bytes (previous_log n) = (tag ≡ 9) × IsVarint64 bytes n
SpellsFieldValue tag bytes (least_log n) = (tag ≡ 10) × IsVarint64 bytes n
SpellsFieldValue tag bytes (family id) = (tag ≡ 200) × IsVarint32 bytes id
SpellsFieldValue tag bytes (family_add name) = (tag ≡ 201) × IsPrefixed bytes name
SpellsFieldValue tag bytes family_drop = (tag ≡ 202) × (bytes ≡ [])
SpellsFieldValue tag bytes (greatest_family id) = (tag ≡ 203) × IsVarint32 bytes id
SpellsFieldValue tag bytes (group left) = (tag ≡ 300) × IsVarint32 bytes left
SpellsFieldValue tag bytes (wal_add log synced) = (tag ≡ 8199) × SpellsInSlice SpellsTracked bytes (record { log = log; synced = synced })
SpellsFieldValue tag bytes (wal_delete log) = (tag ≡ 8200) × SpellsInSlice IsVarint64 bytes log
SpellsFieldValue tag bytes (ignored own value) =
    (tag ≡ own) × (is_unsupported_edit_tag own ≡ false) × (is_passed_over own ≡ true) × IsPrefixed bytes value

-- The bytes are a field: its tag and its value. It doesn't clash with the fields before it.
pub record SpellsField (before : List Field) (bytes : List ℕ) (field : Field) : Type 0 where
  pub tag : ℕ
  pub tag_bytes : List ℕ
  pub value_bytes : List ℕ
  pub spelled : bytes ≡ tag_bytes ++ value_bytes
  pub tag_is : IsVarint32 tag_bytes tag
  pub value : SpellsFieldValue tag value_bytes field
  pub apart : clashes tag before ≡ false

-- The bytes are these fields, one after another, after others.
abbrev pub SpellsFields : List Field → List ℕ → List Field → Type 0
SpellsFields before bytes [] = bytes ≡ []
SpellsFields before bytes (field ∷ fields) =
    (spelled : List ℕ) × (rest : List ℕ) × (bytes ≡ spelled ++ rest)
    × SpellsField before spelled field × SpellsFields (field ∷ before) rest fields

-- The bytes are an edit of these fields.
abbrev pub IsEdit : List ℕ → List Field → Type 0
IsEdit bytes fields = SpellsFields [] bytes fields

of_a_first_edit : edit_fields (1 ∷ 26 ∷ codes "leveldb.BytewiseComparator" ++ 2 ∷ 3 ∷ 3 ∷ 4 ∷ 4 ∷ 0 ∷ [])
    ≡ Ok (comparator (codes "leveldb.BytewiseComparator") ∷ log_number 3 ∷ next_file 4 ∷ last_sequence 0 ∷ [])
unfolding edit_fields in_turn
of_a_first_edit = refl

-- the internal key of a put of `a` at sequence number 1
put_a : List ℕ
put_a = 0x61 ∷ 1 ∷ 1 ∷ 0 ∷ 0 ∷ 0 ∷ 0 ∷ 0 ∷ 0 ∷ []

-- an added file of 1,000 bytes at level 0, with these custom fields
added_file : List ℕ → List ℕ
added_file customs = (0x67 ∷ 0 ∷ 4 ∷ 0xE8 ∷ 0x07 ∷ []) ++ 9 ∷ put_a ++ 9 ∷ put_a ++ 1 ∷ 1 ∷ customs

of_an_added_file : edit_fields (added_file (1 ∷ []))
    ≡ Ok (add_file (with_sequences (file_with 0 4 1000 put_a put_a) 1 1) ∷ [])
unfolding edit_fields in_turn after_customs added_file put_a
of_an_added_file = refl

-- A path's id that isn't 0, a tag with bit 64, and no end. The place is that of the file's tag, here after a log number.
of_custom_fields :
    map (λ customs. edit_fields (2 ∷ 7 ∷ added_file customs)) ((65 ∷ 1 ∷ 2 ∷ 1 ∷ []) ∷ (5 ∷ 0 ∷ 66 ∷ []) ∷ (5 ∷ 0 ∷ []) ∷ [])
    ≡ Err (UnsupportedTag 65 2) ∷ Err (UnknownTag 66 2) ∷ Err (BadField 103 2) ∷ []
unfolding edit_fields in_turn after_customs added_file put_a
of_custom_fields = refl

of_an_ignored_tag : edit_fields (0x81 ∷ 0x40 ∷ 3 ∷ codes "abc") ≡ Ok (ignored 8193 (codes "abc") ∷ [])
unfolding edit_fields in_turn
of_an_ignored_tag = refl

of_an_older_added_file : edit_fields (0x66 ∷ []) ≡ Err (UnsupportedTag 102 0)
unfolding edit_fields in_turn
of_an_older_added_file = refl

of_a_drop_after_an_add : edit_fields (0xC8 ∷ 1 ∷ 1 ∷ 0xC9 ∷ 1 ∷ 1 ∷ 0x66 ∷ 0xCA ∷ 1 ∷ []) ≡ Err (BadField 202 7)
unfolding edit_fields in_turn
of_a_drop_after_an_add = refl

of_a_great_level : edit_fields (2 ∷ 7 ∷ 6 ∷ 0x80 ∷ 2 ∷ 4 ∷ []) ≡ Err (BadField 6 2)
unfolding edit_fields in_turn
of_a_great_level = refl

of_a_cut_tag : edit_fields (2 ∷ 7 ∷ 0xC8 ∷ []) ≡ Err (BadField 0 2)
unfolding edit_fields in_turn
of_a_cut_tag = refl

-- Log 3 without a size and with 48 bytes synced, then all logs below 4 are forgotten.
of_tracked_logs :
    edit_fields (0x87 ∷ 0x40 ∷ 2 ∷ 3 ∷ 1 ∷ 0x87 ∷ 0x40 ∷ 4 ∷ 3 ∷ 2 ∷ 0x30 ∷ 1 ∷ 0x88 ∷ 0x40 ∷ 1 ∷ 4 ∷ [])
    ≡ Ok (wal_add 3 None ∷ wal_add 3 (Some 48) ∷ wal_delete 4 ∷ [])
unfolding edit_fields in_turn synced_sizes_at
of_tracked_logs = refl

-- The last size counts, and what follows the tag 1 in the slice, or the number, is passed over.
of_two_synced_sizes :
    edit_fields (0x87 ∷ 0x40 ∷ 8 ∷ 3 ∷ 2 ∷ 9 ∷ 2 ∷ 7 ∷ 1 ∷ 5 ∷ 5 ∷ 0x88 ∷ 0x40 ∷ 2 ∷ 4 ∷ 9 ∷ [])
    ≡ Ok (wal_add 3 (Some 7) ∷ wal_delete 4 ∷ [])
unfolding edit_fields in_turn synced_sizes_at
of_two_synced_sizes = refl

-- another tag, no end, a size that stands outside the slice, and a slice without a number
of_bad_tracked_logs :
    map (λ slice. edit_fields (2 ∷ 7 ∷ slice)) (
    (0x87 ∷ 0x40 ∷ 3 ∷ 3 ∷ 3 ∷ 1 ∷ []) ∷ (0x87 ∷ 0x40 ∷ 3 ∷ 3 ∷ 2 ∷ 9 ∷ []) ∷ (0x87 ∷ 0x40 ∷ 2 ∷ 3 ∷ 2 ∷ 9 ∷ 1 ∷ []) ∷ (0x88 ∷ 0x40 ∷ 0 ∷ []) ∷ [])
    ≡ Err (BadField 8199 2) ∷ Err (BadField 8199 2) ∷ Err (BadField 8199 2) ∷ Err (BadField 8200 2) ∷ []
unfolding edit_fields in_turn synced_sizes_at
of_bad_tracked_logs = refl
