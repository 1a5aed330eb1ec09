-- Write batches (db/write_batch.cc). The order of the tests, and which tags are refused, are this
-- project's own rules.
use Rattle.std.specs.Prelude.{◌≡◌, ◌⊎◌, ℕ, ◌+◌, ◌-◌, ◌^◌, ◌≤◌, Bool, not, ◌&&◌, ◌||◌, List, [], ◌∷◌, ◌++◌, length, take, drop, find, filter_map, slice_index, nat_lt, nat_le, ◌==◌, if◌then◌else◌, Option, Some, None, Result, Ok, Err, replicate, codes, refl}
use Rattle.std.specs.List.{list_any}
use Rattle.rk_bytes.specs.declared.model.key.Kind.{Kind}
use Rattle.rk_bytes.specs.declared.model.key.Kind.TheVariants.{Deletion, Value, Merge, SingleDeletion, RangeDeletion}
use Rattle.rk_bytes.specs.declared.model.key.Record.{Record}
use Rattle.rk_bytes.specs.declared.model.batch.BatchFault.{BatchFault}
use Rattle.rk_bytes.specs.declared.model.batch.BatchFault.TheVariants.{TooSmall, BadRecord, UnsupportedTag, WrongCount, SequenceTop}
use Rattle.rk_bytes.specs.Model.Numbers.{IsFixed32, IsFixed64, IsVarint32, IsPrefixed, Read, ◌>>=◌, little_endian, varint32_at, prefixed_at, reads_or, in_turn}
use Rattle.rk_bytes.specs.Model.InternalKey.{all_kinds, top_sequence}

-- A part of a batch has the place of its tag. A change is a record.
pub data Part : Type 0 where
  change : ℕ → Record → Part
  log_bytes : ℕ → List ℕ → Part
  noop : ℕ → Part

-- the record that a part is, if it is a change
abbrev pub change_in : Part → Option Record
change_in (change place r) = Some r
change_in _ = None

-- the records of the parts
abbrev pub changes : List Part → List Record
changes parts = filter_map change_in parts

-- how many changes the parts are
abbrev pub change_count : List Part → ℕ
change_count parts = length (changes parts)

-- the tag of a change in the default family
abbrev pub plain_tag : Kind → ℕ
plain_tag Deletion = 0x0
plain_tag Value = 0x1
plain_tag Merge = 0x2
plain_tag SingleDeletion = 0x7
plain_tag RangeDeletion = 0xF

-- the tag of a change that a family's id follows
abbrev pub family_tag : Kind → ℕ
family_tag Deletion = 0x4
family_tag Value = 0x5
family_tag Merge = 0x6
family_tag SingleDeletion = 0x8
family_tag RangeDeletion = 0xE

-- the kind that has this tag among its two
abbrev pub kind_of_tag : ℕ → Option Kind
kind_of_tag tag = find (λ kind. plain_tag kind == tag || family_tag kind == tag) all_kinds

-- a family's id follows the tag
abbrev pub names_family : ℕ → Bool
names_family tag = list_any (λ kind. family_tag kind == tag) all_kinds

-- prepared transactions (0x9 to 0xC), and blob files, wide columns and what came later (0x10 to 0x1F)
abbrev pub is_unsupported_batch_tag : ℕ → Bool
is_unsupported_batch_tag tag = nat_le 0x9 tag && nat_le tag 0xC || nat_le 0x10 tag && nat_le tag 0x1F

-- the family of a change, after its tag
abbrev pub family_at : ℕ → List ℕ → Read ℕ
family_at tag bytes = if names_family tag then varint32_at bytes else Ok (0, bytes)

-- the value of a change of this kind, after its key: empty for a deletion
abbrev pub value_at : Kind → List ℕ → Read (List ℕ)
value_at Deletion bytes = Ok ([], bytes)
value_at SingleDeletion bytes = Ok ([], bytes)
value_at _ bytes = prefixed_at bytes

-- the change of this kind and sequence number, after its tag
abbrev pub change_at : ℕ → ℕ → ℕ → Kind → List ℕ → Read Part
change_at place sequence tag kind bytes = do
  family ← family_at tag bytes
  key ← prefixed_at family.1
  value ← value_at kind key.1
  Ok (change place (record { family = family.0; key = key.0; sequence = sequence; kind = kind; value = value.0 }), value.1)

-- the slice of bytes for the log alone, after its tag
abbrev pub log_bytes_at : ℕ → List ℕ → Read Part
log_bytes_at place bytes = do
  slice ← prefixed_at bytes
  Ok (log_bytes place slice.0, slice.1)

-- the part with this tag, after the tag. It takes the sequence number if it is a change.
abbrev pub part_of_tag : ℕ → ℕ → ℕ → List ℕ → Result (Part × List ℕ) BatchFault
part_of_tag place sequence tag bytes =
    if tag == 0x3 then reads_or (BadRecord place) (log_bytes_at place bytes)
    else (if tag == 0xD then Ok (noop place, bytes)
    else (if is_unsupported_batch_tag tag then Err (UnsupportedTag tag)
    else elim (kind_of_tag tag) [
      | Some kind ↦ reads_or (BadRecord place) (change_at place sequence tag kind bytes)
      | None ↦ Err (BadRecord place)
    ]))

-- The part at the front of a batch's last bytes. A change's sequence number is the batch's and the number
-- of changes before it.
abbrev pub batch_part_at : ℕ → ℕ → List Part → List ℕ → Result (Part × List ℕ) BatchFault
batch_part_at batch_len sequence before bytes =
    part_of_tag (batch_len - length bytes) (sequence + change_count before) (slice_index bytes 0) (drop 1 bytes)

-- the batch's sequence number
abbrev pub batch_sequence : List ℕ → ℕ
batch_sequence bytes = little_endian (take 8 bytes)

-- the count of changes that the batch states
abbrev pub stated_count : List ℕ → ℕ
stated_count bytes = little_endian (take 4 (drop 8 bytes))

-- the parts after the 12 bytes of the header
abbrev pub parts_after_header : List ℕ → Result (List Part) BatchFault
parts_after_header bytes = in_turn (batch_part_at (length bytes) (batch_sequence bytes)) (length bytes) [] (drop 12 bytes)

-- a batch's sequence number, and its parts
pub record Batch : Type 0 where
  pub sequence : ℕ
  pub parts : List Part

-- The batch's sequence number is above the greatest one, or its last change's is.
abbrev pub passes_top : ℕ → ℕ → Bool
passes_top sequence count = nat_lt top_sequence sequence || nat_lt (top_sequence + 1) (sequence + count)

-- the batch that bytes with these parts are, or the fault of their count or of their sequence numbers
abbrev pub batch_with : List ℕ → List Part → Result Batch BatchFault
batch_with bytes parts =
    if not (stated_count bytes == change_count parts) then Err (WrongCount (stated_count bytes) (change_count parts))
    else (if passes_top (batch_sequence bytes) (change_count parts) then Err SequenceTop
    else Ok (record { sequence = batch_sequence bytes; parts = parts }))

-- the batch that the bytes are, or the first fault
unfoldable pub batch_of : List ℕ → Result Batch BatchFault
batch_of bytes = if nat_lt (length bytes) 12 then Err TooSmall else parts_after_header bytes >>= batch_with bytes

-- A change's tag, and the family's id after the tag that says so. Else the family is 0.
abbrev pub SpellsFamily : List ℕ → Kind → ℕ → Type 0
SpellsFamily bytes kind family =
    (bytes ≡ plain_tag kind ∷ []) × (family ≡ 0)
    ⊎ (id : List ℕ) × (bytes ≡ family_tag kind ∷ id) × IsVarint32 id family

-- A deletion has an empty value, and no bytes for it.
abbrev pub SpellsChangeValue : List ℕ → Kind → List ℕ → Type 0
SpellsChangeValue bytes Deletion value = (bytes ≡ []) × (value ≡ [])
SpellsChangeValue bytes SingleDeletion value = (bytes ≡ []) × (value ≡ [])
SpellsChangeValue bytes _ value = IsPrefixed bytes value

-- The bytes are a change with this sequence number: its tag and family, its key and its value.
pub record SpellsChange (sequence : ℕ) (bytes : List ℕ) (r : Record) : Type 0 where
  pub family_bytes : List ℕ
  pub key_bytes : List ℕ
  pub value_bytes : List ℕ
  pub spelled : bytes ≡ family_bytes ++ (key_bytes ++ value_bytes)
  pub family : SpellsFamily family_bytes r.kind r.family
  pub key : IsPrefixed key_bytes r.key
  pub value : SpellsChangeValue value_bytes r.kind r.value
  pub sequence_is : r.sequence ≡ sequence

-- The bytes at a place are this part. If it is a change, it has this sequence number.
abbrev pub SpellsPart : ℕ → ℕ → List ℕ → Part → Type 0
SpellsPart place sequence bytes (change at r) = (at ≡ place) × SpellsChange sequence bytes r
SpellsPart place sequence bytes (log_bytes at slice) = (at ≡ place) × (spelled : List ℕ) × (bytes ≡ 0x3 ∷ spelled) × IsPrefixed spelled slice
SpellsPart place sequence bytes (noop at) = (at ≡ place) × (bytes ≡ 0xD ∷ [])

-- The bytes from a place on are these parts, one after another. The first change has this sequence
-- number, and each change takes one.
abbrev pub SpellsParts : ℕ → ℕ → List ℕ → List Part → Type 0
SpellsParts place sequence bytes [] = bytes ≡ []
SpellsParts place sequence bytes (part ∷ parts) =
    (spelled : List ℕ) × (rest : List ℕ) × (bytes ≡ spelled ++ rest)
    × SpellsPart place sequence spelled part
    × SpellsParts (place + length spelled) (sequence + change_count (part ∷ [])) rest parts

-- The bytes are this batch: its sequence number, how many changes it has, and its parts.
pub record IsBatch (bytes : List ℕ) (batch : Batch) : Type 0 where
  pub sequence_bytes : List ℕ
  pub count_bytes : List ℕ
  pub part_bytes : List ℕ
  pub spelled : bytes ≡ sequence_bytes ++ (count_bytes ++ part_bytes)
  pub sequence : IsFixed64 sequence_bytes batch.sequence
  pub count : IsFixed32 count_bytes (change_count batch.parts)
  pub parts : SpellsParts 12 batch.sequence part_bytes batch.parts
  pub below_top : batch.sequence ≤ top_sequence
  pub last_below_top : batch.sequence + change_count batch.parts ≤ top_sequence + 1

-- puts of `a`, `b` and `c` from sequence number 5 on, with the count that is stated
three_puts : ℕ → List ℕ
three_puts count =
    (5 ∷ 0 ∷ 0 ∷ 0 ∷ 0 ∷ 0 ∷ 0 ∷ 0 ∷ count ∷ 0 ∷ 0 ∷ 0 ∷ []) ++ (1 ∷ 1 ∷ codes "a") ++ (1 ∷ codes "1") ++ (1 ∷ 1 ∷ codes "b") ++ (1 ∷ codes "2")
    ++ (1 ∷ 1 ∷ codes "c") ++ (1 ∷ codes "3")

of_three_puts : batch_of (three_puts 3) ≡ Ok (record {
  sequence = 5;
  parts =
      change 12 (record { family = 0; key = codes "a"; sequence = 5; kind = Value; value = codes "1" })
      ∷ change 17 (record { family = 0; key = codes "b"; sequence = 6; kind = Value; value = codes "2" })
      ∷ change 22 (record { family = 0; key = codes "c"; sequence = 7; kind = Value; value = codes "3" }) ∷ [];
})
unfolding batch_of in_turn three_puts
of_three_puts = refl

of_a_wrong_count : batch_of (three_puts 2) ≡ Err (WrongCount 2 3)
unfolding batch_of in_turn three_puts
of_a_wrong_count = refl

-- a batch at the greatest sequence number, with the count that is stated and these records
at_top : ℕ → List ℕ → List ℕ
at_top count records = (0xFF ∷ 0xFF ∷ 0xFF ∷ 0xFF ∷ 0xFF ∷ 0xFF ∷ 0xFF ∷ 0 ∷ count ∷ 0 ∷ 0 ∷ 0 ∷ []) ++ records

of_no_change : batch_of (at_top 0 (0xD ∷ 3 ∷ 2 ∷ codes "xy")) ≡ Ok (record { sequence = 2 ^ 56 - 1; parts = noop 12 ∷ log_bytes 13 (codes "xy") ∷ [] })
unfolding batch_of in_turn at_top
of_no_change = refl

of_the_last_change : batch_of (at_top 1 (4 ∷ 2 ∷ 1 ∷ codes "a")) ≡ Ok (record {
  sequence = 2 ^ 56 - 1;
  parts = change 12 (record { family = 2; key = codes "a"; sequence = 2 ^ 56 - 1; kind = Deletion; value = [] }) ∷ [];
})
unfolding batch_of in_turn at_top
of_the_last_change = refl

of_one_change_too_many : batch_of (at_top 2 ((0 ∷ 1 ∷ codes "a") ++ (0 ∷ 1 ∷ codes "b"))) ≡ Err SequenceTop
unfolding batch_of in_turn at_top
of_one_change_too_many = refl

-- a batch without a change, one above the greatest sequence number, with the count that is stated
above_top : ℕ → List ℕ
above_top count = replicate 7 0 ++ 1 ∷ count ∷ 0 ∷ 0 ∷ 0 ∷ []

of_a_sequence_number_above_the_top : batch_of (above_top 0) ≡ Err SequenceTop
unfolding batch_of in_turn above_top
of_a_sequence_number_above_the_top = refl

wrong_count_before_sequence_top : batch_of (above_top 1) ≡ Err (WrongCount 1 0)
unfolding batch_of in_turn above_top
wrong_count_before_sequence_top = refl

of_a_deletion_in_a_family : batch_of (1 ∷ 0 ∷ 0 ∷ 0 ∷ 0 ∷ 0 ∷ 0 ∷ 0 ∷ 1 ∷ 0 ∷ 0 ∷ 0 ∷ 4 ∷ 7 ∷ 1 ∷ codes "a")
    ≡ Ok (record { sequence = 1; parts = change 12 (record { family = 7; key = codes "a"; sequence = 1; kind = Deletion; value = [] }) ∷ [] })
unfolding batch_of in_turn
of_a_deletion_in_a_family = refl

-- The count is wrong as well, but is looked at later.
of_a_cut_record : batch_of (at_top 0 (0xD ∷ 1 ∷ 1 ∷ 0x61 ∷ 2 ∷ codes "x")) ≡ Err (BadRecord 13)
unfolding batch_of in_turn at_top
of_a_cut_record = refl

of_a_prepared_transaction : batch_of (at_top 0 (0xD ∷ 9 ∷ [])) ≡ Err (UnsupportedTag 9)
unfolding batch_of in_turn at_top
of_a_prepared_transaction = refl

of_eleven_bytes : batch_of (replicate 11 0) ≡ Err TooSmall
unfolding batch_of
of_eleven_bytes = refl

-- a record of family 0 or 3
of_family : ℕ → ℕ → Kind → List ℕ → Record
of_family family sequence kind value = record { family = family; key = codes "k"; sequence = sequence; kind = kind; value = value }

-- a merge, a single deletion and a range deletion, each in the default family and in another
of_other_kinds : batch_of ((1 ∷ 0 ∷ 0 ∷ 0 ∷ 0 ∷ 0 ∷ 0 ∷ 0 ∷ 6 ∷ 0 ∷ 0 ∷ 0 ∷ []) ++ (2 ∷ 1 ∷ codes "k" ++ 1 ∷ codes "m") ++ (6 ∷ 3 ∷ 1 ∷ codes "k" ++ 1 ∷ codes "m") ++ (7 ∷ 1 ∷ codes "k") ++ (8 ∷ 3 ∷ 1 ∷ codes "k")
    ++ (15 ∷ 1 ∷ codes "k" ++ 1 ∷ codes "z") ++ (14 ∷ 3 ∷ 1 ∷ codes "k" ++ 1 ∷ codes "z")) ≡ Ok (record {
      sequence = 1;
      parts =
          change 12 (of_family 0 1 Merge (codes "m")) ∷ change 17 (of_family 3 2 Merge (codes "m")) ∷ change 23 (of_family 0 3 SingleDeletion [])
          ∷ change 26 (of_family 3 4 SingleDeletion []) ∷ change 30 (of_family 0 5 RangeDeletion (codes "z")) ∷ change 35 (of_family 3 6 RangeDeletion (codes "z")) ∷ [];
    })
unfolding batch_of in_turn of_family
of_other_kinds = refl
