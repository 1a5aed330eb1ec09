-- What contracts see of a batch that is built.
use Rattle.std.specs.Prelude.{◌≡◌, ◌⊎◌, ℕ, ◌+◌, ◌^◌, ◌<◌, ◌≤◌, List, [], ◌∷◌, ◌++◌, length, drop, flat_map, Result, Ok, Err}
use Rattle.rk_bytes.specs.declared.memory.Memory.{Memory}
use Rattle.rk_bytes.specs.declared.model.key.Kind.{Kind}
use Rattle.rk_bytes.specs.declared.model.key.Kind.TheVariants.{Deletion, SingleDeletion}
use Rattle.rk_bytes.specs.declared.model.key.Record.{Record}
use Rattle.rk_bytes.specs.Model.Numbers.{fixed_of}
use Rattle.rk_bytes.specs.Model.InternalKey.{top_sequence}
use Rattle.rk_bytes.specs.Model.WriteBatch.{Part, change, changes}
use Rattle.rk_bytes.specs.Model.Writers.{change_bytes}
use Rattle.rk_batch.specs.Seen.{parts_left, parts_or_none}

-- the sequence number of a batch, and its records so far
pub record Building : Type 0 where
  pub sequence : ℕ
  pub records : List Record

-- the record that is added next, with the sequence number after those of the records before it
abbrev pub next_record : Building → ℕ → Kind → List ℕ → List ℕ → Record
next_record building family kind key value =
    record { family = family; key = key; sequence = building.sequence + length building.records; kind = kind; value = value }

-- a deletion has an empty value
abbrev pub SuitsKind : Kind → List ℕ → Type 0
SuitsKind Deletion value = value ≡ []
SuitsKind SingleDeletion value = value ≡ []
SuitsKind _ value = Unit {0}

-- the parts that records are, each at the place where its bytes begin: the first one at this place
abbrev pub parts_from : ℕ → List Record → List Part
parts_from place [] = []
parts_from place (r ∷ records) = change place r ∷ parts_from (place + length (change_bytes r)) records

-- a record, whose sequence number is left to its batch
abbrev pub record_of : ℕ → Kind → List ℕ → List ℕ → Record
record_of family kind key value = record { family = family; key = key; sequence = 0; kind = kind; value = value }

-- the records of a batch with this sequence number, behind the 12 bytes of its header
abbrev pub records_in : ℕ → List ℕ → List Record
records_in sequence bytes = changes (parts_or_none (parts_left (length bytes) sequence (drop 12 bytes)))

-- The records can be written, and the first has this sequence number.
abbrev pub AreWritable : ℕ → List Record → Type 0
AreWritable sequence [] = Unit {0}
AreWritable sequence (r ∷ records) =
    (r.sequence ≡ sequence) × (r.family < 2 ^ 32) × (length r.key < 2 ^ 32) × (length r.value < 2 ^ 32) × SuitsKind r.kind r.value × AreWritable (sequence + 1) records

-- the header of a batch, with its sequence number and its count, and the bytes behind it
abbrev pub with_header : ℕ → ℕ → List ℕ → List ℕ
with_header sequence count bytes = fixed_of 8 sequence ++ fixed_of 4 count ++ bytes

-- The bytes are those of a batch with so many records, but state that it has none.
pub record IsBuilt (sequence count : ℕ) (bytes : List ℕ) : Type 0 where
  pub spelled : bytes ≡ with_header sequence 0 (flat_map change_bytes (records_in sequence bytes))
  pub counted : count ≡ length (records_in sequence bytes)
  pub few : count < 2 ^ 32
  pub writable : AreWritable sequence (records_in sequence bytes)
  pub below_top : (count ≡ 0) ⊎ (sequence + count ≤ top_sequence + 1)

-- the bytes are added, or where memory ran out some bytes are
abbrev pub Extends : List ℕ → List ℕ → Result (Unit {0}) Memory → List ℕ → Type 0
Extends old added (Ok done) new = new ≡ old ++ added
Extends old added (Err memory) new = (more : List ℕ) × (new ≡ old ++ more)
