-- What is read of a batch, as the definition of batches has it.
use Rattle.std.specs.Prelude.{ℕ, Bool, List, if◌then◌else◌, Option, Some, None, option_map, Result, Ok, Err}
use Rattle.rk_bytes.specs.declared.model.number.NumFault.{NumFault}
use Rattle.rk_bytes.specs.declared.model.batch.BatchFault.{BatchFault}
use Rattle.rk_bytes.specs.declared.model.batch.BatchFault.TheVariants.{BadRecord}
use Rattle.rk_bytes.specs.declared.model.key.Kind.{Kind}
use Rattle.rk_bytes.specs.Model.Numbers.{Read, ◌>>=◌, varint32_at, prefixed_at, reads_or}
use Rattle.rk_bytes.specs.Model.WriteBatch.{Part, change, log_bytes, noop, kind_of_tag, names_family, value_at, change_at}
use Rattle.rk_bytes.specs.Reading.{Reading, rest_of}
use Rattle.rk_batch.specs.declared.part.RawPart.{RawPart}
use Rattle.rk_batch.specs.declared.part.RawPart.TheVariants.{Change, LogBytes, Noop}

-- the part at a place; a change has this sequence number
abbrev pub part_at : ℕ → ℕ → RawPart → Part
part_at place sequence (Change family kind key value) = change place (record { family = family; key = key.now; sequence = sequence; kind = kind; value = value.now })
part_at place sequence (LogBytes bytes) = log_bytes place bytes.now
part_at place sequence Noop = noop place

-- the part that was read, and the bytes after it
abbrev pub raw_read : ℕ → ℕ → Result RawPart NumFault → Reading → Read Part
raw_read place sequence (Ok raw) after = Ok (part_at place sequence raw, rest_of after)
raw_read place sequence (Err fault) after = Err fault

abbrev pub part_read : ℕ → ℕ → Result RawPart BatchFault → Reading → Result (Part × List ℕ) BatchFault
part_read place sequence (Ok raw) after = Ok (part_at place sequence raw, rest_of after)
part_read place sequence (Err fault) after = Err fault

-- the family of a change, which may be named
abbrev pub family_read : Bool → List ℕ → Read ℕ
family_read named bytes = if named then varint32_at bytes else Ok (0, bytes)

-- the change after its tag
abbrev pub change_read : ℕ → ℕ → Bool → Kind → List ℕ → Read Part
change_read place sequence named kind bytes = do
  family ← family_read named bytes
  key ← prefixed_at family.1
  value ← value_at kind key.1
  Ok (change place (record { family = family.0; key = key.0; sequence = sequence; kind = kind; value = value.0 }), value.1)

-- the kind of the changes with this tag, and whether the tag names a family
abbrev pub kind_with_tag : ℕ → Option (Kind × Bool)
kind_with_tag tag = option_map (λ kind. (kind, names_family tag)) (kind_of_tag tag)

-- the change with this tag, where a kind has it
abbrev pub tagged_read : ℕ → ℕ → ℕ → List ℕ → Result (Part × List ℕ) BatchFault
tagged_read place sequence tag bytes = elim (kind_of_tag tag) [
  | Some kind ↦ reads_or (BadRecord place) (change_at place sequence tag kind bytes)
  | None ↦ Err (BadRecord place)
]
