-- What is read of an edit, as the definition of version edits has it.
use Rattle.std.specs.Prelude.{ℕ, List, [], length, if◌then◌else◌, Option, Some, None, Result, Ok, Err}
use Rattle.std.specs.List.{last_or}
use Rattle.rk_bytes.specs.declared.model.edit.EditFault.{EditFault}
use Rattle.rk_bytes.specs.Model.Numbers.{Read, ◌>>=◌, prefixed_at}
use Rattle.rk_bytes.specs.Model.VersionEdit.{Field, ignored, synced_sizes_at, reads, value_reader, is_passed_over}
use Rattle.rk_bytes.specs.Reading.{Reading, rest_of}

-- what a call read, as what it stands for, and the bytes after it
abbrev pub read_as : {A B F : Type 0} → (A → B) → Result A F → Reading → Result (B × List ℕ) F
read_as meaning (Ok x) after = Ok (meaning x, rest_of after)
read_as meaning (Err fault) after = Err fault

-- these bytes, where what stands before them was passed over
abbrev pub left_over : {F : Type 0} → Result (Unit {0}) F → List ℕ → Result (List ℕ) F
left_over (Ok done) rest = Ok rest
left_over (Err fault) rest = Err fault

abbrev pub left_by : {F : Type 0} → Result (Unit {0}) F → Reading → Result (List ℕ) F
left_by passed after = left_over passed (rest_of after)

-- the synced size that is stated last
abbrev pub synced_at : List ℕ → Read (Option ℕ)
synced_at bytes = do
  sizes ← synced_sizes_at (length bytes) bytes
  Ok (last_or None sizes.0, sizes.1)

-- a field that is there
abbrev pub some_field : Read Field → Read (Option Field)
some_field (Ok one) = Ok (Some one.0, one.1)
some_field (Err fault) = Err fault

-- the field with this tag, or none where no field has it
abbrev pub known_at : ℕ → List ℕ → Read (Option Field)
known_at tag bytes =
    if is_passed_over tag then some_field (reads (ignored tag) prefixed_at bytes)
    else elim (value_reader tag) [
      | Some value_at ↦ some_field (value_at bytes)
      | None ↦ Ok (None, bytes)
    ]

-- only whether the fields were read
abbrev pub whether_read : Result (List Field) EditFault → Result (Unit {0}) EditFault
whether_read (Ok fields) = Ok tt
whether_read (Err fault) = Err fault

-- what was read, and nothing where it wasn't
abbrev pub fields_or_none : Result (List Field) EditFault → List Field
fields_or_none (Ok fields) = fields
fields_or_none (Err fault) = []
