-- What is written of a field.
use Rattle.std.specs.Prelude.{◌≡◌, ℕ, ◌^◌, ◌<◌, List, ◌++◌, length, Result, Ok, Err}
use Rattle.rk_bytes.specs.declared.memory.Memory.{Memory}
use Rattle.rk_bytes.specs.Model.VersionEdit.{Field, comparator, compact_cursor, add_file, family_add, ignored}

-- the field's slices are short enough for a length of 32 bits
abbrev pub HasShortSlices : Field → Type 0
HasShortSlices (comparator name) = length name < 2 ^ 32
HasShortSlices (compact_cursor level key) = length key < 2 ^ 32
HasShortSlices (add_file file) = (length file.smallest < 2 ^ 32) × (length file.largest < 2 ^ 32)
HasShortSlices (family_add name) = length name < 2 ^ 32
HasShortSlices (ignored tag value) = length value < 2 ^ 32
HasShortSlices _ = Unit

-- the bytes are added, or where memory ran out some bytes are
abbrev pub Extends : List ℕ → List ℕ → Result (Unit {0}) Memory → List ℕ → Type 0
Extends old added (Ok done) new = new ≡ old ++ added
Extends old added (Err memory) new = (more : List ℕ) × (new ≡ old ++ more)
