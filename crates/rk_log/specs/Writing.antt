-- What contracts see of a log that is written.
use Rattle.std.specs.Prelude.{◌≡◌, ℕ, ◌%◌, ◌^◌, Bool, true, false, List, [], ◌∷◌, ◌++◌, replicate, if◌then◌else◌, nat_lt, Option, Some, None, Result, Ok, Err}
use Rattle.rk_bytes.specs.declared.model.log.EndKind.TheVariants.{Clean}
use Rattle.rk_bytes.specs.Model.LogItems.{Item, rec, end}
use Rattle.rk_bytes.specs.Model.WrittenLogs.{written_header_len, left_in_block}
use Rattle.rk_bytes.specs.declared.memory.Memory.{Memory}

-- the log's number, if its headers hold it, and its bytes so far
pub record Writing : Type 0 where
  pub number : Option ℕ
  pub bytes : List ℕ

-- the bytes are added, or where memory ran out some bytes are
abbrev pub Extends : List ℕ → List ℕ → Result (Unit {0}) Memory → List ℕ → Type 0
Extends old added (Ok done) new = new ≡ old ++ added
Extends old added (Err memory) new = (more : List ℕ) × (new ≡ old ++ more)

-- full, first, middle or last: by whether the fragment begins its record, and whether it ends it
abbrev pub part_type : Bool → Bool → ℕ
part_type true true = 1
part_type true false = 2
part_type false false = 3
part_type false true = 4

-- the zeros at this place, if a header has no place in the block any more
abbrev pub padding : Option ℕ → ℕ → List ℕ
padding number place = if nat_lt (left_in_block place) (written_header_len number) then replicate (left_in_block place) 0 else []

-- the reader's number has the low 32 bits of the log's, if its headers hold one
abbrev pub SameLow : ℕ → Option ℕ → Type 0
SameLow reader None = Unit {0}
SameLow reader (Some number) = reader % 2 ^ 32 ≡ number % 2 ^ 32

-- the items are records of these payloads, in order, and a clean end
abbrev pub GivesBack : List (List ℕ) → List Item → Type 0
GivesBack [] items = (place : ℕ) × (items ≡ end Clean place ∷ [])
GivesBack (payload ∷ payloads) items = (place : ℕ) × (others : List Item) × (items ≡ rec payload place ∷ others) × GivesBack payloads others
