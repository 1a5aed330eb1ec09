-- The records of a data block.
use Rattle.std.specs.Prelude.{◌≡◌, ℕ, List, map, Option, Result, Ok, Err}
use Rattle.rk_bytes.specs.declared.model.key.Record.{Record}
use Rattle.rk_bytes.specs.Model.TableStatus.{DataEntry, record_in}
use Rattle.rk_table.specs.declared.status.WalkErr.{WalkErr}
use Rattle.rk_table.specs.Told.{Tells}
use Rattle.rk_table.specs.Walks.{block_told}
use Rattle.rk_table.specs.Blocks.{Rise}

-- The records are those of the block, under this family. Their internal keys rise, from above the key before.
pub record AreBlockRecords (family place : ℕ) (before : Option (List ℕ)) (block : List ℕ) (records : List Record) : Type 0 where
  pub entries : List DataEntry
  pub told : block_told place before block ≡ Ok entries
  pub are : records ≡ map (record_in family) entries
  pub rise : Rise before entries

-- the records of a block, or its first fault
abbrev pub GivesRecords : ℕ → ℕ → Option (List ℕ) → List ℕ → Result (List Record) WalkErr → Type 0
GivesRecords family place before block (Ok records) = AreBlockRecords family place before block records
GivesRecords family place before block (Err error) = Tells (Err error) (block_told place before block)
