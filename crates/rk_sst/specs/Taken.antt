-- The records of a table's next data block.
use Rattle.std.specs.Prelude.{◌≡◌, ℕ, ◌+◌, List, ◌++◌, map, Option, Result, Ok, Err}
use Rattle.rk_bytes.specs.declared.model.key.Record.{Record}
use Rattle.rk_bytes.specs.declared.model.table.TableRef.{TableRef}
use Rattle.rk_bytes.specs.Model.TableStatus.{DataEntry, record_in}
use Rattle.rk_table.specs.Left.{from_block}
use Rattle.rk_sst.specs.declared.error.SstErr.{SstErr}
use Rattle.rk_sst.specs.Errors.{IsCause}
use Rattle.rk_sst.specs.Rising.{last_given}

-- these records come first of those of the entries, and the others are those of the blocks after this one
pub record ComeFirst (bytes : List ℕ) (table : TableRef) (block : ℕ) (before : Option (List ℕ)) (entries : List DataEntry) (records : List Record) : Type 0 where
  pub rest : List DataEntry
  pub all : map (record_in table.family) entries ≡ records ++ map (record_in table.family) rest
  pub after : from_block bytes table (block + 1) (last_given before records) ≡ Ok rest

-- the records of the next block, or an error that says nothing of the table
abbrev pub TakesNext : List ℕ → TableRef → ℕ → Option (List ℕ) → List DataEntry → Result (List Record) SstErr → Type 0
TakesNext bytes table block before entries (Ok records) = ComeFirst bytes table block before entries records
TakesNext bytes table block before entries (Err error) = IsCause error
