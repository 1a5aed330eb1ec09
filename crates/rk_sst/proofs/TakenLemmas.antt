-- What is taken of a table's next data block.
use Rattle.std.proofs.Common.{◌≡◌, ℕ, zero, suc, ◌+◌, ◌<◌, List, [], ◌∷◌, ◌++◌, length, map, take, Option, Some, IfSome, Ok, Err, refl, sym, ◌∙◌, ap, arith}
use Rattle.std.specs.Prelude.{slice_get}
use Rattle.std.proofs.lemmas.List.{map-append}
use Rattle.std.proofs.lemmas.Option.{IfSome_then}
use Rattle.rk_bytes.specs.declared.model.block.IndexEntry.{IndexEntry}
use Rattle.rk_bytes.specs.declared.model.key.Record.{Record}
use Rattle.rk_bytes.specs.declared.model.table.TableRef.{TableRef}
use Rattle.rk_bytes.specs.Model.DiskImages.{Directory}
use Rattle.rk_bytes.specs.Model.TableFooter.{checked_block}
use Rattle.rk_bytes.specs.Model.Numbers.{AreBytes}
use Rattle.rk_bytes.specs.Model.TableStatus.{DataEntry, last_key, record_in}
use Rattle.rk_table.specs.Left.{from_block}
use Rattle.rk_table.specs.Rows.{AreBlockRecords}
use Rattle.rk_table.specs.Walks.{block_told}
use Rattle.rk_cache.specs.declared.fault.CacheFault.{CacheFault}
use Rattle.rk_cache.specs.declared.fault.CacheFault.TheVariants.{Trailer, Disk, Memory}
use Rattle.rk_cache.specs.Answers.{table_in, block_in, Gives}
use Rattle.rk_sst.specs.Errors.{block_err}
use Rattle.rk_sst.specs.Taken.{ComeFirst, TakesNext}
use Rattle.rk_sst.specs.Rising.{last_given}
use Rattle.rk_table.proofs.Callers.GoodTables.{block_at}
use Rattle.rk_sst.proofs.KeyLemmas.{block_entries_are}
use Rattle.rk_sst.proofs.RisingLemmas.{same_last}

-- an index has an entry at each number below its length
pub entry_there : (index : List IndexEntry) (n : ℕ) → n < length index → (at : IndexEntry) × (slice_get index n ≡ Some at)
entry_there [] n less = absurd (omega arith)
entry_there (at ∷ index) zero less = (at, refl)
entry_there (at ∷ index) (suc n) less = entry_there index n (omega arith)

-- Where what is left reads, the records of the next block come first of it.
pub come_first : (bytes : List ℕ) (table : TableRef) (number : ℕ) (before : Option (List ℕ)) (at : IndexEntry) (block : List ℕ) (entries : List DataEntry) (records : List Record) → slice_get table.index number ≡ Some at → AreBytes block
    → checked_block (take table.start bytes) at.block table.sum ≡ Ok block → AreBlockRecords table.family at.block.offset before block records → from_block bytes table number before ≡ Ok entries → ComeFirst bytes table number before entries records
come_first bytes table number before at block entries records there are handed is read =
    let next = block_at bytes table number before at entries there read in
    let front = next.first ∷ next.more in
    let block_is : next.block ≡ block = cc (next.handed, handed) in
    let told : block_told at.block.offset before block ≡ Ok front = ap (block_told at.block.offset before) (sym block_is) ∙ next.told in
    let same : is.entries ≡ front = cc (is.told, told) in
    let records_are : records ≡ map (record_in table.family) front = is.are ∙ ap (map (record_in table.family)) same in
    let last : last_given before records ≡ last_key front = ap (last_given before) records_are ∙ same_last table.family before front (block_entries_are at.block.offset before block front are told) in
    record {
      rest = next.later;
      all = ap (map (record_in table.family)) next.all ∙ map-append (record_in table.family) front next.later ∙ ap (λ l. l ++ map (record_in table.family) next.later) (sym records_are);
      after = ap (from_block bytes table (number + 1)) last ∙ next.rest;
    }

-- a block of a good table has no fault of its own
pub no_fault : {T : Type 0} (bytes_of : T → List ℕ) (told : Option Directory) (number block : ℕ) (table : TableRef) (before : Option (List ℕ)) (at : IndexEntry) (fault : CacheFault) → slice_get table.index block ≡ Some at
    → IfSome told (λ files. Gives bytes_of (block_in files number table.start at.block table.sum) (Err fault))
    → IfSome told (λ files. (entries : List DataEntry) → from_block (table_in files number) table block before ≡ Ok entries → TakesNext (table_in files number) table block before entries (Err (block_err at.block.offset fault)))
no_fault bytes_of told number block table before at fault there gives = IfSome_then told gives (λ files gives entries read. let next = block_at (table_in files number) table block before at entries there read in by files entries fault gives (next.block, next.handed))
  where
    by : (files : Directory) (entries : List DataEntry) (fault : CacheFault) → Gives bytes_of (block_in files number table.start at.block table.sum) (Err fault)
        → (bytes : List ℕ) × (checked_block (take table.start (table_in files number)) at.block table.sum ≡ Ok bytes) → TakesNext (table_in files number) table block before entries (Err (block_err at.block.offset fault))
    by files entries (Trailer why) gives handed = let no : Ok handed.0 ≡ Err why = sym handed.1 ∙ gives in absurd cc
    by files entries Disk gives handed = tt
    by files entries Memory gives handed = tt
