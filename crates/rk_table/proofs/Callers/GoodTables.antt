-- The data records of a good table, and what is read of its next data block.
use Rattle.std.proofs.Common.{◌≡◌, ℕ, zero, suc, ◌+◌, Bool, true, List, [], ◌∷◌, ◌++◌, map, take, drop, Option, Some, None, Result, Ok, refl, sym, ◌∙◌, ap, subst}
use Rattle.std.specs.Prelude.{slice_get}
use Rattle.rk_bytes.specs.declared.model.block.IndexEntry.{IndexEntry}
use Rattle.rk_bytes.specs.declared.model.table.TableRef.{TableRef}
use Rattle.rk_bytes.specs.declared.model.table.TableWhy.TheVariants.{BadSeparator}
use Rattle.rk_bytes.specs.Model.Numbers.{◌>>=◌}
use Rattle.rk_bytes.specs.Model.BlockEntries.{Entry, with_fault, block_entries}
use Rattle.rk_bytes.specs.Model.TableFooter.{checked_block, footer_of, footer_start}
use Rattle.rk_bytes.specs.Model.TableStatus.{TableFault, damaged, DataEntry, Good, footer_status, trailer_status, block_status, held, records_after, last_key, are_separated, data_block, data_records, record_in, head_with, good, is_set, user_separators, reader_of, table_with, table_status}
use Rattle.rk_bytes.proofs.Callers.Readings.{both_steps, with_fault_ok, taken}
use Rattle.rk_table.specs.Walks.{block_told}
use Rattle.rk_table.specs.Stages.{separator_before}
use Rattle.rk_table.specs.Left.{blocks_of, from_block}
use Rattle.rk_table.proofs.DataLemmas.{later_is}

-- a good table's records
pub good_entries : (bytes : List ℕ) (g : Good) → table_status bytes ≡ Ok g → (entries : List DataEntry) × (from_block bytes g.table 0 None ≡ Ok entries) × (g.records ≡ map (record_in g.table.family) entries)
unfolding table_status table_with
good_entries bytes g e =
    both_steps (with_fault (footer_status (footer_start bytes)) (footer_of bytes)) _ g e λ footer read e1.
    both_steps (head_with (reader_of bytes footer) footer) _ g e1 λ head read' e2.
    both_steps (data_records (reader_of bytes footer) (is_set (user_separators head.properties)) None None head.index) _ g e2 λ entries read'' e3.
    let made = good footer head.properties head.ranges head.index entries in
    let same : made ≡ g = cc in
    subst (λ (g : Good). (entries : List DataEntry) × (from_block bytes g.table 0 None ≡ Ok entries) × (g.records ≡ map (record_in g.table.family) entries)) same (entries, read'', refl)

-- What is read of the next data block: its bytes, and its records before the others.
pub record NextBlock (bytes : List ℕ) (table : TableRef) (number : ℕ) (before : Option (List ℕ)) (at : IndexEntry) (entries : List DataEntry) : Type 0 where
  pub block : List ℕ
  pub handed : checked_block (take table.start bytes) at.block table.sum ≡ Ok block
  pub first : DataEntry
  pub more : List DataEntry
  pub later : List DataEntry
  pub told : block_told at.block.offset before block ≡ Ok (first ∷ more)
  pub rest : from_block bytes table (number + 1) (last_key (first ∷ more)) ≡ Ok later
  pub all : entries ≡ (first ∷ more) ++ later

separated_some : (by_user : Bool) (lower : Option (List ℕ)) (upper : List ℕ) (records : List DataEntry) → are_separated by_user lower upper records ≡ true → (first : DataEntry) × (more : List DataEntry) × (records ≡ first ∷ more)
separated_some by_user lower upper [] e = absurd cc
separated_some by_user lower upper (first ∷ more) e = (first, more, refl)

pub next_block : (bytes : List ℕ) (table : TableRef) (number : ℕ) (before : Option (List ℕ)) (at : IndexEntry) (index : List IndexEntry) (entries : List DataEntry) → drop number table.index ≡ at ∷ index → from_block bytes table number before ≡ Ok entries → NextBlock bytes table number before at entries
next_block bytes table number before at index entries dropped e =
    let block_of = blocks_of bytes table in
    let lower = separator_before number table.index in
    let (dropped', separator) = later_is table.index index number at dropped in
    let e' : data_records block_of table.user_keys before lower (at ∷ index) ≡ Ok entries = ap (λ (index : List IndexEntry). data_records block_of table.user_keys before lower index) (sym dropped) ∙ e in
    both_steps (data_block block_of table.user_keys before lower at) _ entries e' λ records read e1.
    both_steps (data_records block_of table.user_keys (last_key records) (Some at.separator) index) _ entries e1 λ later read' e2.
    both_steps (held block_of block_status block_entries at.block) _ records read λ found read2 e3.
    both_steps (block_of at.block) _ found read2 λ block read3 e4.
    both_steps (records_after at.block.offset before found) _ records e3 λ told read4 e5.
    let (test, same) = taken (are_separated table.user_keys lower at.separator told) (damaged BadSeparator at.block.offset) told records e5 in
    let (first, more, is) = separated_some table.user_keys lower at.separator told test in
    let records_are : records ≡ first ∷ more = sym same ∙ is in
    let joined : records ++ later ≡ entries = cc in
    record {
      block = block;
      handed = with_fault_ok (trailer_status at.block.offset) (checked_block (take table.start bytes) at.block table.sum) block read3;
      first = first;
      more = more;
      later = later;
      told = ap (λ (r : Result (List (Entry (List ℕ))) TableFault). r >>= (λ entries. records_after at.block.offset before entries)) e4 ∙ read4 ∙ ap Ok is;
      rest = (λ i. data_records block_of table.user_keys (last_key (sym records_are i)) (separator i) (dropped' i)) ∙ read';
      all = sym joined ∙ ap (λ (records : List DataEntry). records ++ later) records_are;
    }

-- the entry of an index at a number
entry_at_number : (n : ℕ) (index : List IndexEntry) (at : IndexEntry) → slice_get index n ≡ Some at → (later : List IndexEntry) × (drop n index ≡ at ∷ later)
entry_at_number n [] at e = absurd cc
entry_at_number zero (first ∷ index) at e = let same : first ≡ at = cc in (index, ap (λ (at : IndexEntry). at ∷ index) same)
entry_at_number (suc n) (first ∷ index) at e = entry_at_number n index at e

-- the same of the entry at a number
pub block_at : (bytes : List ℕ) (table : TableRef) (number : ℕ) (before : Option (List ℕ)) (at : IndexEntry) (entries : List DataEntry) → slice_get table.index number ≡ Some at → from_block bytes table number before ≡ Ok entries → NextBlock bytes table number before at entries
block_at bytes table number before at entries there e =
    let (later, dropped) = entry_at_number number table.index at there in
    next_block bytes table number before at later entries dropped e
