-- A table from its parts.
use Rattle.std.specs.Prelude.{map}
use Rattle.std.proofs.Common.{◌≡◌, ℕ, ◌+◌, ◌<◌, Bool, true, false, List, [], ◌∷◌, ◌++◌, length, Option, Some, None, refl, sym, ap, ◌∙◌, arith}
use Rattle.std.proofs.lemmas.List.{length-map}
use Rattle.std.proofs.lemmas.List.Sums.{sum_by-append}
use Rattle.rk_bytes.specs.declared.model.block.RangeDel.{RangeDel}
use Rattle.rk_bytes.specs.declared.model.key.Record.{Record}
use Rattle.rk_bytes.specs.Model.InternalKey.{internal_key}
use Rattle.rk_bytes.specs.Model.Writers.{KeyValue, TableContents, block_bytes, data_entries, grouped, joined_table, metaindex_block, properties_block, range_blocks, table_bytes}
use Rattle.rk_block.specs.Building.{Building, built_block}
use Rattle.rk_tablew.specs.declared.properties.Sizes.{Sizes}
use Rattle.rk_tablew.specs.Data.{DataEnds, IsData, blocks_with, is_full}
use Rattle.rk_tablew.specs.Parts.{EndsWith, plain_entries, size_entries}
use Rattle.rk_tablew.specs.Writing.{IsWriting, RangesDone, TableDone, contents_of, deletion_entries, keys_len, record_entries, sizes_if, table_with, values_len}

-- there is no range deletion
pub RangesDone-none : (ranges : Building) (count : ℕ) → count ≡ 0 → RangesDone ranges count None
RangesDone-none ranges count none = record { done = by }
  where
    by : (entries : List KeyValue) → ranges ≡ record { restart_every = 1; entries = entries } → count ≡ length entries → [] ≡ range_blocks entries
    by [] is counted = refl
    by (entry ∷ entries) is counted = absurd (omega arith)

-- there is one
pub RangesDone-some : (ranges : Building) (count : ℕ) (block : List ℕ) → 0 < count → block ≡ built_block ranges → RangesDone ranges count (Some block)
RangesDone-some ranges count block some built = record { done = by }
  where
    by : (entries : List KeyValue) → ranges ≡ record { restart_every = 1; entries = entries } → count ≡ length entries → block ∷ [] ≡ range_blocks entries
    by [] is counted = absurd (omega arith)
    by (entry ∷ entries) is counted = ap (λ block. block ∷ []) (built ∙ ap built_block is)

-- all parts
pub TableDone-from : (out : List ℕ) (index block ranges : Building) (record_count range_count family : ℕ) (name : List ℕ) (sizes : Option Sizes) (table blocks index_block : List ℕ) (ranges_block : Option (List ℕ)) (properties : List ℕ)
    → ((entries : List KeyValue) → IsData entries out index block → record_count ≡ length entries → DataEnds entries blocks index_block) → RangesDone ranges range_count ranges_block
    → properties ≡ block_bytes 1 (plain_entries family name (record_count + range_count) ++ size_entries sizes) → EndsWith blocks ranges_block properties index_block table
    → TableDone out index block ranges record_count range_count family name sizes table
TableDone-from out index block ranges record_count range_count family name sizes table blocks index_block ranges_block properties data_ends ranges_done properties_are ends = record {
  done = λ entries deletions d counted ranges_are ranges_counted.
      let e = data_ends entries d counted in
      let r = ranges_done.done deletions ranges_are ranges_counted in
      let data_blocks = blocks_with (grouped is_full entries) in
      ends.joined data_blocks e.written
      ∙ (λ i. joined_table (data_blocks ++ r i ++ properties_are i ∷ []) (metaindex_block data_blocks (r i) (properties_are i)) (e.indexed i));
}

-- a record's family isn't in its entry
entries-any_family : (family : ℕ) (records : List Record) → map (λ (r : Record). (internal_key r.key r.sequence r.kind, r.value)) (map (λ (r : Record). record r { family = family }) records) ≡ record_entries records
entries-any_family family [] = refl
entries-any_family family (r ∷ records) = ap (λ entries. (internal_key r.key r.sequence r.kind, r.value) ∷ entries) (entries-any_family family records)

-- the table is the one that is written of the contents
pub table-done : (states : Bool) (records : List Record) (deletions : List RangeDel) (failed : Bool) (out : List ℕ) (index block ranges : Building) (record_count range_count family : ℕ) (name : List ℕ) (sizes : Sizes) (table : List ℕ)
    → IsWriting records deletions out index block ranges record_count range_count sizes.keys sizes.values → TableDone out index block ranges record_count range_count family name (sizes_if states sizes) table
    → table ≡ table_bytes states (contents_of family name (record { records = records; ranges = deletions; failed = failed }))
unfolding table_bytes
table-done states records deletions failed out index block ranges record_count range_count family name sizes table w t =
    let contents : TableContents = contents_of family name (record { records = records; ranges = deletions; failed = failed }) in
    let entries : data_entries contents ≡ record_entries records = entries-any_family family records in
    let records_len : length contents.records ≡ length records = length-map records (λ (r : Record). record r { family = family }) in
    let count : record_count + range_count ≡ length contents.records + length deletions = omega (arith, w.counted.records_are, w.counted.ranges_are) in
    let entries_len : record_count ≡ length (record_entries records) = w.counted.records_are ∙ sym (length-map records (λ (r : Record). (internal_key r.key r.sequence r.kind, r.value))) in
    let deletions_len : range_count ≡ length (deletion_entries deletions) = w.counted.ranges_are ∙ sym (length-map deletions _) in
    let keys : sizes.keys ≡ keys_len (data_entries contents ++ deletion_entries deletions) =
    w.counted.keys_are ∙ sym (sum_by-append (λ (entry : KeyValue). length entry.0) (record_entries records) (deletion_entries deletions)) ∙ ap (λ entries. keys_len (entries ++ deletion_entries deletions)) (sym entries) in
    let values : sizes.values ≡ values_len (data_entries contents ++ deletion_entries deletions) =
    w.counted.values_are ∙ sym (sum_by-append (λ (entry : KeyValue). length entry.1) (record_entries records) (deletion_entries deletions)) ∙ ap (λ entries. values_len (entries ++ deletion_entries deletions)) (sym entries) in
    t.done (record_entries records) (deletion_entries deletions) w.data_is entries_len w.ranges_are deletions_len
    ∙ ap (λ properties. table_with (record_entries records) (deletion_entries deletions) properties) (by states keys values count)
    ∙ ap (λ entries. table_with entries (deletion_entries deletions) (properties_block states contents)) (sym entries)
  where
    by : (states : Bool) → sizes.keys ≡ keys_len (data_entries (contents_of family name (record { records = records; ranges = deletions; failed = failed })) ++ deletion_entries deletions)
        → sizes.values ≡ values_len (data_entries (contents_of family name (record { records = records; ranges = deletions; failed = failed })) ++ deletion_entries deletions)
        → record_count + range_count ≡ length (contents_of family name (record { records = records; ranges = deletions; failed = failed })).records + length deletions
        → block_bytes 1 (plain_entries family name (record_count + range_count) ++ size_entries (sizes_if states sizes)) ≡ properties_block states (contents_of family name (record { records = records; ranges = deletions; failed = failed }))
    by true keys values count = λ i. block_bytes 1 (plain_entries family name (count i) ++ size_entries (Some (record { keys = keys i; values = values i })))
    by false keys values count = λ i. block_bytes 1 (plain_entries family name (count i) ++ [])
