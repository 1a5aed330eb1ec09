-- What contracts see of a table that is written.
use Rattle.std.specs.Prelude.{◌≡◌, ℕ, ◌+◌, ◌*◌, ◌^◌, ◌<◌, ◌≤◌, Bool, true, false, List, [], ◌∷◌, ◌++◌, length, map, slice_index, unwrap_or, Option, Some, None}
use Rattle.std.specs.List.{AllByRecursion, sum_by}
use Rattle.std.specs.List.Sorted.{IsStrictlySortedBy}
use Rattle.std.specs.declared.cmp.Ordering.TheVariants.{Less}
use Rattle.rk_bytes.specs.declared.model.block.RangeDel.{RangeDel}
use Rattle.rk_bytes.specs.declared.model.key.Kind.{Kind}
use Rattle.rk_bytes.specs.declared.model.key.Kind.TheVariants.{Value}
use Rattle.rk_bytes.specs.declared.model.key.Record.{Record}
use Rattle.rk_bytes.specs.Model.InternalKey.{internal_key, key_cmp, kind_of}
use Rattle.rk_bytes.specs.Model.TableStatus.{start_key}
use Rattle.rk_bytes.specs.Model.Writers.{KeyValue, TableContents, block_bytes, grouped, joined_table, metaindex_block, range_blocks}
use Rattle.rk_laws.specs.WritableTables.{IsWritableRange, IsWritableRecord}
use Rattle.rk_block.specs.Building.{Building, built_block}
use Rattle.rk_tablew.specs.declared.properties.Sizes.{Sizes}
use Rattle.rk_tablew.specs.Data.{IsData, blocks_with, index_entries, is_full}
use Rattle.rk_tablew.specs.Parts.{blocks_of, plain_entries, size_entries}

-- The records and the range deletions that were added, in order, and whether memory ran out before. The records
-- get their family at the end.
pub record Writing : Type 0 where
  pub records : List Record
  pub ranges : List RangeDel
  pub failed : Bool

-- a record whose family isn't set yet
abbrev pub record_with : List ℕ → ℕ → Kind → List ℕ → Record
record_with key sequence kind value = record { family = 0; key = key; sequence = sequence; kind = kind; value = value }

-- a range deletion
abbrev pub range_with : List ℕ → List ℕ → ℕ → RangeDel
range_with start end sequence = record { start = start; end = end; sequence = sequence }

-- what a table of this family has
abbrev pub contents_of : ℕ → List ℕ → Writing → TableContents
contents_of family name writing =
    record { family = family; family_name = name; records = map (λ (r : Record). record r { family = family }) writing.records; ranges = writing.ranges }

-- a record's internal key
abbrev pub record_key : Record → List ℕ
record_key r = internal_key r.key r.sequence r.kind

-- the entries of records
abbrev pub record_entries : List Record → List KeyValue
record_entries records = map (λ (r : Record). (record_key r, r.value)) records

-- the entries of range deletions
abbrev pub deletion_entries : List RangeDel → List KeyValue
deletion_entries ranges = map (λ (range : RangeDel). (start_key range, range.end)) ranges

-- how many bytes the keys have, with 64 for each record
abbrev pub records_weight : List Record → ℕ
records_weight records = sum_by (λ (r : Record). length r.key + 64) records

-- how many bytes the starts and the ends have, with 64 for each range deletion
abbrev pub ranges_weight : List RangeDel → ℕ
ranges_weight ranges = sum_by (λ (range : RangeDel). length range.start + length range.end + 64) ranges

-- the two together
abbrev pub table_weight : Writing → ℕ
table_weight writing = records_weight writing.records + ranges_weight writing.ranges

-- an internal key comes after that of the last record
abbrev pub ComesNext : List Record → List ℕ → Type 0
ComesNext records key = (before : List Record) (last : Record) → records ≡ before ++ last ∷ [] → key_cmp (record_key last) key ≡ Less

-- the records that were noted: each with its sequence number and its kind's number
abbrev pub noted_record : List ℕ × List ℕ × List ℕ → Record
noted_record note = record_with note.1 (slice_index note.0 0) (unwrap_or (kind_of (slice_index note.0 1)) Value) note.2

-- the range deletions that were noted: each with its sequence number
abbrev pub noted_range : List ℕ × List ℕ × List ℕ → RangeDel
noted_range note = range_with note.1 note.2 (slice_index note.0 0)

-- how many bytes the internal keys of entries have
abbrev pub keys_len : List KeyValue → ℕ
keys_len entries = sum_by (λ entry. length entry.0) entries

-- how many bytes the values of entries have
abbrev pub values_len : List KeyValue → ℕ
values_len entries = sum_by (λ entry. length entry.1) entries

-- what is counted beside the blocks: the records, the range deletions, and how many bytes their internal keys
-- and their values have
pub record Counted (records : List Record) (ranges : List RangeDel) (record_count range_count keys values : ℕ) : Type 0 where
  pub records_are : record_count ≡ length records
  pub ranges_are : range_count ≡ length ranges
  pub keys_are : keys ≡ keys_len (record_entries records) + keys_len (deletion_entries ranges)
  pub values_are : values ≡ values_len (record_entries records) + values_len (deletion_entries ranges)
  pub small : values ≤ 2 ^ 31 * (record_count + range_count)

-- The parts of a table while it is written are those of these records and range deletions.
pub record IsWriting (records : List Record) (deletions : List RangeDel) (out : List ℕ) (index block ranges : Building) (record_count range_count keys values : ℕ) : Type 0 where
  pub data_is : IsData (record_entries records) out index block
  pub ranges_are : ranges ≡ record { restart_every = 1; entries = deletion_entries deletions }
  pub ranges_small : length (built_block ranges) ≤ 8 + ranges_weight deletions
  pub counted : Counted records deletions record_count range_count keys values
  pub light : table_weight (record { records = records; ranges = deletions; failed = false }) < 2 ^ 31

-- the records can be written and rise, and the range deletions can be written
pub record AreInOrder (records : List Record) (deletions : List RangeDel) : Type 0 where
  pub records_fit : AllByRecursion IsWritableRecord records
  pub ranges_fit : AllByRecursion IsWritableRange deletions
  pub rising : IsStrictlySortedBy key_cmp (map record_key records)

-- the range deletions' block, if there is one
pub record RangesDone (ranges : Building) (count : ℕ) (block : Option (List ℕ)) : Type 0 where
  pub done : (entries : List KeyValue) → ranges ≡ record { restart_every = 1; entries = entries } → count ≡ length entries → blocks_of block ≡ range_blocks entries

-- the sizes, if a table states them
abbrev pub sizes_if : Bool → Sizes → Option Sizes
sizes_if true sizes = Some sizes
sizes_if false sizes = None

-- a table of these entries
abbrev pub table_with : List KeyValue → List KeyValue → List ℕ → List ℕ
table_with entries deletions properties =
    let data_blocks = blocks_with (grouped is_full entries) in
    joined_table (data_blocks ++ range_blocks deletions ++ properties ∷ []) (metaindex_block data_blocks (range_blocks deletions) properties) (block_bytes 1 (index_entries (grouped is_full entries)))

-- the bytes of a table from its parts
pub record TableDone (out : List ℕ) (index block ranges : Building) (record_count range_count family : ℕ) (name : List ℕ) (sizes : Option Sizes) (table : List ℕ) : Type 0 where
  pub done : (entries deletions : List KeyValue) → IsData entries out index block → record_count ≡ length entries → ranges ≡ record { restart_every = 1; entries = deletions } → range_count ≡ length deletions
      → table ≡ table_with entries deletions (block_bytes 1 (plain_entries family name (record_count + range_count) ++ size_entries sizes))
