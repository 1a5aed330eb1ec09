-- Which tables can be written, and what is read of one.
use Rattle.std.specs.Prelude.{◌≡◌, ℕ, ◌+◌, ◌^◌, ◌<◌, ◌≤◌, ◌==◌, max, false, List, ◌++◌, length, map, fold, sum_by, if◌then◌else◌}
use Rattle.std.specs.List.{AllByRecursion, reduce}
use Rattle.std.specs.List.Sorted.{IsStrictlySortedBy}
use Rattle.rk_bytes.specs.declared.model.block.RangeDel.{RangeDel}
use Rattle.rk_bytes.specs.declared.model.key.Record.{Record}
use Rattle.rk_bytes.specs.Model.Numbers.{AreBytes}
use Rattle.rk_bytes.specs.Model.InternalKey.{internal_key, key_cmp, top_sequence}
use Rattle.rk_bytes.specs.Model.TableStatus.{Good, is_range_deletion, start_key, end_key, lesser, greater}
use Rattle.rk_bytes.specs.Model.Writers.{TableContents}

-- a record's internal key
abbrev pub record_key : Record → List ℕ
record_key r = internal_key r.key r.sequence r.kind

-- a data record that can be written
pub record IsWritableRecord (r : Record) : Type 0 where
  pub key : length r.key < 2 ^ 30
  pub value : length r.value < 2 ^ 31
  pub sequence : r.sequence ≤ top_sequence
  pub kind : is_range_deletion r.kind ≡ false

-- a range deletion that can be written
pub record IsWritableRange (range : RangeDel) : Type 0 where
  pub start : length range.start < 2 ^ 30
  pub end : length range.end < 2 ^ 30
  pub sequence : range.sequence ≤ top_sequence

-- How much a record and a range deletion may add to the blocks other than its data block, in bytes.
abbrev pub record_room : Record → ℕ
record_room r = length r.key + 64

abbrev pub range_room : RangeDel → ℕ
range_room range = length range.start + length range.end + 64

-- The table can be written: its internal keys rise, and its lengths are within the formats' bounds.
pub record IsWritableTable (table : TableContents) : Type 0 where
  pub family : table.family < 2 ^ 32
  pub name : length table.family_name < 2 ^ 30
  pub records : AllByRecursion IsWritableRecord table.records
  pub ranges : AllByRecursion IsWritableRange table.ranges
  pub rising : IsStrictlySortedBy key_cmp (map record_key table.records)
  pub room : length table.family_name + sum_by record_room table.records + sum_by range_room table.ranges < 2 ^ 31

-- Its names, keys and values are bytes.
pub record OfBytes (table : TableContents) : Type 0 where
  pub name : AreBytes table.family_name
  pub records : AllByRecursion (λ r. AreBytes r.key × AreBytes r.value) table.records
  pub ranges : AllByRecursion (λ range. AreBytes range.start × AreBytes range.end) table.ranges

-- the family that a written table is read as belonging to: the greatest id of 31 bits stands for none
abbrev pub family_read : ℕ → ℕ
family_read id = if id == 2147483647 then 0 else id

-- The good table holds these contents.
pub record Holds (table : TableContents) (good : Good) : Type 0 where
  pub family : good.table.family ≡ family_read table.family
  pub family_name : good.table.family_name ≡ table.family_name
  pub entries : good.table.entries ≡ length table.records
  pub ranges : good.table.ranges ≡ table.ranges
  pub user_keys : good.table.user_keys ≡ false
  pub smallest : good.table.smallest ≡ reduce lesser (map record_key table.records ++ map start_key table.ranges)
  pub largest : good.table.largest ≡ reduce greater (map record_key table.records ++ map end_key table.ranges)
  pub top : good.table.top ≡ fold max 0 (map (λ r. r.sequence) table.records ++ map (λ range. range.sequence) table.ranges)
  pub records : good.records ≡ map (λ (r : Record). record r { family = family_read table.family }) table.records
