-- The index and the data blocks of a table.
use Rattle.std.specs.Prelude.{◌≡◌, ℕ, ◌+◌, ◌-◌, ◌^◌, min, max, List, ◌++◌, length, map, fold, Option, Some, None, unwrap_or, nat_le, if◌then◌else◌, ◌||◌, Result, Ok, Err}
use Rattle.std.specs.List.{list_all, reduce}
use Rattle.rk_bytes.specs.declared.model.block.IndexEntry.{IndexEntry}
use Rattle.rk_bytes.specs.declared.model.block.Property.{Property}
use Rattle.rk_bytes.specs.declared.model.block.RangeDel.{RangeDel}
use Rattle.rk_bytes.specs.declared.model.table.Footer.{Footer}
use Rattle.rk_bytes.specs.declared.model.table.TableRef.{TableRef}
use Rattle.rk_bytes.specs.declared.model.table.TableWhy.TheVariants.{BadKey}
use Rattle.rk_bytes.specs.Model.Numbers.{◌>>=◌}
use Rattle.rk_bytes.specs.Model.BlockEntries.{with_fault, index_entries}
use Rattle.rk_bytes.specs.Model.TableStatus.{TableFault, damaged, index_status, is_set, user_separators, delta_values, family_of, family_name_of, start_key, end_key, lesser, greater}
use Rattle.rk_table.specs.declared.records.Records.{Records}
use Rattle.rk_table.specs.declared.bounds.Bounds.{Bounds}
use Rattle.rk_table.specs.Stages.{listed}

-- the index in a block at this place, of a table with these properties
abbrev pub index_told : ℕ → List Property → List ℕ → Result (List IndexEntry) TableFault
index_told place properties block = do
  index ← with_fault (index_status place) (index_entries (is_set (delta_values properties)) block)
  if is_set (user_separators properties) || list_all (λ entry. nat_le 8 (length entry.separator)) index then Ok index else Err (damaged BadKey place)

-- what is known of a table before its data blocks
abbrev pub new_table : Footer → List Property → List RangeDel → List IndexEntry → TableRef
new_table footer properties ranges index = record {
  family = family_of properties;
  family_name = family_name_of properties;
  entries = 0;
  ranges = ranges;
  properties = properties;
  index = index;
  user_keys = is_set (user_separators properties);
  sum = footer.sum;
  smallest = None;
  largest = None;
  top = 0;
  start = footer.start;
}

-- what is known of a table after the records of one more data block
abbrev pub advanced : TableRef → Records → TableRef
advanced table records = record table {
  entries = min (table.entries + records.entries) (2 ^ 64 - 1);
  smallest = Some (unwrap_or table.smallest records.first);
  largest = Some records.last;
  top = max table.top records.top;
}

-- what is known of a table with these bounds, after all of its data blocks
abbrev pub closed : TableRef → Bounds → TableRef
closed table bounds = record table {
  smallest = bounds.smallest;
  largest = bounds.largest;
  top = fold max table.top (map (λ range. range.sequence) table.ranges);
}

-- the bounds of keys with these bounds and of range deletions
pub record AreRangeBounds (smallest largest : Option (List ℕ)) (ranges : List RangeDel) (bounds : Bounds) : Type 0 where
  pub least : bounds.smallest ≡ reduce lesser (listed smallest ++ map start_key ranges)
  pub most : bounds.largest ≡ reduce greater (listed largest ++ map end_key ranges)

-- the lesser of two internal keys, of which the first may not be there
abbrev pub lesser_of : Option (List ℕ) → List ℕ → List ℕ
lesser_of None key = key
lesser_of (Some known) key = lesser known key

-- the greater of the two
abbrev pub greater_of : Option (List ℕ) → List ℕ → List ℕ
greater_of None key = key
greater_of (Some known) key = greater known key
