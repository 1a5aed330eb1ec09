-- What is left to find out of a table.
use Rattle.std.specs.Prelude.{ℕ, ◌+◌, ◌-◌, ◌^◌, min, max, List, [], ◌∷◌, ◌++◌, length, map, take, drop, fold, Option, Some, None, Result, Ok}
use Rattle.std.specs.List.{last_or, reduce}
use Rattle.rk_bytes.specs.declared.model.block.Handle.{Handle}
use Rattle.rk_bytes.specs.declared.model.block.IndexEntry.{IndexEntry}
use Rattle.rk_bytes.specs.declared.model.block.Property.{Property}
use Rattle.rk_bytes.specs.declared.model.block.RangeDel.{RangeDel}
use Rattle.rk_bytes.specs.declared.model.table.Footer.{Footer}
use Rattle.rk_bytes.specs.declared.model.table.TableRef.{TableRef}
use Rattle.rk_bytes.specs.Model.Numbers.{◌>>=◌}
use Rattle.rk_bytes.specs.Model.TableStatus.{TableFault, BlockReader, reader_of, held, list_of, range_status, range_list, properties_at, index_at, is_set, user_separators, data_records, DataEntry, start_key, end_key, lesser, greater, good, table_with, table_status}
use Rattle.rk_table.specs.declared.stage.Stage.{Stage}
use Rattle.rk_table.specs.declared.stage.Stage.TheVariants.{Tail, Metaindex, Properties, Ranges, Index, Data, Ended}
use Rattle.rk_table.specs.Told.{found, known}

-- what is left where the index is to be read
abbrev pub after_ranges : BlockReader → Footer → List Property → List RangeDel → Result TableRef TableFault
after_ranges block_of footer properties ranges = do
  index ← index_at block_of properties footer.index
  entries ← data_records block_of (is_set (user_separators properties)) None None index
  Ok (good footer properties ranges index entries).table

-- what is left where the range deletions are to be read, if there are any
abbrev pub after_properties : BlockReader → Footer → Option Handle → List Property → Result TableRef TableFault
after_properties block_of footer ranges_at properties = do
  ranges ← list_of (held block_of range_status range_list) ranges_at
  after_ranges block_of footer properties ranges

-- what is left where the metaindex has told where the meta blocks are
abbrev pub after_metaindex : BlockReader → Footer → Option Handle → Option Handle → Result TableRef TableFault
after_metaindex block_of footer properties_at' ranges_at = do
  properties ← list_of (properties_at block_of) properties_at'
  after_properties block_of footer ranges_at properties

-- the key that is known, if one is
abbrev pub listed : Option (List ℕ) → List (List ℕ)
listed None = []
listed (Some key) = key ∷ []

-- a table of which this is known, with these data records besides and with its range deletions
abbrev pub with_entries : TableRef → List DataEntry → TableRef
with_entries table entries =
    let keys = map (λ entry. entry.key) entries in
    record {
      family = table.family;
      family_name = table.family_name;
      entries = min (table.entries + length entries) (2 ^ 64 - 1);
      ranges = table.ranges;
      properties = table.properties;
      index = table.index;
      user_keys = table.user_keys;
      sum = table.sum;
      smallest = reduce lesser (listed table.smallest ++ (keys ++ map start_key table.ranges));
      largest = reduce greater (listed table.largest ++ (keys ++ map end_key table.ranges));
      top = fold max table.top (map (λ entry. entry.parts.sequence) entries ++ map (λ range. range.sequence) table.ranges);
      start = table.start;
    }

-- the separator of the data block before the one with this number
abbrev pub separator_before : ℕ → List IndexEntry → Option (List ℕ)
separator_before number index = last_or None (map (λ at. at.separator) (take number index))

-- what is left where the data block with this number is to be read
abbrev pub after_blocks : BlockReader → TableRef → ℕ → Result TableRef TableFault
after_blocks block_of table number = do
  entries ← data_records block_of table.user_keys table.largest (separator_before number table.index) (drop number table.index)
  Ok (with_entries table entries)

-- what is left to find out of a table at a stage
abbrev pub left_of : Stage → List ℕ → Result TableRef TableFault
left_of Tail table = known (table_status table)
left_of (Metaindex footer) table = known (table_with (reader_of table footer) footer)
left_of (Properties footer at ranges_at) table = after_metaindex (reader_of table footer) footer (Some at) ranges_at
left_of (Ranges footer properties at) table = after_properties (reader_of table footer) footer (Some at) properties
left_of (Index footer properties ranges) table = after_ranges (reader_of table footer) footer properties ranges
left_of (Data footer so_far number) table = after_blocks (reader_of table footer) so_far number
left_of (Ended status) table = found status
