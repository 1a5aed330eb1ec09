-- A table with a part of each kind: two data blocks, a range deletion, properties, and an index of user keys with
-- delta-encoded handles. Its blocks aren't summed. Its bytes were made outside.
use Rattle.std.specs.Prelude.{◌≡◌, ℕ, true, ◌+◌, List, [], ◌∷◌, ◌++◌, map, take, drop, replicate, Some, Result, Ok, Err, codes, refl}
use Rattle.rk_bytes.specs.declared.model.table.SumKind.TheVariants.{NoSum}
use Rattle.rk_bytes.specs.declared.model.table.TableWhy.TheVariants.{BadOrder, BadSeparator}
use Rattle.rk_bytes.specs.declared.model.table.TableWhat.TheVariants.{Compressed}
use Rattle.rk_bytes.specs.declared.model.key.Kind.TheVariants.{Deletion, Value, Merge}
use Rattle.rk_bytes.specs.Model.BlockEntries.{block_entries, entries_after, index_entries}
use Rattle.rk_bytes.specs.Model.InternalKey.{internal_key}
use Rattle.rk_bytes.specs.Model.TableFooter.{footer_of, checked_block}
use Rattle.rk_bytes.specs.Model.TableStatus.{TableFault, damaged, unsupported, Good, property_list, range_list, table_with, table_status}

-- a block of these entries with one restart, at 0, and its trailer without a sum
block_of : List ℕ → List ℕ
block_of entries = entries ++ 0 ∷ 0 ∷ 0 ∷ 0 ∷ 1 ∷ 0 ∷ 0 ∷ 0 ∷ replicate 5 0

-- at 0: `a` put at 12 and deleted at 11, and `c` merged at 3
first_block : List ℕ
unfolding block_of
first_block = block_of ((0 ∷ 9 ∷ 1 ∷ codes "a" ++ 1 ∷ 12 ∷ replicate 6 0 ++ codes "x") ++ (0 ∷ 9 ∷ 0 ∷ codes "a" ++ 0 ∷ 11 ∷ replicate 6 0) ++ (0 ∷ 9 ∷ 1 ∷ codes "c" ++ 2 ∷ 3 ∷ replicate 6 0 ++ codes "m"))

-- at 51: `cat` put at 1
second_block : List ℕ
unfolding block_of
second_block = block_of (0 ∷ 11 ∷ 1 ∷ codes "cat" ++ 1 ∷ 1 ∷ replicate 6 0 ++ codes "y")

-- at 79: the keys from `A` up to `y` deleted at 13
range_block : List ℕ
unfolding block_of
range_block = block_of (0 ∷ 9 ∷ 1 ∷ codes "A" ++ 15 ∷ 13 ∷ replicate 6 0 ++ codes "y")

-- at 105
properties_block : List ℕ
unfolding block_of
properties_block =
    block_of ((0 ∷ 24 ∷ 1 ∷ codes "rocksdb.column.family.id" ++ 7 ∷ []) ++ (0 ∷ 26 ∷ 5 ∷ codes "rocksdb.column.family.name" ++ codes "seven")
    ++ (0 ∷ 18 ∷ 26 ∷ codes "rocksdb.comparator" ++ codes "leveldb.BytewiseComparator") ++ (0 ∷ 29 ∷ 1 ∷ codes "rocksdb.index.key.is.user.key" ++ 1 ∷ [])
    ++ (0 ∷ 36 ∷ 1 ∷ codes "rocksdb.index.value.is.delta.encoded" ++ 1 ∷ []))

-- at 300
metaindex_block : List ℕ
unfolding block_of
metaindex_block = block_of ((0 ∷ 18 ∷ 3 ∷ codes "rocksdb.properties" ++ 105 ∷ 0xbe ∷ 1 ∷ []) ++ (0 ∷ 17 ∷ 2 ∷ codes "rocksdb.range_del" ++ 79 ∷ 21 ∷ []))

-- at 359: the second separator shares two bytes, and its block has 23 bytes less than the first
index_block : List ℕ
unfolding block_of
index_block = block_of ((0 ∷ 2 ∷ codes "ca" ++ 0 ∷ 46 ∷ []) ++ (2 ∷ 1 ∷ codes "t" ++ 45 ∷ []))

-- at 382
footer : List ℕ
footer = 0 ∷ 0xac ∷ 2 ∷ 54 ∷ 0xe7 ∷ 2 ∷ 18 ∷ replicate 34 0 ++ 5 ∷ 0 ∷ 0 ∷ 0 ∷ 0xf7 ∷ 0xcf ∷ 0xf4 ∷ 0x85 ∷ 0xb7 ∷ 0x41 ∷ 0xe2 ∷ 0x88 ∷ []

whole_table : List ℕ
unfolding first_block second_block range_block properties_block metaindex_block index_block footer
whole_table = first_block ++ second_block ++ range_block ++ properties_block ++ metaindex_block ++ index_block ++ footer

-- the status, computed
computed : List ℕ → Result Good TableFault
unfolding table_status table_with footer_of checked_block internal_key block_entries entries_after property_list range_list index_entries
computed table = table_status table

-- The range deletion's start is the smallest key, and its end the largest.
of_a_table : computed whole_table ≡ Ok (record {
  table = record {
    family = 7;
    family_name = codes "seven";
    entries = 4;
    ranges = record { start = codes "A"; end = codes "y"; sequence = 13 } ∷ [];
    properties =
        record { name = codes "rocksdb.column.family.id"; value = 7 ∷ [] } ∷ record { name = codes "rocksdb.column.family.name"; value = codes "seven" }
        ∷ record { name = codes "rocksdb.comparator"; value = codes "leveldb.BytewiseComparator" } ∷ record { name = codes "rocksdb.index.key.is.user.key"; value = 1 ∷ [] }
        ∷ record { name = codes "rocksdb.index.value.is.delta.encoded"; value = 1 ∷ [] } ∷ [];
    index = record { separator = codes "ca"; block = record { offset = 0; size = 46 } } ∷ record { separator = codes "cat"; block = record { offset = 51; size = 23 } } ∷ [];
    user_keys = true;
    sum = NoSum;
    smallest = Some (codes "A" ++ 15 ∷ 13 ∷ replicate 6 0);
    largest = Some (codes "y" ++ 15 ∷ replicate 7 0xFF);
    top = 13;
    start = 382;
  };
  records =
      record { family = 7; key = codes "a"; sequence = 12; kind = Value; value = codes "x" } ∷ record { family = 7; key = codes "a"; sequence = 11; kind = Deletion; value = [] }
      ∷ record { family = 7; key = codes "c"; sequence = 3; kind = Merge; value = codes "m" } ∷ record { family = 7; key = codes "cat"; sequence = 1; kind = Value; value = codes "y" } ∷ [];
})
unfolding computed whole_table
of_a_table = refl

-- the table with another byte at a place
with_byte : ℕ → ℕ → List ℕ → List ℕ
with_byte place b table = take place table ++ b ∷ drop (place + 1) table

-- the second block's record at the user key "c`t", which is below the first separator
below_the_separator_before : computed (with_byte 55 0x60 whole_table) ≡ Err (damaged BadSeparator 51)
unfolding computed whole_table with_byte
below_the_separator_before = refl

-- `a` deleted at 13, after it was put at 12
not_in_order : computed (with_byte 18 13 whole_table) ≡ Err (damaged BadOrder 0)
unfolding computed whole_table with_byte
not_in_order = refl

-- Two blocks are compressed, each time in two ways: the first data block and the index, the index and the range
-- deletions, the range deletions and the properties, the properties and the metaindex.
in_their_order : map computed (
    with_byte 46 1 (with_byte 377 2 whole_table) ∷ with_byte 377 2 (with_byte 100 3 whole_table) ∷ with_byte 100 3 (with_byte 295 4 whole_table)
    ∷ with_byte 295 4 (with_byte 354 5 whole_table) ∷ [])
    ≡ map (λ kind. Err (unsupported (Compressed kind))) (2 ∷ 3 ∷ 4 ∷ 5 ∷ [])
unfolding computed whole_table with_byte
in_their_order = refl
