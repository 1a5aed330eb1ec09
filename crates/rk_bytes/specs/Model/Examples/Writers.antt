-- Worked examples of tables and version edits as they are written. The bytes were computed outside.
use Rattle.std.specs.Prelude.{◌≡◌, ℕ, ◌-◌, ◌^◌, true, false, List, [], ◌∷◌, ◌++◌, length, map, replicate, Option, Some, None, codes, refl}
use Rattle.rk_bytes.specs.declared.model.block.RangeDel.{RangeDel}
use Rattle.rk_bytes.specs.declared.model.edit.Seqs.{Seqs}
use Rattle.rk_bytes.specs.declared.model.key.Kind.{Kind}
use Rattle.rk_bytes.specs.declared.model.key.Kind.TheVariants.{Deletion, Value}
use Rattle.rk_bytes.specs.declared.model.key.Record.{Record}
use Rattle.rk_bytes.specs.Model.Checksums.{crc_bit, crc_bits, crc_bytes, crc32c}
use Rattle.rk_bytes.specs.Model.InternalKey.{internal_key, bytewise_name}
use Rattle.rk_bytes.specs.Model.VersionEdit.{NewFile, comparator, log_number, next_file, last_sequence, compact_cursor, delete_file, add_file, previous_log, least_log, family, family_add, family_drop, greatest_family, group, wal_add, wal_delete}
use Rattle.rk_bytes.specs.Model.Writers.{TableContents, grouped, run_bytes, block_bytes, data_groups, table_bytes, edit_bytes}

-- a record
of_key : ℕ → ℕ → Kind → List ℕ → List ℕ → Record
of_key id sequence kind key value = record { family = id; key = key; sequence = sequence; kind = kind; value = value }

-- a table of the default family
default_table : List Record → List RangeDel → TableContents
default_table records ranges = record { family = 0; family_name = codes "default"; records = records; ranges = ranges }

of_one_put : table_bytes false (default_table (of_key 0 1 Value (codes "a") (codes "x") ∷ []) [])
    ≡ (0 ∷ 9 ∷ 1 ∷ 0x61 ∷ 1 ∷ 1 ∷ 0 ∷ 0 ∷ 0 ∷ 0 ∷ 0 ∷ 0 ∷ 0x78 ∷ 0 ∷ 0 ∷ 0 ∷ 0 ∷ 1 ∷ 0 ∷ 0 ∷ 0 ∷ 0 ∷ 0x84 ∷
    0xDD ∷ 0x88 ∷ 0x74 ∷ 0 ∷ 0x24 ∷ 4 ∷ []) ++ codes "rocksdb.block.based.table.index.type" ++ (0 ∷ 0 ∷ 0 ∷
    0 ∷ 0 ∷ 0x18 ∷ 1 ∷ []) ++ codes "rocksdb.column.family.id" ++ (0 ∷ 0 ∷ 0x1A ∷ 7 ∷ []) ++
    codes "rocksdb.column.family.namedefault" ++ (0 ∷ 0x12 ∷ 0x1A ∷ []) ++
    codes "rocksdb.comparatorleveldb.BytewiseComparator" ++ (0 ∷ 0x1D ∷ 1 ∷ []) ++
    codes "rocksdb.index.key.is.user.key" ++ (0 ∷ 0 ∷ 0x24 ∷ 1 ∷ []) ++
    codes "rocksdb.index.value.is.delta.encoded" ++ (0 ∷ 0 ∷ 0x13 ∷ 1 ∷ []) ++
    codes "rocksdb.num.entries" ++ (1 ∷ 0 ∷ 0 ∷ 0 ∷ 0 ∷ 0x2B ∷ 0 ∷ 0 ∷ 0 ∷ 0x47 ∷ 0 ∷ 0 ∷ 0 ∷ 0x6B ∷ 0 ∷ 0 ∷
    0 ∷ 0x9A ∷ 0 ∷ 0 ∷ 0 ∷ 0xBB ∷ 0 ∷ 0 ∷ 0 ∷ 0xE3 ∷ 0 ∷ 0 ∷ 0 ∷ 7 ∷ 0 ∷ 0 ∷ 0 ∷ 0 ∷ 0xCE ∷ 0xE3 ∷ 0xDE ∷
    0x66 ∷ 0 ∷ 0x12 ∷ 3 ∷ []) ++ codes "rocksdb.properties" ++ (0x1A ∷ 0x9A ∷ 2 ∷ 0 ∷ 0 ∷ 0 ∷ 0 ∷ 1 ∷ 0 ∷
    0 ∷ 0 ∷ 0 ∷ 0xEB ∷ 6 ∷ 0x7C ∷ 0x7B ∷ 0 ∷ 9 ∷ 2 ∷ 0x61 ∷ 1 ∷ 1 ∷ 0 ∷ 0 ∷ 0 ∷ 0 ∷ 0 ∷ 0 ∷ 0 ∷ 0x15 ∷ 0 ∷
    0 ∷ 0 ∷ 0 ∷ 1 ∷ 0 ∷ 0 ∷ 0 ∷ 0 ∷ 0x36 ∷ 0x49 ∷ 0x25 ∷ 0xBF ∷ 1 ∷ 0xB9 ∷ 2 ∷ 0x20 ∷ 0xDE ∷ 2 ∷ 0x16 ∷
    []) ++ replicate 34 0 ++ 2 ∷ 0 ∷ 0 ∷ 0 ∷ 0xF7 ∷ 0xCF ∷ 0xF4 ∷ 0x85 ∷ 0xB7 ∷ 0x41 ∷ 0xE2 ∷ 0x88 ∷ []
unfolding table_bytes block_bytes run_bytes grouped internal_key crc32c crc_bytes crc_bits crc_bit of_key default_table
of_one_put = refl

-- a table of another family, with range deletions that don't rise
other_table : TableContents
unfolding of_key
other_table = record {
  family = 300;
  family_name = codes "f";
  records = of_key 300 2 Value (codes "a") (codes "x") ∷ of_key 300 1 Deletion (codes "ab") [] ∷ [];
  ranges = record { start = codes "c"; end = codes "d"; sequence = 4 } ∷ record { start = codes "a"; end = codes "b"; sequence = 3 } ∷ [];
}

of_range_deletions_and_sizes : table_bytes true other_table
    ≡ (0 ∷ 9 ∷ 1 ∷ 0x61 ∷ 1 ∷ 2 ∷ 0 ∷ 0 ∷ 0 ∷ 0 ∷ 0 ∷ 0 ∷ 0x78 ∷ 1 ∷ 9 ∷ 0 ∷ 0x62 ∷ 0 ∷ 1 ∷ []) ++
    replicate 10 0 ++ (1 ∷ 0 ∷ 0 ∷ 0 ∷ 0 ∷ 0xE5 ∷ 0x4D ∷ 0xA9 ∷ 0x20 ∷ 0 ∷ 9 ∷ 1 ∷ 0x63 ∷ 0x0F ∷ 4 ∷ 0 ∷ 0 ∷
    0 ∷ 0 ∷ 0 ∷ 0 ∷ 0x64 ∷ 0 ∷ 9 ∷ 1 ∷ 0x61 ∷ 0x0F ∷ 3 ∷ 0 ∷ 0 ∷ 0 ∷ 0 ∷ 0 ∷ 0 ∷ 0x62 ∷ 0 ∷ 0 ∷ 0 ∷ 0 ∷
    0x0D ∷ 0 ∷ 0 ∷ 0 ∷ 2 ∷ 0 ∷ 0 ∷ 0 ∷ 0 ∷ 0x24 ∷ 0x94 ∷ 0x0A ∷ 0xC6 ∷ 0 ∷ 0x24 ∷ 4 ∷ []) ++
    codes "rocksdb.block.based.table.index.type" ++ (0 ∷ 0 ∷ 0 ∷ 0 ∷ 0 ∷ 0x18 ∷ 2 ∷ []) ++
    codes "rocksdb.column.family.id" ++ (0xAC ∷ 2 ∷ 0 ∷ 0x1A ∷ 1 ∷ []) ++
    codes "rocksdb.column.family.namef" ++ (0 ∷ 0x12 ∷ 0x1A ∷ []) ++
    codes "rocksdb.comparatorleveldb.BytewiseComparator" ++ (0 ∷ 0x1D ∷ 1 ∷ []) ++
    codes "rocksdb.index.key.is.user.key" ++ (0 ∷ 0 ∷ 0x24 ∷ 1 ∷ []) ++
    codes "rocksdb.index.value.is.delta.encoded" ++ (0 ∷ 0 ∷ 0x13 ∷ 1 ∷ []) ++
    codes "rocksdb.num.entries" ++ (4 ∷ 0 ∷ 0x14 ∷ 1 ∷ []) ++ codes "rocksdb.raw.key.size" ++ (0x25 ∷ 0 ∷
    0x16 ∷ 1 ∷ []) ++ codes "rocksdb.raw.value.size" ++ (3 ∷ 0 ∷ 0 ∷ 0 ∷ 0 ∷ 0x2B ∷ 0 ∷ 0 ∷ 0 ∷ 0x48 ∷ 0 ∷
    0 ∷ 0 ∷ 0x66 ∷ 0 ∷ 0 ∷ 0 ∷ 0x95 ∷ 0 ∷ 0 ∷ 0 ∷ 0xB6 ∷ 0 ∷ 0 ∷ 0 ∷ 0xDE ∷ 0 ∷ 0 ∷ 0 ∷ 0xF5 ∷ 0 ∷ 0 ∷ 0 ∷
    0x0D ∷ 1 ∷ 0 ∷ 0 ∷ 9 ∷ 0 ∷ 0 ∷ 0 ∷ 0 ∷ 0xFC ∷ 0x4B ∷ 0x17 ∷ 0xFC ∷ 0 ∷ 0x12 ∷ 3 ∷ []) ++
    codes "rocksdb.propertiesQ" ++ (0xCF ∷ 2 ∷ 0 ∷ 0x11 ∷ 2 ∷ []) ++ codes "rocksdb.range_del" ++ (0x26 ∷
    0x26 ∷ 0 ∷ 0 ∷ 0 ∷ 0 ∷ 0x18 ∷ 0 ∷ 0 ∷ 0 ∷ 2 ∷ 0 ∷ 0 ∷ 0 ∷ 0 ∷ 0xC1 ∷ 0x65 ∷ 0xDE ∷ 0x51 ∷ 0 ∷ 0x0A ∷ 2 ∷
    0x61 ∷ 0x62 ∷ 0 ∷ 1 ∷ 0 ∷ 0 ∷ 0 ∷ 0 ∷ 0 ∷ 0 ∷ 0 ∷ 0x21 ∷ 0 ∷ 0 ∷ 0 ∷ 0 ∷ 1 ∷ 0 ∷ 0 ∷ 0 ∷ 0 ∷ 0x21 ∷
    0xF9 ∷ 0xC2 ∷ 0xB6 ∷ 1 ∷ 0xA5 ∷ 3 ∷ 0x3A ∷ 0xE4 ∷ 3 ∷ 0x17 ∷ []) ++ replicate 34 0 ++ 2 ∷ 0 ∷ 0 ∷ 0 ∷
    0xF7 ∷ 0xCF ∷ 0xF4 ∷ 0x85 ∷ 0xB7 ∷ 0x41 ∷ 0xE2 ∷ 0x88 ∷ []
unfolding table_bytes block_bytes run_bytes grouped internal_key crc32c crc_bytes crc_bits crc_bit of_key other_table
of_range_deletions_and_sizes = refl

of_nothing : table_bytes false (default_table [] [])
    ≡ (0 ∷ 0x24 ∷ 4 ∷ []) ++ codes "rocksdb.block.based.table.index.type" ++ (0 ∷ 0 ∷ 0 ∷ 0 ∷ 0 ∷ 0x18 ∷ 1 ∷
    []) ++ codes "rocksdb.column.family.id" ++ (0 ∷ 0 ∷ 0x1A ∷ 7 ∷ []) ++
    codes "rocksdb.column.family.namedefault" ++ (0 ∷ 0x12 ∷ 0x1A ∷ []) ++
    codes "rocksdb.comparatorleveldb.BytewiseComparator" ++ (0 ∷ 0x1D ∷ 1 ∷ []) ++
    codes "rocksdb.index.key.is.user.key" ++ (0 ∷ 0 ∷ 0x24 ∷ 1 ∷ []) ++
    codes "rocksdb.index.value.is.delta.encoded" ++ (0 ∷ 0 ∷ 0x13 ∷ 1 ∷ []) ++
    codes "rocksdb.num.entries" ++ (0 ∷ 0 ∷ 0 ∷ 0 ∷ 0 ∷ 0x2B ∷ 0 ∷ 0 ∷ 0 ∷ 0x47 ∷ 0 ∷ 0 ∷ 0 ∷ 0x6B ∷ 0 ∷ 0 ∷
    0 ∷ 0x9A ∷ 0 ∷ 0 ∷ 0 ∷ 0xBB ∷ 0 ∷ 0 ∷ 0 ∷ 0xE3 ∷ 0 ∷ 0 ∷ 0 ∷ 7 ∷ 0 ∷ 0 ∷ 0 ∷ 0 ∷ 0xF7 ∷ 0xEF ∷ 0x7B ∷
    0x76 ∷ 0 ∷ 0x12 ∷ 3 ∷ []) ++ codes "rocksdb.properties" ++ (0 ∷ 0x9A ∷ 2 ∷ 0 ∷ 0 ∷ 0 ∷ 0 ∷ 1 ∷ 0 ∷ 0 ∷
    0 ∷ 0 ∷ 0x1A ∷ 0xE2 ∷ 0x7F ∷ 0x39 ∷ 0 ∷ 0 ∷ 0 ∷ 0 ∷ 1 ∷ 0 ∷ 0 ∷ 0 ∷ 0 ∷ 0xC0 ∷ 0xF2 ∷ 0xA1 ∷ 0xB0 ∷ 1 ∷
    0x9F ∷ 2 ∷ 0x20 ∷ 0xC4 ∷ 2 ∷ 8 ∷ []) ++ replicate 34 0 ++ 2 ∷ 0 ∷ 0 ∷ 0 ∷ 0xF7 ∷ 0xCF ∷ 0xF4 ∷ 0x85 ∷
    0xB7 ∷ 0x41 ∷ 0xE2 ∷ 0x88 ∷ []
unfolding table_bytes block_bytes run_bytes grouped internal_key crc32c crc_bytes crc_bits crc_bit default_table
of_nothing = refl

of_a_range_deletion_alone : table_bytes true (record { family = 7; family_name = codes "g"; records = []; ranges = record { start = codes "c"; end = codes "d"; sequence = 4 } ∷ [] })
    ≡ (0 ∷ 9 ∷ 1 ∷ 0x63 ∷ 0x0F ∷ 4 ∷ 0 ∷ 0 ∷ 0 ∷ 0 ∷ 0 ∷ 0 ∷ 0x64 ∷ 0 ∷ 0 ∷ 0 ∷ 0 ∷ 1 ∷ 0 ∷ 0 ∷ 0 ∷ 0 ∷ 0xAE ∷
    0x21 ∷ 0x33 ∷ 0xB4 ∷ 0 ∷ 0x24 ∷ 4 ∷ []) ++ codes "rocksdb.block.based.table.index.type" ++ (0 ∷ 0 ∷ 0 ∷
    0 ∷ 0 ∷ 0x18 ∷ 1 ∷ []) ++ codes "rocksdb.column.family.id" ++ (7 ∷ 0 ∷ 0x1A ∷ 1 ∷ []) ++
    codes "rocksdb.column.family.nameg" ++ (0 ∷ 0x12 ∷ 0x1A ∷ []) ++
    codes "rocksdb.comparatorleveldb.BytewiseComparator" ++ (0 ∷ 0x1D ∷ 1 ∷ []) ++
    codes "rocksdb.index.key.is.user.key" ++ (0 ∷ 0 ∷ 0x24 ∷ 1 ∷ []) ++
    codes "rocksdb.index.value.is.delta.encoded" ++ (0 ∷ 0 ∷ 0x13 ∷ 1 ∷ []) ++
    codes "rocksdb.num.entries" ++ (1 ∷ 0 ∷ 0x14 ∷ 1 ∷ []) ++ codes "rocksdb.raw.key.size" ++ (9 ∷ 0 ∷
    0x16 ∷ 1 ∷ []) ++ codes "rocksdb.raw.value.size" ++ (1 ∷ 0 ∷ 0 ∷ 0 ∷ 0 ∷ 0x2B ∷ 0 ∷ 0 ∷ 0 ∷ 0x47 ∷ 0 ∷
    0 ∷ 0 ∷ 0x65 ∷ 0 ∷ 0 ∷ 0 ∷ 0x94 ∷ 0 ∷ 0 ∷ 0 ∷ 0xB5 ∷ 0 ∷ 0 ∷ 0 ∷ 0xDD ∷ 0 ∷ 0 ∷ 0 ∷ 0xF4 ∷ 0 ∷ 0 ∷ 0 ∷
    0x0C ∷ 1 ∷ 0 ∷ 0 ∷ 9 ∷ 0 ∷ 0 ∷ 0 ∷ 0 ∷ 0x4B ∷ 0xFD ∷ 0x67 ∷ 0xF8 ∷ 0 ∷ 0x12 ∷ 3 ∷ []) ++
    codes "rocksdb.properties" ++ (0x1A ∷ 0xCE ∷ 2 ∷ 0 ∷ 0x11 ∷ 2 ∷ []) ++ codes "rocksdb.range_del" ++ (0 ∷
    0x15 ∷ 0 ∷ 0 ∷ 0 ∷ 0 ∷ 0x18 ∷ 0 ∷ 0 ∷ 0 ∷ 2 ∷ 0 ∷ 0 ∷ 0 ∷ 0 ∷ 0x51 ∷ 0x62 ∷ 0xEA ∷ 0xBC ∷ 0 ∷ 0 ∷ 0 ∷
    0 ∷ 1 ∷ 0 ∷ 0 ∷ 0 ∷ 0 ∷ 0xC0 ∷ 0xF2 ∷ 0xA1 ∷ 0xB0 ∷ 1 ∷ 0xED ∷ 2 ∷ 0x3A ∷ 0xAC ∷ 3 ∷ 8 ∷ []) ++
    replicate 34 0 ++ 2 ∷ 0 ∷ 0 ∷ 0 ∷ 0xF7 ∷ 0xCF ∷ 0xF4 ∷ 0x85 ∷ 0xB7 ∷ 0x41 ∷ 0xE2 ∷ 0x88 ∷ []
unfolding table_bytes block_bytes run_bytes grouped internal_key crc32c crc_bytes crc_bits crc_bit
of_a_range_deletion_alone = refl

-- A block of one entry has 21 bytes and the value's, and one more where its length takes two bytes: 4,096 with the second of these values
around_a_full_block : map (λ len. map length (data_groups (default_table (of_key 0 3 Value (codes "m") (replicate len 0x78) ∷ of_key 0 4 Value (codes "n") (codes "y") ∷ []) []))) (4074 ∷ 4075 ∷ 5000 ∷ [])
    ≡ (2 ∷ []) ∷ (1 ∷ 1 ∷ []) ∷ (1 ∷ 1 ∷ []) ∷ []
unfolding block_bytes run_bytes grouped internal_key of_key default_table
around_a_full_block = refl

of_a_first_edit : edit_bytes (comparator bytewise_name ∷ log_number 3 ∷ next_file 4 ∷ last_sequence 0 ∷ [])
    ≡ (1 ∷ 0x1A ∷ []) ++ codes "leveldb.BytewiseComparator" ++ 2 ∷ 3 ∷ 3 ∷ 4 ∷ 4 ∷ 0 ∷ []
unfolding edit_bytes
of_a_first_edit = refl

-- the internal key of a put of `a` at sequence number 1
put_a : List ℕ
unfolding internal_key
put_a = internal_key (codes "a") 1 Value

-- a new file of 1,000 bytes
new_file : Option Seqs → NewFile
unfolding put_a
new_file seqs = record { level = 0; number = 4; size = 1000; smallest = put_a; largest = put_a; seqs = seqs }

of_a_sequenced_file : edit_bytes (add_file (new_file (Some (record { least = 1; greatest = 1 }))) ∷ [])
    ≡ 0x67 ∷ 0 ∷ 4 ∷ 0xE8 ∷ 7 ∷ 9 ∷ 0x61 ∷ 1 ∷ 1 ∷ 0 ∷ 0 ∷ 0 ∷ 0 ∷ 0 ∷ 0 ∷ 9 ∷ 0x61 ∷ 1 ∷ 1 ∷ 0 ∷ 0 ∷ 0 ∷ 0 ∷
    0 ∷ 0 ∷ 1 ∷ 1 ∷ 1 ∷ []
unfolding edit_bytes new_file put_a internal_key
of_a_sequenced_file = refl

of_a_file : edit_bytes (add_file (new_file None) ∷ [])
    ≡ 7 ∷ 0 ∷ 4 ∷ 0xE8 ∷ 7 ∷ 9 ∷ 0x61 ∷ 1 ∷ 1 ∷ 0 ∷ 0 ∷ 0 ∷ 0 ∷ 0 ∷ 0 ∷ 9 ∷ 0x61 ∷ 1 ∷ 1 ∷ 0 ∷ 0 ∷ 0 ∷ 0 ∷ 0 ∷
    0 ∷ []
unfolding edit_bytes new_file put_a internal_key
of_a_file = refl

of_other_fields : edit_bytes (compact_cursor 2 put_a ∷ delete_file 255 300 ∷ previous_log 1 ∷ least_log (2 ^ 64 - 1) ∷ family (2 ^ 32 - 1) ∷ family_add (codes "f") ∷ greatest_family 128 ∷ group 0 ∷ family_drop ∷ [])
    ≡ 5 ∷ 2 ∷ 9 ∷ 0x61 ∷ 1 ∷ 1 ∷ 0 ∷ 0 ∷ 0 ∷ 0 ∷ 0 ∷ 0 ∷ 6 ∷ 0xFF ∷ 1 ∷ 0xAC ∷ 2 ∷ 9 ∷ 1 ∷ 0x0A ∷ 0xFF ∷
    0xFF ∷ 0xFF ∷ 0xFF ∷ 0xFF ∷ 0xFF ∷ 0xFF ∷ 0xFF ∷ 0xFF ∷ 1 ∷ 0xC8 ∷ 1 ∷ 0xFF ∷ 0xFF ∷ 0xFF ∷ 0xFF ∷
    0x0F ∷ 0xC9 ∷ 1 ∷ 1 ∷ 0x66 ∷ 0xCB ∷ 1 ∷ 0x80 ∷ 1 ∷ 0xAC ∷ 2 ∷ 0 ∷ 0xCA ∷ 1 ∷ []
unfolding edit_bytes put_a internal_key
of_other_fields = refl

of_tracked_logs : edit_bytes (wal_add 3 (Some 48) ∷ wal_add 300 None ∷ wal_delete 4 ∷ [])
    ≡ 0x87 ∷ 0x40 ∷ 4 ∷ 3 ∷ 2 ∷ 0x30 ∷ 1 ∷ 0x87 ∷ 0x40 ∷ 3 ∷ 0xAC ∷ 2 ∷ 1 ∷ 0x88 ∷ 0x40 ∷ 1 ∷ 4 ∷ []
unfolding edit_bytes
of_tracked_logs = refl
