-- Worked examples of what a repair writes. The bytes were computed outside.
use Rattle.std.specs.Prelude.{◌≡◌, ℕ, List, [], ◌∷◌, ◌++◌, replicate, Some, codes, refl}
use Rattle.rk_bytes.specs.declared.model.key.Kind.{Kind}
use Rattle.rk_bytes.specs.declared.model.key.Kind.TheVariants.{Deletion, Value, RangeDeletion}
use Rattle.rk_bytes.specs.declared.model.key.Record.{Record}
use Rattle.rk_bytes.specs.Model.Checksums.{crc_bit, crc_bits, crc_bytes, crc32c, pieces}
use Rattle.rk_bytes.specs.Model.InternalKey.{internal_key}
use Rattle.rk_bytes.specs.Model.LogMarks.{block_len}
use Rattle.rk_bytes.specs.Model.VersionEdit.{NewFile}
use Rattle.rk_bytes.specs.Model.WrittenLogs.{fragment_bytes, record_fragments, record_pieces, written_record, written_log}
use Rattle.rk_bytes.specs.Model.Writers.{RepairedFamily, grouped, run_bytes, block_bytes, table_bytes, edit_bytes, repair_manifest, added_table, fresh_numbers}

-- the internal key of a put of `a` at sequence number 1
put_a : List ℕ
unfolding internal_key
put_a = internal_key (codes "a") 1 Value

-- a table of that one record, of this number and size
listed : ℕ → ℕ → NewFile
unfolding put_a
listed number size = record { level = 0; number = number; size = size; smallest = put_a; largest = put_a; seqs = Some (record { least = 1; greatest = 1 }) }

-- the default family of a repaired directory
default_family : List NewFile → RepairedFamily
default_family files = record { id = 0; name = codes "default"; files = files }

of_an_empty_repair : repair_manifest (record { log_number = 3; next_file = 4; last_sequence = 0; families = default_family [] ∷ [] })
    ≡ (0x3E ∷ 0xA7 ∷ 0x14 ∷ 0xD9 ∷ 0x25 ∷ 0 ∷ 1 ∷ 1 ∷ 0x1A ∷ []) ++ codes "leveldb.BytewiseComparator" ++ 2 ∷
    3 ∷ 3 ∷ 4 ∷ 4 ∷ 0 ∷ 0xCB ∷ 1 ∷ 0 ∷ []
unfolding repair_manifest default_family edit_bytes written_log written_record block_len record_pieces pieces record_fragments fragment_bytes crc32c crc_bytes crc_bits crc_bit
of_an_empty_repair = refl

of_three_families : repair_manifest (record { log_number = 11; next_file = 12; last_sequence = 7; families = default_family (listed 4 1000 ∷ listed 8 1000 ∷ []) ∷ record { id = 2; name = codes "f"; files = listed 5 1000 ∷ [] } ∷ record { id = 3; name = codes "g"; files = [] } ∷ [] })
    ≡ (0xBD ∷ 0x42 ∷ 0x62 ∷ 0x1B ∷ 0x5D ∷ 0 ∷ 1 ∷ 1 ∷ 0x1A ∷ []) ++ codes "leveldb.BytewiseComparator" ++ (2 ∷
    0x0B ∷ 3 ∷ 0x0C ∷ 4 ∷ 7 ∷ 0xCB ∷ 1 ∷ 3 ∷ 0x67 ∷ 0 ∷ 4 ∷ 0xE8 ∷ 7 ∷ 9 ∷ 0x61 ∷ 1 ∷ 1 ∷ 0 ∷ 0 ∷ 0 ∷ 0 ∷
    0 ∷ 0 ∷ 9 ∷ 0x61 ∷ 1 ∷ 1 ∷ 0 ∷ 0 ∷ 0 ∷ 0 ∷ 0 ∷ 0 ∷ 1 ∷ 1 ∷ 1 ∷ 0x67 ∷ 0 ∷ 8 ∷ 0xE8 ∷ 7 ∷ 9 ∷ 0x61 ∷ 1 ∷
    1 ∷ 0 ∷ 0 ∷ 0 ∷ 0 ∷ 0 ∷ 0 ∷ 9 ∷ 0x61 ∷ 1 ∷ 1 ∷ 0 ∷ 0 ∷ 0 ∷ 0 ∷ 0 ∷ 0 ∷ 1 ∷ 1 ∷ 1 ∷ 0x43 ∷ 0x72 ∷ 0x32 ∷
    5 ∷ 0x25 ∷ 0 ∷ 1 ∷ 0xC8 ∷ 1 ∷ 2 ∷ 0xC9 ∷ 1 ∷ 1 ∷ 0x66 ∷ 1 ∷ 0x1A ∷ []) ++
    codes "leveldb.BytewiseComparator" ++ (2 ∷ 0x0B ∷ 0xDE ∷ 0x87 ∷ 0x93 ∷ 0x0A ∷ 0x1F ∷ 0 ∷ 1 ∷ 0xC8 ∷ 1 ∷
    2 ∷ 0x67 ∷ 0 ∷ 5 ∷ 0xE8 ∷ 7 ∷ 9 ∷ 0x61 ∷ 1 ∷ 1 ∷ 0 ∷ 0 ∷ 0 ∷ 0 ∷ 0 ∷ 0 ∷ 9 ∷ 0x61 ∷ 1 ∷ 1 ∷ 0 ∷ 0 ∷ 0 ∷
    0 ∷ 0 ∷ 0 ∷ 1 ∷ 1 ∷ 1 ∷ 0x80 ∷ 0x20 ∷ 0x76 ∷ 0x32 ∷ 0x25 ∷ 0 ∷ 1 ∷ 0xC8 ∷ 1 ∷ 3 ∷ 0xC9 ∷ 1 ∷ 1 ∷ 0x67 ∷
    1 ∷ 0x1A ∷ []) ++ codes "leveldb.BytewiseComparator" ++ 2 ∷ 0x0B ∷ []
unfolding repair_manifest default_family listed put_a internal_key edit_bytes written_log written_record block_len record_pieces pieces record_fragments fragment_bytes crc32c crc_bytes crc_bits crc_bit
of_three_families = refl

-- the internal key of a put of `b` at sequence number 2
put_b : List ℕ
unfolding internal_key
put_b = internal_key (codes "b") 2 Value

of_an_added_table : added_table 0 (codes "default") (record { family = 0; key = codes "b"; sequence = 2; kind = Value; value = codes "seven" } ∷ [])
    ≡ (0 ∷ 9 ∷ 5 ∷ 0x62 ∷ 1 ∷ 2 ∷ 0 ∷ 0 ∷ 0 ∷ 0 ∷ 0 ∷ 0 ∷ []) ++ codes "seven" ++ (0 ∷ 0 ∷ 0 ∷ 0 ∷ 1 ∷ 0 ∷ 0 ∷
    0 ∷ 0 ∷ 0x44 ∷ 0x91 ∷ 0x9B ∷ 0x10 ∷ 0 ∷ 0x24 ∷ 4 ∷ []) ++
    codes "rocksdb.block.based.table.index.type" ++ (0 ∷ 0 ∷ 0 ∷ 0 ∷ 0 ∷ 0x18 ∷ 1 ∷ []) ++
    codes "rocksdb.column.family.id" ++ (0 ∷ 0 ∷ 0x1A ∷ 7 ∷ []) ++
    codes "rocksdb.column.family.namedefault" ++ (0 ∷ 0x12 ∷ 0x1A ∷ []) ++
    codes "rocksdb.comparatorleveldb.BytewiseComparator" ++ (0 ∷ 0x1D ∷ 1 ∷ []) ++
    codes "rocksdb.index.key.is.user.key" ++ (0 ∷ 0 ∷ 0x24 ∷ 1 ∷ []) ++
    codes "rocksdb.index.value.is.delta.encoded" ++ (0 ∷ 0 ∷ 0x13 ∷ 1 ∷ []) ++
    codes "rocksdb.num.entries" ++ (1 ∷ 0 ∷ 0x14 ∷ 1 ∷ []) ++ codes "rocksdb.raw.key.size" ++ (9 ∷ 0 ∷
    0x16 ∷ 1 ∷ []) ++ codes "rocksdb.raw.value.size" ++ (5 ∷ 0 ∷ 0 ∷ 0 ∷ 0 ∷ 0x2B ∷ 0 ∷ 0 ∷ 0 ∷ 0x47 ∷ 0 ∷
    0 ∷ 0 ∷ 0x6B ∷ 0 ∷ 0 ∷ 0 ∷ 0x9A ∷ 0 ∷ 0 ∷ 0 ∷ 0xBB ∷ 0 ∷ 0 ∷ 0 ∷ 0xE3 ∷ 0 ∷ 0 ∷ 0 ∷ 0xFA ∷ 0 ∷ 0 ∷ 0 ∷
    0x12 ∷ 1 ∷ 0 ∷ 0 ∷ 9 ∷ 0 ∷ 0 ∷ 0 ∷ 0 ∷ 0x3A ∷ 0xA9 ∷ 0xF1 ∷ 0x49 ∷ 0 ∷ 0x12 ∷ 3 ∷ []) ++
    codes "rocksdb.properties" ++ (0x1E ∷ 0xD4 ∷ 2 ∷ 0 ∷ 0 ∷ 0 ∷ 0 ∷ 1 ∷ 0 ∷ 0 ∷ 0 ∷ 0 ∷ 0x75 ∷ 0xBD ∷
    0xE4 ∷ 0x85 ∷ 0 ∷ 9 ∷ 2 ∷ 0x62 ∷ 1 ∷ 2 ∷ 0 ∷ 0 ∷ 0 ∷ 0 ∷ 0 ∷ 0 ∷ 0 ∷ 0x19 ∷ 0 ∷ 0 ∷ 0 ∷ 0 ∷ 1 ∷ 0 ∷ 0 ∷
    0 ∷ 0 ∷ 0xA7 ∷ 0xF0 ∷ 0x46 ∷ 0xBF ∷ 1 ∷ 0xF7 ∷ 2 ∷ 0x20 ∷ 0x9C ∷ 3 ∷ 0x16 ∷ []) ++ replicate 34 0 ++ 2 ∷
    0 ∷ 0 ∷ 0 ∷ 0xF7 ∷ 0xCF ∷ 0xF4 ∷ 0x85 ∷ 0xB7 ∷ 0x41 ∷ 0xE2 ∷ 0x88 ∷ []
unfolding added_table table_bytes block_bytes run_bytes grouped internal_key crc32c crc_bytes crc_bits crc_bit
of_an_added_table = refl

with_the_added_table : repair_manifest (record { log_number = 11; next_file = 12; last_sequence = 2; families = default_family (listed 4 430 ∷ record { level = 0; number = 8; size = 492; smallest = put_b; largest = put_b; seqs = Some (record { least = 2; greatest = 2 }) } ∷ []) ∷ [] })
    ≡ (0x6A ∷ 0x5C ∷ 0xB1 ∷ 0xB9 ∷ 0x5D ∷ 0 ∷ 1 ∷ 1 ∷ 0x1A ∷ []) ++ codes "leveldb.BytewiseComparator" ++ 2 ∷
    0x0B ∷ 3 ∷ 0x0C ∷ 4 ∷ 2 ∷ 0xCB ∷ 1 ∷ 0 ∷ 0x67 ∷ 0 ∷ 4 ∷ 0xAE ∷ 3 ∷ 9 ∷ 0x61 ∷ 1 ∷ 1 ∷ 0 ∷ 0 ∷ 0 ∷ 0 ∷
    0 ∷ 0 ∷ 9 ∷ 0x61 ∷ 1 ∷ 1 ∷ 0 ∷ 0 ∷ 0 ∷ 0 ∷ 0 ∷ 0 ∷ 1 ∷ 1 ∷ 1 ∷ 0x67 ∷ 0 ∷ 8 ∷ 0xEC ∷ 3 ∷ 9 ∷ 0x62 ∷ 1 ∷
    2 ∷ 0 ∷ 0 ∷ 0 ∷ 0 ∷ 0 ∷ 0 ∷ 9 ∷ 0x62 ∷ 1 ∷ 2 ∷ 0 ∷ 0 ∷ 0 ∷ 0 ∷ 0 ∷ 0 ∷ 2 ∷ 2 ∷ 1 ∷ []
unfolding repair_manifest default_family listed put_a put_b internal_key edit_bytes written_log written_record block_len record_pieces pieces record_fragments fragment_bytes crc32c crc_bytes crc_bits crc_bit
with_the_added_table = refl

-- a record of the key `a`
of_key : ℕ → Kind → List ℕ → Record
of_key sequence kind value = record { family = 2; key = codes "a"; sequence = sequence; kind = kind; value = value }

of_mixed_records : added_table 2 (codes "f") (of_key 3 Value (codes "x") ∷ of_key 2 RangeDeletion (codes "b") ∷ of_key 2 RangeDeletion (codes "c") ∷ of_key 1 Deletion [] ∷ [])
    ≡ (0 ∷ 9 ∷ 1 ∷ 0x61 ∷ 1 ∷ 3 ∷ 0 ∷ 0 ∷ 0 ∷ 0 ∷ 0 ∷ 0 ∷ 0x78 ∷ 1 ∷ 8 ∷ 0 ∷ 0 ∷ 1 ∷ []) ++ replicate 10 0 ++
    (1 ∷ 0 ∷ 0 ∷ 0 ∷ 0 ∷ 0x36 ∷ 0xED ∷ 0x73 ∷ 0xD3 ∷ 0 ∷ 9 ∷ 1 ∷ 0x61 ∷ 0x0F ∷ 2 ∷ 0 ∷ 0 ∷ 0 ∷ 0 ∷ 0 ∷ 0 ∷
    0x62 ∷ 0 ∷ 9 ∷ 1 ∷ 0x61 ∷ 0x0F ∷ 2 ∷ 0 ∷ 0 ∷ 0 ∷ 0 ∷ 0 ∷ 0 ∷ 0x63 ∷ 0 ∷ 0 ∷ 0 ∷ 0 ∷ 0x0D ∷ 0 ∷ 0 ∷ 0 ∷
    2 ∷ 0 ∷ 0 ∷ 0 ∷ 0 ∷ 0xF4 ∷ 0x3B ∷ 0xEF ∷ 0xD4 ∷ 0 ∷ 0x24 ∷ 4 ∷ []) ++
    codes "rocksdb.block.based.table.index.type" ++ (0 ∷ 0 ∷ 0 ∷ 0 ∷ 0 ∷ 0x18 ∷ 1 ∷ []) ++
    codes "rocksdb.column.family.id" ++ (2 ∷ 0 ∷ 0x1A ∷ 1 ∷ []) ++ codes "rocksdb.column.family.namef" ++
    (0 ∷ 0x12 ∷ 0x1A ∷ []) ++ codes "rocksdb.comparatorleveldb.BytewiseComparator" ++ (0 ∷ 0x1D ∷ 1 ∷ []) ++
    codes "rocksdb.index.key.is.user.key" ++ (0 ∷ 0 ∷ 0x24 ∷ 1 ∷ []) ++
    codes "rocksdb.index.value.is.delta.encoded" ++ (0 ∷ 0 ∷ 0x13 ∷ 1 ∷ []) ++
    codes "rocksdb.num.entries" ++ (4 ∷ 0 ∷ 0x14 ∷ 1 ∷ []) ++ codes "rocksdb.raw.key.size" ++ (0x24 ∷ 0 ∷
    0x16 ∷ 1 ∷ []) ++ codes "rocksdb.raw.value.size" ++ (3 ∷ 0 ∷ 0 ∷ 0 ∷ 0 ∷ 0x2B ∷ 0 ∷ 0 ∷ 0 ∷ 0x47 ∷ 0 ∷
    0 ∷ 0 ∷ 0x65 ∷ 0 ∷ 0 ∷ 0 ∷ 0x94 ∷ 0 ∷ 0 ∷ 0 ∷ 0xB5 ∷ 0 ∷ 0 ∷ 0 ∷ 0xDD ∷ 0 ∷ 0 ∷ 0 ∷ 0xF4 ∷ 0 ∷ 0 ∷ 0 ∷
    0x0C ∷ 1 ∷ 0 ∷ 0 ∷ 9 ∷ 0 ∷ 0 ∷ 0 ∷ 0 ∷ 8 ∷ 0x9D ∷ 0x61 ∷ 0x6F ∷ 0 ∷ 0x12 ∷ 3 ∷ []) ++
    codes "rocksdb.propertiesP" ++ (0xCE ∷ 2 ∷ 0 ∷ 0x11 ∷ 2 ∷ []) ++ codes "rocksdb.range_del" ++ (0x25 ∷
    0x26 ∷ 0 ∷ 0 ∷ 0 ∷ 0 ∷ 0x18 ∷ 0 ∷ 0 ∷ 0 ∷ 2 ∷ 0 ∷ 0 ∷ 0 ∷ 0 ∷ 0xF2 ∷ 0x3C ∷ 0xDC ∷ 0xA4 ∷ 0 ∷ 9 ∷ 2 ∷
    0x61 ∷ 0 ∷ 1 ∷ 0 ∷ 0 ∷ 0 ∷ 0 ∷ 0 ∷ 0 ∷ 0 ∷ 0x20 ∷ 0 ∷ 0 ∷ 0 ∷ 0 ∷ 1 ∷ 0 ∷ 0 ∷ 0 ∷ 0 ∷ 0x12 ∷ 0xC5 ∷ 6 ∷
    0x23 ∷ 1 ∷ 0xA3 ∷ 3 ∷ 0x3A ∷ 0xE2 ∷ 3 ∷ 0x16 ∷ []) ++ replicate 34 0 ++ 2 ∷ 0 ∷ 0 ∷ 0 ∷ 0xF7 ∷ 0xCF ∷
    0xF4 ∷ 0x85 ∷ 0xB7 ∷ 0x41 ∷ 0xE2 ∷ 0x88 ∷ []
unfolding added_table of_key table_bytes block_bytes run_bytes grouped internal_key crc32c crc_bytes crc_bits crc_bit
of_mixed_records = refl

of_fresh_numbers : fresh_numbers 7 2 ≡ record { tables = 8 ∷ 9 ∷ []; manifest = 10; current = 11; log_number = 12; next_file = 13 }
of_fresh_numbers = refl
