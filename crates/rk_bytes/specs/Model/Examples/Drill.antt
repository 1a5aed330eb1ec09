-- Worked examples of the drill's directory, for one key and for two. The bytes were computed outside.
use Rattle.std.specs.Prelude.{◌≡◌, ℕ, List, [], ◌∷◌, ◌++◌, map, replicate, Option, Some, None, Result, Ok, Err, codes, refl}
use Rattle.std.specs.Fmt.{digits}
use Rattle.rk_bytes.specs.declared.model.key.Kind.TheVariants.{Value}
use Rattle.rk_bytes.specs.declared.model.key.Record.{Record}
use Rattle.rk_bytes.specs.Model.BlockEntries.{block_entries, entries_after, index_entries}
use Rattle.rk_bytes.specs.Model.Checksums.{crc_bit, crc_bits, crc_bytes, crc32c, pieces}
use Rattle.rk_bytes.specs.Model.Drill.{drill_files, drill_log, drill_manifest, drill_table, drill_torn_log}
use Rattle.rk_bytes.specs.Model.InternalKey.{internal_key}
use Rattle.rk_bytes.specs.Model.LogMarks.{block_len}
use Rattle.rk_bytes.specs.Model.TableFooter.{footer_of, checked_block}
use Rattle.rk_bytes.specs.Model.TableStatus.{Good, TableFault, property_list, range_list, table_with, table_status}
use Rattle.rk_bytes.specs.Model.Writers.{batch_bytes, block_bytes, edit_bytes, grouped, run_bytes, table_bytes}
use Rattle.rk_bytes.specs.Model.WrittenLogs.{fragment_bytes, record_fragments, record_pieces, written_record, written_log}

table_of_one : drill_table 1
    ≡ (0 ∷ 0x10 ∷ 8 ∷ 0 ∷ 0 ∷ 0 ∷ 0 ∷ 0 ∷ 0 ∷ 0 ∷ 1 ∷ 1 ∷ 1 ∷ []) ++ replicate 10 0 ++ (0x9E ∷ 0x37 ∷ 0x79 ∷
    0xB1 ∷ 0 ∷ 0 ∷ 0 ∷ 0 ∷ 1 ∷ 0 ∷ 0 ∷ 0 ∷ 0 ∷ 0xCB ∷ 0x28 ∷ 0x4E ∷ 0x4A ∷ 0 ∷ 0x24 ∷ 4 ∷ []) ++
    codes "rocksdb.block.based.table.index.type" ++ (0 ∷ 0 ∷ 0 ∷ 0 ∷ 0 ∷ 0x18 ∷ 1 ∷ []) ++
    codes "rocksdb.column.family.id" ++ (0 ∷ 0 ∷ 0x1A ∷ 7 ∷ []) ++
    codes "rocksdb.column.family.namedefault" ++ (0 ∷ 0x12 ∷ 0x1A ∷ []) ++
    codes "rocksdb.comparatorleveldb.BytewiseComparator" ++ (0 ∷ 0x1D ∷ 1 ∷ []) ++
    codes "rocksdb.index.key.is.user.key" ++ (0 ∷ 0 ∷ 0x24 ∷ 1 ∷ []) ++
    codes "rocksdb.index.value.is.delta.encoded" ++ (0 ∷ 0 ∷ 0x13 ∷ 1 ∷ []) ++
    codes "rocksdb.num.entries" ++ (1 ∷ 0 ∷ 0 ∷ 0 ∷ 0 ∷ 0x2B ∷ 0 ∷ 0 ∷ 0 ∷ 0x47 ∷ 0 ∷ 0 ∷ 0 ∷ 0x6B ∷ 0 ∷ 0 ∷
    0 ∷ 0x9A ∷ 0 ∷ 0 ∷ 0 ∷ 0xBB ∷ 0 ∷ 0 ∷ 0 ∷ 0xE3 ∷ 0 ∷ 0 ∷ 0 ∷ 7 ∷ 0 ∷ 0 ∷ 0 ∷ 0 ∷ 0xCE ∷ 0xE3 ∷ 0xDE ∷
    0x66 ∷ 0 ∷ 0x12 ∷ 3 ∷ []) ++ codes "rocksdb.properties" ++ (0x28 ∷ 0x9A ∷ 2 ∷ 0 ∷ 0 ∷ 0 ∷ 0 ∷ 1 ∷ 0 ∷
    0 ∷ 0 ∷ 0 ∷ 0xF8 ∷ 0x79 ∷ 0xD6 ∷ 0xFA ∷ 0 ∷ 0x10 ∷ 2 ∷ 0 ∷ 0 ∷ 0 ∷ 0 ∷ 0 ∷ 0 ∷ 0 ∷ 1 ∷ 1 ∷ 1 ∷ 0 ∷ 0 ∷
    0 ∷ 0 ∷ 0 ∷ 0 ∷ 0 ∷ 0x23 ∷ 0 ∷ 0 ∷ 0 ∷ 0 ∷ 1 ∷ 0 ∷ 0 ∷ 0 ∷ 0 ∷ 0xD8 ∷ 0x24 ∷ 0x45 ∷ 0x81 ∷ 1 ∷ 0xC7 ∷
    2 ∷ 0x20 ∷ 0xEC ∷ 2 ∷ 0x1D ∷ []) ++ replicate 34 0 ++ 2 ∷ 0 ∷ 0 ∷ 0 ∷ 0xF7 ∷ 0xCF ∷ 0xF4 ∷ 0x85 ∷ 0xB7 ∷
    0x41 ∷ 0xE2 ∷ 0x88 ∷ []
unfolding drill_table table_bytes block_bytes run_bytes grouped internal_key crc32c crc_bytes crc_bits crc_bit
table_of_one = refl

torn_log_of_one : drill_torn_log 1
    ≡ 0x13 ∷ 0xC8 ∷ 0xE7 ∷ 0x11 ∷ 0x1F ∷ 0 ∷ 1 ∷ 2 ∷ 0 ∷ 0 ∷ 0 ∷ 0 ∷ 0 ∷ 0 ∷ 0 ∷ 1 ∷ 0 ∷ 0 ∷ 0 ∷ 1 ∷ 8 ∷ 0 ∷
    0 ∷ 0 ∷ 0 ∷ 0 ∷ 0 ∷ 0 ∷ 2 ∷ 8 ∷ 0 ∷ 0 ∷ 0 ∷ 1 ∷ 0x3C ∷ 0x6E ∷ 0xF3 ∷ []
unfolding drill_torn_log batch_bytes written_log written_record block_len record_pieces pieces record_fragments fragment_bytes crc32c crc_bytes crc_bits crc_bit
torn_log_of_one = refl

log_of_one : drill_log 1
    ≡ 0xC6 ∷ 0xB1 ∷ 0xC9 ∷ 0x17 ∷ 0x1F ∷ 0 ∷ 1 ∷ 3 ∷ 0 ∷ 0 ∷ 0 ∷ 0 ∷ 0 ∷ 0 ∷ 0 ∷ 1 ∷ 0 ∷ 0 ∷ 0 ∷ 1 ∷ 8 ∷ 0 ∷
    0 ∷ 0 ∷ 0 ∷ 0 ∷ 0 ∷ 0 ∷ 1 ∷ 8 ∷ 0 ∷ 0 ∷ 0 ∷ 1 ∷ 0xDA ∷ 0xA6 ∷ 0x6D ∷ 0x13 ∷ []
unfolding drill_log batch_bytes written_log written_record block_len record_pieces pieces record_fragments fragment_bytes crc32c crc_bytes crc_bits crc_bit
log_of_one = refl

manifest_of_one : drill_manifest 1
    ≡ (0x2A ∷ 0x4F ∷ 0x8A ∷ 0x28 ∷ 0x4C ∷ 0 ∷ 1 ∷ 1 ∷ 0x1A ∷ []) ++ codes "leveldb.BytewiseComparator" ++ 2 ∷
    5 ∷ 3 ∷ 7 ∷ 4 ∷ 1 ∷ 0x67 ∷ 0 ∷ 4 ∷ 0xC3 ∷ 3 ∷ 0x10 ∷ 0 ∷ 0 ∷ 0 ∷ 0 ∷ 0 ∷ 0 ∷ 0 ∷ 1 ∷ 1 ∷ 1 ∷ 0 ∷ 0 ∷ 0 ∷
    0 ∷ 0 ∷ 0 ∷ 0x10 ∷ 0 ∷ 0 ∷ 0 ∷ 0 ∷ 0 ∷ 0 ∷ 0 ∷ 1 ∷ 1 ∷ 1 ∷ 0 ∷ 0 ∷ 0 ∷ 0 ∷ 0 ∷ 0 ∷ 1 ∷ 1 ∷ 1 ∷ []
unfolding drill_manifest drill_table edit_bytes written_log written_record block_len record_pieces pieces record_fragments fragment_bytes table_bytes block_bytes run_bytes grouped internal_key crc32c crc_bytes crc_bits crc_bit
manifest_of_one = refl

table_of_two : drill_table 2
    ≡ (0 ∷ 0x10 ∷ 8 ∷ 0 ∷ 0 ∷ 0 ∷ 0 ∷ 0 ∷ 0 ∷ 0 ∷ 1 ∷ 1 ∷ 1 ∷ []) ++ replicate 10 0 ++ (0x9E ∷ 0x37 ∷ 0x79 ∷
    0xB1 ∷ 7 ∷ 9 ∷ 8 ∷ 2 ∷ 1 ∷ 2 ∷ 0 ∷ 0 ∷ 0 ∷ 0 ∷ 0 ∷ 0 ∷ 0 ∷ 0 ∷ 0 ∷ 1 ∷ 0x3C ∷ 0x6E ∷ 0xF3 ∷ 0x62 ∷ 0 ∷
    0 ∷ 0 ∷ 0 ∷ 1 ∷ 0 ∷ 0 ∷ 0 ∷ 0 ∷ 0x7F ∷ 1 ∷ 0xEC ∷ 0x31 ∷ 0 ∷ 0x24 ∷ 4 ∷ []) ++
    codes "rocksdb.block.based.table.index.type" ++ (0 ∷ 0 ∷ 0 ∷ 0 ∷ 0 ∷ 0x18 ∷ 1 ∷ []) ++
    codes "rocksdb.column.family.id" ++ (0 ∷ 0 ∷ 0x1A ∷ 7 ∷ []) ++
    codes "rocksdb.column.family.namedefault" ++ (0 ∷ 0x12 ∷ 0x1A ∷ []) ++
    codes "rocksdb.comparatorleveldb.BytewiseComparator" ++ (0 ∷ 0x1D ∷ 1 ∷ []) ++
    codes "rocksdb.index.key.is.user.key" ++ (0 ∷ 0 ∷ 0x24 ∷ 1 ∷ []) ++
    codes "rocksdb.index.value.is.delta.encoded" ++ (0 ∷ 0 ∷ 0x13 ∷ 1 ∷ []) ++
    codes "rocksdb.num.entries" ++ (2 ∷ 0 ∷ 0 ∷ 0 ∷ 0 ∷ 0x2B ∷ 0 ∷ 0 ∷ 0 ∷ 0x47 ∷ 0 ∷ 0 ∷ 0 ∷ 0x6B ∷ 0 ∷ 0 ∷
    0 ∷ 0x9A ∷ 0 ∷ 0 ∷ 0 ∷ 0xBB ∷ 0 ∷ 0 ∷ 0 ∷ 0xE3 ∷ 0 ∷ 0 ∷ 0 ∷ 7 ∷ 0 ∷ 0 ∷ 0 ∷ 0 ∷ 0xA5 ∷ 0xE9 ∷ 0x3F ∷
    0x9F ∷ 0 ∷ 0x12 ∷ 3 ∷ []) ++ codes "rocksdb.properties" ++ (0x3C ∷ 0x9A ∷ 2 ∷ 0 ∷ 0 ∷ 0 ∷ 0 ∷ 1 ∷ 0 ∷
    0 ∷ 0 ∷ 0 ∷ 0xD5 ∷ 0x21 ∷ 0x77 ∷ 0xEC ∷ 0 ∷ 0x10 ∷ 2 ∷ 0 ∷ 0 ∷ 0 ∷ 0 ∷ 0 ∷ 0 ∷ 0 ∷ 2 ∷ 1 ∷ 2 ∷ 0 ∷ 0 ∷
    0 ∷ 0 ∷ 0 ∷ 0 ∷ 0 ∷ 0x37 ∷ 0 ∷ 0 ∷ 0 ∷ 0 ∷ 1 ∷ 0 ∷ 0 ∷ 0 ∷ 0 ∷ 0x27 ∷ 0xE2 ∷ 4 ∷ 0x47 ∷ 1 ∷ 0xDB ∷ 2 ∷
    0x20 ∷ 0x80 ∷ 3 ∷ 0x1D ∷ []) ++ replicate 34 0 ++ 2 ∷ 0 ∷ 0 ∷ 0 ∷ 0xF7 ∷ 0xCF ∷ 0xF4 ∷ 0x85 ∷ 0xB7 ∷
    0x41 ∷ 0xE2 ∷ 0x88 ∷ []
unfolding drill_table table_bytes block_bytes run_bytes grouped internal_key crc32c crc_bytes crc_bits crc_bit
table_of_two = refl

torn_log_of_two : drill_torn_log 2
    ≡ 0x47 ∷ 0xCB ∷ 0xB4 ∷ 0x18 ∷ 0x1F ∷ 0 ∷ 1 ∷ 3 ∷ 0 ∷ 0 ∷ 0 ∷ 0 ∷ 0 ∷ 0 ∷ 0 ∷ 1 ∷ 0 ∷ 0 ∷ 0 ∷ 1 ∷ 8 ∷ 0 ∷
    0 ∷ 0 ∷ 0 ∷ 0 ∷ 0 ∷ 0 ∷ 3 ∷ 8 ∷ 0 ∷ 0 ∷ 0 ∷ 1 ∷ 0xDA ∷ 0xA6 ∷ 0x6D ∷ 0x13 ∷ 0x79 ∷ 0x78 ∷ 0x79 ∷ 0x29 ∷
    0x1F ∷ 0 ∷ 1 ∷ 4 ∷ 0 ∷ 0 ∷ 0 ∷ 0 ∷ 0 ∷ 0 ∷ 0 ∷ 1 ∷ 0 ∷ 0 ∷ 0 ∷ 1 ∷ 8 ∷ 0 ∷ 0 ∷ 0 ∷ 0 ∷ 0 ∷ 0 ∷ 0 ∷ 4 ∷
    8 ∷ 0 ∷ 0 ∷ 0 ∷ 2 ∷ 0x78 ∷ 0xDD ∷ 0xE6 ∷ []
unfolding drill_torn_log batch_bytes written_log written_record block_len record_pieces pieces record_fragments fragment_bytes crc32c crc_bytes crc_bits crc_bit
torn_log_of_two = refl

log_of_two : drill_log 2
    ≡ 0xCF ∷ 0xA2 ∷ 0x50 ∷ 0x25 ∷ 0x1F ∷ 0 ∷ 1 ∷ 5 ∷ 0 ∷ 0 ∷ 0 ∷ 0 ∷ 0 ∷ 0 ∷ 0 ∷ 1 ∷ 0 ∷ 0 ∷ 0 ∷ 1 ∷ 8 ∷ 0 ∷
    0 ∷ 0 ∷ 0 ∷ 0 ∷ 0 ∷ 0 ∷ 1 ∷ 8 ∷ 0 ∷ 0 ∷ 0 ∷ 3 ∷ 0x17 ∷ 0x15 ∷ 0x60 ∷ 0x75 ∷ 8 ∷ 0x9E ∷ 0xF5 ∷ 0xB0 ∷
    0x1F ∷ 0 ∷ 1 ∷ 6 ∷ 0 ∷ 0 ∷ 0 ∷ 0 ∷ 0 ∷ 0 ∷ 0 ∷ 1 ∷ 0 ∷ 0 ∷ 0 ∷ 1 ∷ 8 ∷ 0 ∷ 0 ∷ 0 ∷ 0 ∷ 0 ∷ 0 ∷ 0 ∷ 2 ∷
    8 ∷ 0 ∷ 0 ∷ 0 ∷ 3 ∷ 0xB5 ∷ 0x4C ∷ 0xDA ∷ 0x26 ∷ []
unfolding drill_log batch_bytes written_log written_record block_len record_pieces pieces record_fragments fragment_bytes crc32c crc_bytes crc_bits crc_bit
log_of_two = refl

manifest_of_two : drill_manifest 2
    ≡ (0xEF ∷ 0x5D ∷ 0x5C ∷ 0xD3 ∷ 0x4C ∷ 0 ∷ 1 ∷ 1 ∷ 0x1A ∷ []) ++ codes "leveldb.BytewiseComparator" ++ 2 ∷
    5 ∷ 3 ∷ 7 ∷ 4 ∷ 2 ∷ 0x67 ∷ 0 ∷ 4 ∷ 0xD7 ∷ 3 ∷ 0x10 ∷ 0 ∷ 0 ∷ 0 ∷ 0 ∷ 0 ∷ 0 ∷ 0 ∷ 1 ∷ 1 ∷ 1 ∷ 0 ∷ 0 ∷ 0 ∷
    0 ∷ 0 ∷ 0 ∷ 0x10 ∷ 0 ∷ 0 ∷ 0 ∷ 0 ∷ 0 ∷ 0 ∷ 0 ∷ 2 ∷ 1 ∷ 2 ∷ 0 ∷ 0 ∷ 0 ∷ 0 ∷ 0 ∷ 0 ∷ 1 ∷ 2 ∷ 1 ∷ []
unfolding drill_manifest drill_table edit_bytes written_log written_record block_len record_pieces pieces record_fragments fragment_bytes table_bytes block_bytes run_bytes grouped internal_key crc32c crc_bytes crc_bits crc_bit
manifest_of_two = refl

names : map (λ file. file.0) (drill_files 1)
    ≡ codes "000004.sst" ∷ codes "000005.log" ∷ codes "000006.log" ∷ codes "CURRENT" ∷ codes "MANIFEST-000002" ∷ []
unfolding digits
names = refl

-- the records, and the bounds, of a table
records_in : Result Good TableFault → List Record
records_in (Ok table) = table.records
records_in (Err fault) = []

bounds_in : Result Good TableFault → Option (List ℕ) × Option (List ℕ)
bounds_in (Ok table) = (table.table.smallest, table.table.largest)
bounds_in (Err fault) = (None, None)

records_of_one : records_in (table_status (drill_table 1))
    ≡ record { family = 0; key = 0 ∷ 0 ∷ 0 ∷ 0 ∷ 0 ∷ 0 ∷ 0 ∷ 1 ∷ []; sequence = 1; kind = Value; value = 0 ∷ 0 ∷ 0 ∷ 0 ∷ 0x9E ∷ 0x37 ∷ 0x79 ∷ 0xB1 ∷ [] } ∷ []
unfolding records_in drill_table table_bytes block_bytes run_bytes grouped table_status table_with footer_of checked_block internal_key block_entries entries_after property_list range_list index_entries crc32c crc_bytes crc_bits crc_bit
records_of_one = refl

records_of_two : records_in (table_status (drill_table 2))
    ≡ record { family = 0; key = 0 ∷ 0 ∷ 0 ∷ 0 ∷ 0 ∷ 0 ∷ 0 ∷ 1 ∷ []; sequence = 1; kind = Value; value = 0 ∷ 0 ∷ 0 ∷ 0 ∷ 0x9E ∷ 0x37 ∷ 0x79 ∷ 0xB1 ∷ [] }
    ∷ record { family = 0; key = 0 ∷ 0 ∷ 0 ∷ 0 ∷ 0 ∷ 0 ∷ 0 ∷ 2 ∷ []; sequence = 2; kind = Value; value = 0 ∷ 0 ∷ 0 ∷ 1 ∷ 0x3C ∷ 0x6E ∷ 0xF3 ∷ 0x62 ∷ [] } ∷ []
unfolding records_in drill_table table_bytes block_bytes run_bytes grouped table_status table_with footer_of checked_block internal_key block_entries entries_after property_list range_list index_entries crc32c crc_bytes crc_bits crc_bit
records_of_two = refl

bounds_of_two : bounds_in (table_status (drill_table 2))
    ≡ (Some (0 ∷ 0 ∷ 0 ∷ 0 ∷ 0 ∷ 0 ∷ 0 ∷ 1 ∷ 1 ∷ 1 ∷ 0 ∷ 0 ∷ 0 ∷ 0 ∷ 0 ∷ 0 ∷ []), Some (0 ∷ 0 ∷ 0 ∷ 0 ∷ 0 ∷ 0 ∷ 0 ∷ 2 ∷ 1 ∷ 2 ∷ 0 ∷ 0 ∷ 0 ∷ 0 ∷ 0 ∷ 0 ∷ []))
unfolding bounds_in drill_table table_bytes block_bytes run_bytes grouped table_status table_with footer_of checked_block internal_key block_entries entries_after property_list range_list index_entries crc32c crc_bytes crc_bits crc_bit
bounds_of_two = refl
