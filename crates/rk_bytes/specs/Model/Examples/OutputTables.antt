-- Commands over tables, and repairs and drills, computed through `output` from the bytes of a directory's
-- files (this project's own examples). The bytes were made outside.
use Rattle.std.specs.Prelude.{◌≡◌, ℕ, true, false, List, [], ◌∷◌, ◌++◌, take, drop, replicate, codes}
use Rattle.rk_bytes.specs.declared.model.key.Kind.{Kind}
use Rattle.rk_bytes.specs.declared.model.key.Kind.TheVariants.{Value, Deletion}
use Rattle.rk_bytes.specs.declared.model.key.Record.{Record}
use Rattle.rk_bytes.specs.Model.WrittenLogs.{fragment_bytes, later_fragments, record_fragments, record_pieces, written_record, written_log}
use Rattle.rk_bytes.specs.Model.Writers.{TableContents, batch_bytes, grouped, run_bytes, block_bytes, table_bytes, edit_bytes}
use Rattle.rk_bytes.specs.Model.Drill.{drill_table, drill_manifest, drill_torn_log, drill_log}
use Rattle.rk_bytes.specs.Model.Output.{refused}
use Rattle.rk_bytes.specs.Model.Examples.Directories.{Listing, listed_counts, keys_shown, salvage_in, drill_listed, of_lines, over, over_listed, with_manifest, first_record, computation}

-- a table of `a` = `x` at sequence number 1, 114 bytes
table : List ℕ
table = 0 ∷ 9 ∷ 1 ∷ 0x61 ∷ 1 ∷ 1 ∷ 0 ∷ 0 ∷ 0 ∷ 0 ∷ 0 ∷ 0 ∷ 0x78 ∷ 0 ∷ 0 ∷ 0 ∷ 0 ∷ 1 ∷ 0 ∷ 0 ∷ 0 ∷ 0 ∷ 0x84 ∷ 0xdd ∷ 0x88 ∷ 0x74 ∷ 0 ∷ 0 ∷ 0 ∷ 0 ∷ 1 ∷ 0 ∷ 0 ∷ 0 ∷ 0 ∷ 0xc0 ∷ 0xf2 ∷ 0xa1 ∷ 0xb0 ∷ 0 ∷ 9 ∷ 2 ∷ 0x61 ∷ 1 ∷ 1 ∷ 0 ∷ 0 ∷ 0 ∷ 0 ∷ 0 ∷ 0 ∷ 0 ∷ 0x15 ∷ 0 ∷ 0 ∷ 0 ∷ 0 ∷ 1 ∷ 0 ∷ 0 ∷ 0 ∷ 0 ∷ 0x36 ∷ 0x49 ∷ 0x25 ∷ 0xbf ∷ 0x1a ∷ 8 ∷ 0x27 ∷ 0x16 ∷ replicate 36 0 ++ 0x57 ∷ 0xfb ∷ 0x80 ∷ 0x8b ∷ 0x24 ∷ 0x75 ∷ 0x47 ∷ 0xdb ∷ []

-- a record of a manifest, which adds this table as table 4
listing : List ℕ
listing = 0xd0 ∷ 0xc9 ∷ 0x5c ∷ 0xc8 ∷ 0x18 ∷ 0 ∷ 1 ∷ 7 ∷ 0 ∷ 4 ∷ 0x72 ∷ 9 ∷ 0x61 ∷ 1 ∷ 1 ∷ 0 ∷ 0 ∷ 0 ∷ 0 ∷ 0 ∷ 0 ∷ 9 ∷ 0x61 ∷ 1 ∷ 1 ∷ 0 ∷ 0 ∷ 0 ∷ 0 ∷ 0 ∷ 0 ∷ []

-- the same with a size of 115 bytes
larger : List ℕ
larger = 0xc4 ∷ 0xaf ∷ 0x86 ∷ 0x80 ∷ 0x18 ∷ 0 ∷ 1 ∷ 7 ∷ 0 ∷ 4 ∷ 0x73 ∷ 9 ∷ 0x61 ∷ 1 ∷ 1 ∷ 0 ∷ 0 ∷ 0 ∷ 0 ∷ 0 ∷ 0 ∷ 9 ∷ 0x61 ∷ 1 ∷ 1 ∷ 0 ∷ 0 ∷ 0 ∷ 0 ∷ 0 ∷ 0 ∷ []

-- the same with both bounds at `b`
elsewhere : List ℕ
elsewhere = 0xbd ∷ 0x5b ∷ 0xbd ∷ 0x1c ∷ 0x18 ∷ 0 ∷ 1 ∷ 7 ∷ 0 ∷ 4 ∷ 0x72 ∷ 9 ∷ 0x62 ∷ 1 ∷ 1 ∷ 0 ∷ 0 ∷ 0 ∷ 0 ∷ 0 ∷ 0 ∷ 9 ∷ 0x62 ∷ 1 ∷ 1 ∷ 0 ∷ 0 ∷ 0 ∷ 0 ∷ 0 ∷ 0 ∷ []

-- a database with this further record, and with this table 4
with_table : List ℕ → List ℕ → Listing
unfolding with_manifest
with_table further bytes = (codes "000004.sst", bytes) ∷ with_manifest (first_record ++ further)

-- its data block as a compressed one, with a right checksum
compressed : List ℕ
compressed = 0 ∷ 9 ∷ 1 ∷ 0x61 ∷ 1 ∷ 1 ∷ 0 ∷ 0 ∷ 0 ∷ 0 ∷ 0 ∷ 0 ∷ 0x78 ∷ 0 ∷ 0 ∷ 0 ∷ 0 ∷ 1 ∷ 0 ∷ 0 ∷ 0 ∷ 1 ∷ 0x53 ∷ 1 ∷ 0x85 ∷ 0x76 ∷ []

-- a log of a batch at sequence number 1, and a record with a wrong checksum at 24
damaged_log : List ℕ
damaged_log = 0xe9 ∷ 0x9f ∷ 0x78 ∷ 0x19 ∷ 0x11 ∷ 0 ∷ 1 ∷ 1 ∷ 0 ∷ 0 ∷ 0 ∷ 0 ∷ 0 ∷ 0 ∷ 0 ∷ 1 ∷ 0 ∷ 0 ∷ 0 ∷ 1 ∷ 1 ∷ 0x61 ∷ 1 ∷ 0x31 ∷ 0xba ∷ 0x14 ∷ 0x46 ∷ 0x9d ∷ 0x11 ∷ 0 ∷ 1 ∷ 2 ∷ 0 ∷ 0 ∷ 0 ∷ 0 ∷ 0 ∷ 0 ∷ 0 ∷ 1 ∷ 0 ∷ 0 ∷ 0 ∷ 1 ∷ 1 ∷ 0x63 ∷ 1 ∷ 0x33 ∷ []

-- the same, recycled: the second record is one of log 4
recycled_log : List ℕ
recycled_log = 0x4b ∷ 0x67 ∷ 0xbb ∷ 0xf7 ∷ 0x11 ∷ 0 ∷ 5 ∷ 5 ∷ 0 ∷ 0 ∷ 0 ∷ 1 ∷ 0 ∷ 0 ∷ 0 ∷ 0 ∷ 0 ∷ 0 ∷ 0 ∷ 1 ∷ 0 ∷ 0 ∷ 0 ∷ 1 ∷ 1 ∷ 0x61 ∷ 1 ∷ 0x31 ∷ 0x6d ∷ 0xe5 ∷ 0x57 ∷ 0xc5 ∷ 0x11 ∷ 0 ∷ 5 ∷ 4 ∷ 0 ∷ 0 ∷ 0 ∷ 2 ∷ 0 ∷ 0 ∷ 0 ∷ 0 ∷ 0 ∷ 0 ∷ 0 ∷ 1 ∷ 0 ∷ 0 ∷ 0 ∷ 1 ∷ 1 ∷ 0x63 ∷ 1 ∷ 0x33 ∷ []

-- logs of one batch, at sequence number 2 and at 3
log_at_two : List ℕ
log_at_two = 0x8f ∷ 0x72 ∷ 0xbc ∷ 0x7a ∷ 0x11 ∷ 0 ∷ 1 ∷ 2 ∷ 0 ∷ 0 ∷ 0 ∷ 0 ∷ 0 ∷ 0 ∷ 0 ∷ 1 ∷ 0 ∷ 0 ∷ 0 ∷ 1 ∷ 1 ∷ 0x62 ∷ 1 ∷ 0x32 ∷ []

log_at_three : List ℕ
log_at_three = 0x56 ∷ 0x23 ∷ 0xa ∷ 3 ∷ 0x11 ∷ 0 ∷ 1 ∷ 3 ∷ 0 ∷ 0 ∷ 0 ∷ 0 ∷ 0 ∷ 0 ∷ 0 ∷ 1 ∷ 0 ∷ 0 ∷ 0 ∷ 1 ∷ 1 ∷ 0x62 ∷ 1 ∷ 0x32 ∷ []

-- a record that adds family 1 with log number 8 and table 4
family_ahead : List ℕ
family_ahead = 0x38 ∷ 0xec ∷ 0x73 ∷ 0xfd ∷ 0x23 ∷ 0 ∷ 1 ∷ 0xc8 ∷ 1 ∷ 1 ∷ 0xc9 ∷ 1 ∷ 3 ∷ codes "one" ++ 2 ∷ 8 ∷ 7 ∷ 0 ∷ 4 ∷ 0x72 ∷ 9 ∷ 0x61 ∷ 1 ∷ 1 ∷ 0 ∷ 0 ∷ 0 ∷ 0 ∷ 0 ∷ 0 ∷ 9 ∷ 0x61 ∷ 1 ∷ 1 ∷ 0 ∷ 0 ∷ 0 ∷ 0 ∷ 0 ∷ 0 ∷ []

-- two logs and this manifest
with_logs : List ℕ → List ℕ → List ℕ → Listing
unfolding with_manifest
with_logs first second manifest = (codes "000005.log", first) ∷ (codes "000007.log", second) ∷ with_manifest manifest

-- records that add the tables 4, 6 and 8
three_tables : List ℕ
three_tables = 0xd0 ∷ 0xc9 ∷ 0x5c ∷ 0xc8 ∷ 0x18 ∷ 0 ∷ 1 ∷ 7 ∷ 0 ∷ 4 ∷ 0x72 ∷ 9 ∷ 0x61 ∷ 1 ∷ 1 ∷ 0 ∷ 0 ∷ 0 ∷ 0 ∷ 0 ∷ 0 ∷ 9 ∷ 0x61 ∷ 1 ∷ 1 ∷ 0 ∷ 0 ∷ 0 ∷ 0 ∷ 0 ∷ 0 ∷ 0x87 ∷ 0x99 ∷ 0x8b ∷ 0x41 ∷ 0x18 ∷ 0 ∷ 1 ∷ 7 ∷ 0 ∷ 6 ∷ 0x72 ∷ 9 ∷ 0x61 ∷ 1 ∷ 1 ∷ 0 ∷ 0 ∷ 0 ∷ 0 ∷ 0 ∷ 0 ∷ 9 ∷ 0x61 ∷ 1 ∷ 1 ∷ 0 ∷ 0 ∷ 0 ∷ 0 ∷ 0 ∷ 0 ∷ 0x38 ∷ 0xce ∷ 0xa1 ∷ 0x2f ∷ 0x18 ∷ 0 ∷ 1 ∷ 7 ∷ 0 ∷ 8 ∷ 0x72 ∷ 9 ∷ 0x61 ∷ 1 ∷ 1 ∷ 0 ∷ 0 ∷ 0 ∷ 0 ∷ 0 ∷ 0 ∷ 9 ∷ 0x61 ∷ 1 ∷ 1 ∷ 0 ∷ 0 ∷ 0 ∷ 0 ∷ 0 ∷ 0 ∷ []

-- logs of one batch, which puts `b` at sequence number 2
log_of_five : List ℕ
log_of_five = 0xc5 ∷ 4 ∷ 0x62 ∷ 0xf3 ∷ 0x14 ∷ 0 ∷ 1 ∷ 2 ∷ 0 ∷ 0 ∷ 0 ∷ 0 ∷ 0 ∷ 0 ∷ 0 ∷ 1 ∷ 0 ∷ 0 ∷ 0 ∷ 1 ∷ 1 ∷ 0x62 ∷ 4 ∷ codes "five"

log_of_seven : List ℕ
log_of_seven = 0x4d ∷ 0x16 ∷ 0xf6 ∷ 0 ∷ 0x15 ∷ 0 ∷ 1 ∷ 2 ∷ 0 ∷ 0 ∷ 0 ∷ 0 ∷ 0 ∷ 0 ∷ 0 ∷ 1 ∷ 0 ∷ 0 ∷ 0 ∷ 1 ∷ 1 ∷ 0x62 ∷ 5 ∷ codes "seven"

-- a table, two logs, and a table 6 that isn't one, beside these moved files
to_repair : Listing → Listing
unfolding table log_of_five log_of_seven
to_repair lost = (codes "000004.sst", table) ∷ (codes "000005.log", log_of_five) ∷ (codes "000006.sst", replicate 10 0) ∷ (codes "000007.log", log_of_seven) ∷ lost

-- a record of a table
of_key : ℕ → ℕ → Kind → List ℕ → List ℕ → Record
of_key id sequence kind key value = record { family = id; key = key; sequence = sequence; kind = kind; value = value }

other_table : TableContents
unfolding of_key
other_table = record {
  family = 300;
  family_name = codes "f";
  records = of_key 300 2 Value (codes "a") (codes "x") ∷ of_key 300 1 Deletion (codes "ab") [] ∷ [];
  ranges = record { start = codes "c"; end = codes "d"; sequence = 4 } ∷ record { start = codes "a"; end = codes "b"; sequence = 3 } ∷ [];
}

-- all that tables are written by, and the directory of a drill
unfoldable written_by : Unit {0}
unfolding batch_bytes grouped run_bytes block_bytes table_bytes edit_bytes fragment_bytes later_fragments record_fragments record_pieces written_record written_log
written_by = tt

unfoldable drilled : Unit {0}
unfolding drill_table drill_manifest drill_torn_log drill_log listed_counts keys_shown salvage_in drill_listed
drilled = tt

of_a_listed_table : over (with_table listing table) (codes "scan" ∷ codes "check" ∷ codes "families" ∷ codes "check --best-efforts" ∷ codes "sst 4 check" ∷ codes "sst 4 scan" ∷ codes "sst 4 scan --hex" ∷ codes "sst 4 properties" ∷ codes "sst 5 check" ∷ [])
    ≡ of_lines (codes "\"a\" => \"x\"" ∷ [])
    ∷ of_lines (codes "ok: families 1 files 1 records 1" ∷ [])
    ∷ of_lines (codes "family 0 \"default\" log 3 files 1" ∷ [])
    ∷ of_lines (codes "manifest 2 units 2" ∷ codes "point 0 2" ∷ codes "ok: families 1 files 1 records 1" ∷ [])
    ∷ of_lines (codes "good: family 0 entries 1 ranges 0" ∷ [])
    ∷ of_lines (codes "\"a\"@1:1 => \"x\"" ∷ [])
    ∷ of_lines (codes "0x61@1:1 => 0x78" ∷ [])
    ∷ of_lines []
    ∷ refused (codes "NoTable 5") ∷ []
unfolding computation with_table table listing
of_a_listed_table = over_listed _ _ tt

of_another_size : over (with_table larger table) (codes "scan" ∷ codes "check --best-efforts" ∷ [])
    ≡ refused (codes "SizeMismatch 4 115 114")
    ∷ of_lines (codes "manifest 2 units 2" ∷ codes "point 0 1" ∷ codes "ok: families 1 files 0 records 0" ∷ []) ∷ []
unfolding computation with_table table larger
of_another_size = over_listed _ _ tt

of_other_bounds : over (with_table elsewhere table) (codes "scan" ∷ [])
    ≡ refused (codes "OutOfBounds 4") ∷ []
unfolding computation with_table table elsewhere
of_other_bounds = over_listed _ _ tt

of_a_changed_table : over (with_table listing (take 12 table ++ 0x79 ∷ drop 13 table)) (codes "sst 4 check" ∷ codes "check" ∷ [])
    ≡ refused (codes "DamagedTable 4 Checksum 0")
    ∷ refused (codes "DamagedTable 4 Checksum 0") ∷ []
unfolding computation with_table table listing
of_a_changed_table = over_listed _ _ tt

of_a_cut_table : over (with_table listing (take 113 table)) (codes "sst 4 check" ∷ codes "check" ∷ codes "repair" ∷ [])
    ≡ refused (codes "DamagedTable 4 BadMagic 65")
    ∷ refused (codes "SizeMismatch 4 114 113")
    ∷ of_lines (codes "lost: 000004.sst lost/000004.sst" ∷ codes "repaired: families 1 tables 0 logs 0 added 0 archived 1 records 0" ∷ []) ∷ []
unfolding computation with_table table listing
of_a_cut_table = over_listed _ _ tt

of_a_front : over (with_table listing (take 47 table)) (codes "sst 4 check" ∷ [])
    ≡ refused (codes "DamagedTable 4 FooterShort 0") ∷ []
unfolding computation with_table table listing
of_a_front = over_listed _ _ tt

of_a_compressed_block : over (with_table listing (compressed ++ drop 26 table)) (codes "sst 4 check" ∷ codes "scan" ∷ codes "scan --best-efforts" ∷ codes "repair" ∷ [])
    ≡ refused (codes "UnsupportedTable 4 Compressed 1")
    ∷ refused (codes "UnsupportedTable 4 Compressed 1")
    ∷ refused (codes "UnsupportedTable 4 Compressed 1")
    ∷ refused (codes "UnsupportedTable 4 Compressed 1") ∷ []
unfolding computation with_table table listing compressed
of_a_compressed_block = over_listed _ _ tt

of_a_log_that_goes_on : over (with_logs damaged_log log_at_two first_record) (codes "scan" ∷ codes "scan --mode=3" ∷ [])
    ≡ of_lines (codes "\"a\" => \"1\"" ∷ codes "\"b\" => \"2\"" ∷ [])
    ∷ of_lines (codes "\"a\" => \"1\"" ∷ codes "\"b\" => \"2\"" ∷ []) ∷ []
unfolding computation with_logs damaged_log log_at_two
of_a_log_that_goes_on = over_listed _ _ tt

of_a_log_that_waits : over (with_logs damaged_log log_at_three first_record) (codes "scan" ∷ codes "scan --mode=0" ∷ [])
    ≡ of_lines (codes "\"a\" => \"1\"" ∷ [])
    ∷ refused (codes "Corrupt 5 24 Checksum") ∷ []
unfolding computation with_logs damaged_log log_at_three
of_a_log_that_waits = over_listed _ _ tt

of_a_family_ahead : over ((codes "000004.sst", table) ∷ with_logs damaged_log log_at_three (first_record ++ family_ahead)) (codes "scan" ∷ codes "families" ∷ codes "scan --family=one --best-efforts" ∷ [])
    ≡ refused (codes "FamilyAhead 1 5")
    ∷ of_lines (codes "family 0 \"default\" log 3 files 0" ∷ codes "family 1 \"one\" log 8 files 1" ∷ [])
    ∷ of_lines (codes "\"a\" => \"x\"" ∷ []) ∷ []
unfolding computation with_logs damaged_log log_at_three table family_ahead
of_a_family_ahead = over_listed _ _ tt

of_a_recycled_log : over ((codes "000004.sst", table) ∷ with_logs recycled_log log_at_three (first_record ++ family_ahead)) (codes "scan" ∷ codes "dump_wal 5" ∷ [])
    ≡ of_lines (codes "\"a\" => \"1\"" ∷ [])
    ∷ of_lines (codes "record 0 17" ∷ codes "  batch 1 1" ∷ codes "  put 0 \"a\"@1 => \"1\"" ∷ codes "end 28 Stale" ∷ []) ∷ []
unfolding computation with_logs recycled_log log_at_three table family_ahead
of_a_recycled_log = over_listed _ _ tt

of_the_best_point : over ((codes "000004.sst", table) ∷ (codes "000006.sst", take 113 table) ∷ with_manifest (first_record ++ three_tables)) (codes "check --best-efforts" ∷ codes "check" ∷ codes "get a --best-efforts" ∷ [])
    ≡ of_lines (codes "manifest 2 units 4" ∷ codes "point 0 2" ∷ codes "ok: families 1 files 1 records 1" ∷ [])
    ∷ refused (codes "SizeMismatch 6 114 113")
    ∷ of_lines (codes "\"x\"" ∷ []) ∷ []
unfolding computation table three_tables
of_the_best_point = over_listed _ _ tt

of_a_repair : over (to_repair []) (codes "repair" ∷ codes "scan" ∷ [])
    ≡ of_lines (codes "lost: 000005.log lost/000005.log" ∷ codes "lost: 000007.log lost/000007.log" ∷ codes "lost: 000006.sst lost/000006.sst" ∷ codes "repaired: families 1 tables 1 logs 2 added 1 archived 1 records 2" ∷ [])
    ∷ refused (codes "NoCurrent") ∷ []
unfolding computation to_repair table log_of_five log_of_seven
of_a_repair = over_listed _ _ tt

of_another_repair : over (to_repair ((codes "lost/000005.log", []) ∷ [])) (codes "repair" ∷ [])
    ≡ of_lines (codes "lost: 000005.log lost/000005.log.1" ∷ codes "lost: 000007.log lost/000007.log" ∷ codes "lost: 000006.sst lost/000006.sst" ∷ codes "repaired: families 1 tables 1 logs 2 added 1 archived 1 records 2" ∷ []) ∷ []
unfolding computation to_repair table log_of_five log_of_seven
of_another_repair = over_listed _ _ tt

-- a table as it is written, with its properties, and one of family 300 with range deletions
of_written_tables : over ((codes "000004.sst", table_bytes false (record { family = 0; family_name = codes "default"; records = of_key 0 1 Value (codes "a") (codes "x") ∷ []; ranges = [] })) ∷ []) (codes "sst 4 check" ∷ codes "sst 4 properties" ∷ [])
    ≡ of_lines (codes "good: family 0 entries 1 ranges 0" ∷ []) ∷ of_lines (codes "\"rocksdb.block.based.table.index.type\" = \"\\x00\\x00\\x00\\x00\"" ∷ codes "\"rocksdb.column.family.id\" = \"\\x00\"" ∷ codes "\"rocksdb.column.family.name\" = \"default\"" ∷ codes "\"rocksdb.comparator\" = \"leveldb.BytewiseComparator\"" ∷ codes "\"rocksdb.index.key.is.user.key\" = \"\\x00\"" ∷ codes "\"rocksdb.index.value.is.delta.encoded\" = \"\\x00\"" ∷ codes "\"rocksdb.num.entries\" = \"\\x01\"" ∷ []) ∷ []
unfolding computation written_by of_key
of_written_tables = over_listed _ _ tt

of_range_deletions : over ((codes "000007.sst", table_bytes true other_table) ∷ []) (codes "sst 7 check" ∷ codes "sst 7 scan" ∷ [])
    ≡ of_lines (codes "good: family 300 entries 2 ranges 2" ∷ []) ∷ of_lines (codes "\"a\"@2:1 => \"x\"" ∷ codes "\"ab\"@1:0 => \"\"" ∷ codes "range \"c\"@4 .. \"d\"" ∷ codes "range \"a\"@3 .. \"b\"" ∷ []) ∷ []
unfolding computation written_by of_key other_table
of_range_deletions = over_listed _ _ tt

-- a drill looks at no file of the directory
of_three_keys : over [] (codes "drill 3" ∷ [])
    ≡ of_lines (codes "drill 3" ∷ codes "mode 0: records 8 keys 5" ∷ codes "mode 1: refused: Corrupt 5 76 Torn" ∷ codes "mode 2: records 5 keys 5" ∷ codes "mode 3: records 8 keys 5" ∷ codes "best-efforts: records 3 keys 3" ∷ codes "repaired: families 1 tables 1 logs 2 added 1 archived 0 records 8" ∷ codes "mode 0: records 8 keys 5" ∷ codes "mode 1: records 8 keys 5" ∷ codes "mode 2: records 8 keys 5" ∷ codes "mode 3: records 8 keys 5" ∷ []) ∷ []
unfolding computation written_by drilled
of_three_keys = over_listed _ _ tt
