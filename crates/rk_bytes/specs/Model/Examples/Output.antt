-- Commands over logs and manifests, computed through `output` from the bytes of a directory's
-- files (this project's own examples). The bytes were made outside.
use Rattle.std.specs.Prelude.{◌≡◌, ℕ, List, [], ◌∷◌, ◌++◌, take, codes}
use Rattle.rk_bytes.specs.Model.Output.{refused}
use Rattle.rk_bytes.specs.Model.Examples.Directories.{Listing, of_lines, usage, not_found, over, over_listed, with_manifest, first_record, computation}

-- a log of two batches: `a` = `1` at sequence number 1, and `b` = `2` at 2
log_of_two : List ℕ
log_of_two = 0xe9 ∷ 0x9f ∷ 0x78 ∷ 0x19 ∷ 0x11 ∷ 0 ∷ 1 ∷ 1 ∷ 0 ∷ 0 ∷ 0 ∷ 0 ∷ 0 ∷ 0 ∷ 0 ∷ 1 ∷ 0 ∷ 0 ∷ 0 ∷ 1 ∷ 1 ∷ 0x61 ∷ 1 ∷ 0x31 ∷ 0x8f ∷ 0x72 ∷ 0xbc ∷ 0x7a ∷ 0x11 ∷ 0 ∷ 1 ∷ 2 ∷ 0 ∷ 0 ∷ 0 ∷ 0 ∷ 0 ∷ 0 ∷ 0 ∷ 1 ∷ 0 ∷ 0 ∷ 0 ∷ 1 ∷ 1 ∷ 0x62 ∷ 1 ∷ 0x32 ∷ []

-- a new database with this log 3
with_log : List ℕ → Listing
unfolding with_manifest
with_log log = (codes "000003.log", log) ∷ with_manifest first_record

-- a log of one batch of three puts that states two
miscounted : List ℕ
miscounted = 0x8e ∷ 0x26 ∷ 0x75 ∷ 0x15 ∷ 0x1b ∷ 0 ∷ 1 ∷ 5 ∷ 0 ∷ 0 ∷ 0 ∷ 0 ∷ 0 ∷ 0 ∷ 0 ∷ 2 ∷ 0 ∷ 0 ∷ 0 ∷ 1 ∷ 1 ∷ 0x61 ∷ 1 ∷ 0x31 ∷ 1 ∷ 1 ∷ 0x62 ∷ 1 ∷ 0x32 ∷ 1 ∷ 1 ∷ 0x63 ∷ 1 ∷ 0x33 ∷ []

-- a log of a put and two merges of `k`
merged : List ℕ
merged = 0x6d ∷ 0x52 ∷ 0xd3 ∷ 0x5e ∷ 0x1b ∷ 0 ∷ 1 ∷ 1 ∷ 0 ∷ 0 ∷ 0 ∷ 0 ∷ 0 ∷ 0 ∷ 0 ∷ 3 ∷ 0 ∷ 0 ∷ 0 ∷ 1 ∷ 1 ∷ 0x6b ∷ 1 ∷ 0x78 ∷ 2 ∷ 1 ∷ 0x6b ∷ 1 ∷ 0x79 ∷ 2 ∷ 1 ∷ 0x6b ∷ 1 ∷ 0x7a ∷ []

-- a record that deletes file 9, which isn't there
deletion : List ℕ
deletion = 0xde ∷ 0x49 ∷ 0x29 ∷ 0x4c ∷ 3 ∷ 0 ∷ 1 ∷ 6 ∷ 1 ∷ 9 ∷ []

-- a record that drops the default family
dropped : List ℕ
dropped = 0x6e ∷ 0xfe ∷ 0xdb ∷ 0x9d ∷ 2 ∷ 0 ∷ 1 ∷ 0xca ∷ 1 ∷ []

-- the first two records of a group of three
cut_group : List ℕ
cut_group = 0x65 ∷ 0xf3 ∷ 0xb7 ∷ 4 ∷ 0x1b ∷ 0 ∷ 1 ∷ 0xac ∷ 2 ∷ 2 ∷ 7 ∷ 0 ∷ 6 ∷ 9 ∷ 9 ∷ 0x61 ∷ 1 ∷ 1 ∷ 0 ∷ 0 ∷ 0 ∷ 0 ∷ 0 ∷ 0 ∷ 9 ∷ 0x61 ∷ 1 ∷ 1 ∷ 0 ∷ 0 ∷ 0 ∷ 0 ∷ 0 ∷ 0 ∷ 0xf4 ∷ 0x3e ∷ 0x96 ∷ 0xa8 ∷ 0x1b ∷ 0 ∷ 1 ∷ 0xac ∷ 2 ∷ 1 ∷ 7 ∷ 0 ∷ 7 ∷ 9 ∷ 9 ∷ 0x61 ∷ 1 ∷ 1 ∷ 0 ∷ 0 ∷ 0 ∷ 0 ∷ 0 ∷ 0 ∷ 9 ∷ 0x61 ∷ 1 ∷ 1 ∷ 0 ∷ 0 ∷ 0 ∷ 0 ∷ 0 ∷ 0 ∷ []

-- a record of a group that states the count of the one before
other_count : List ℕ
other_count = 0xd0 ∷ 0x8c ∷ 0xf0 ∷ 0x6b ∷ 0x1b ∷ 0 ∷ 1 ∷ 0xac ∷ 2 ∷ 1 ∷ 7 ∷ 0 ∷ 8 ∷ 9 ∷ 9 ∷ 0x61 ∷ 1 ∷ 1 ∷ 0 ∷ 0 ∷ 0 ∷ 0 ∷ 0 ∷ 0 ∷ 9 ∷ 0x61 ∷ 1 ∷ 1 ∷ 0 ∷ 0 ∷ 0 ∷ 0 ∷ 0 ∷ 0 ∷ []

-- a record that tracks log 3, with 48 bytes synced
tracked : List ℕ
tracked = 0x45 ∷ 0xa4 ∷ 1 ∷ 0x5f ∷ 7 ∷ 0 ∷ 1 ∷ 0x87 ∷ 0x40 ∷ 4 ∷ 3 ∷ 2 ∷ 0x30 ∷ 1 ∷ []

-- a record that forgets the logs below 4
forgotten : List ℕ
forgotten = 0x8c ∷ 0x80 ∷ 0x66 ∷ 0x1c ∷ 4 ∷ 0 ∷ 1 ∷ 0x88 ∷ 0x40 ∷ 1 ∷ 4 ∷ []

-- the log beside a manifest that tracks it
with_tracked : List ℕ → Listing
unfolding with_manifest tracked
with_tracked log = (codes "000003.log", log) ∷ with_manifest (first_record ++ tracked)

of_no_file : over [] (codes "check" ∷ codes "check --best-efforts" ∷ codes "dump_wal 3" ∷ codes "sst 4 check" ∷ codes "manifest_dump" ∷ codes "families" ∷ codes "repair" ∷ codes "get" ∷ [])
    ≡ refused (codes "NoCurrent")
    ∷ refused (codes "NoUsableManifest")
    ∷ refused (codes "NoLog 3")
    ∷ refused (codes "NoTable 4")
    ∷ refused (codes "NoCurrent")
    ∷ refused (codes "NoCurrent")
    ∷ of_lines (codes "repaired: families 1 tables 0 logs 0 added 0 archived 0 records 0" ∷ [])
    ∷ usage ∷ []
unfolding computation
of_no_file = over_listed _ _ tt

of_a_new_database : over (with_manifest first_record) (codes "manifest_dump" ∷ codes "families" ∷ codes "check" ∷ codes "check --best-efforts" ∷ [])
    ≡ of_lines (codes "edit 0 34" ∷ codes "  comparator \"leveldb.BytewiseComparator\"" ∷ codes "  log_number 3" ∷ codes "  next_file 4" ∷ codes "  last_sequence 0" ∷ codes "end 41 Clean" ∷ [])
    ∷ of_lines (codes "family 0 \"default\" log 3 files 0" ∷ [])
    ∷ of_lines (codes "ok: families 1 files 0 records 0" ∷ [])
    ∷ of_lines (codes "manifest 2 units 1" ∷ codes "point 0 1" ∷ codes "ok: families 1 files 0 records 0" ∷ []) ∷ []
unfolding computation
of_a_new_database = over_listed _ _ tt

dumps_of_two_batches : over (with_log log_of_two) (codes "dump_wal 3" ∷ codes "dump_wal 3 --hex" ∷ [])
    ≡ of_lines (codes "record 0 17" ∷ codes "  batch 1 1" ∷ codes "  put 0 \"a\"@1 => \"1\"" ∷ codes "record 24 17" ∷ codes "  batch 2 1" ∷ codes "  put 0 \"b\"@2 => \"2\"" ∷ codes "end 48 Clean" ∷ [])
    ∷ of_lines (codes "record 0 17" ∷ codes "  batch 1 1" ∷ codes "  put 0 0x61@1 => 0x31" ∷ codes "record 24 17" ∷ codes "  batch 2 1" ∷ codes "  put 0 0x62@2 => 0x32" ∷ codes "end 48 Clean" ∷ []) ∷ []
unfolding computation with_log log_of_two
dumps_of_two_batches = over_listed _ _ tt

of_two_batches : over (with_log log_of_two) (codes "scan" ∷ codes "get a" ∷ codes "get 0x61 --hex" ∷ codes "get z" ∷ codes "get 0xZZ" ∷ codes "scan --from=b" ∷ codes "scan --to=b" ∷ codes "scan --from=b --to=b" ∷ codes "scan --family=f" ∷ codes "check" ∷ [])
    ≡ of_lines (codes "\"a\" => \"1\"" ∷ codes "\"b\" => \"2\"" ∷ [])
    ∷ of_lines (codes "\"1\"" ∷ [])
    ∷ of_lines (codes "0x31" ∷ [])
    ∷ not_found
    ∷ usage
    ∷ of_lines (codes "\"b\" => \"2\"" ∷ [])
    ∷ of_lines (codes "\"a\" => \"1\"" ∷ [])
    ∷ of_lines []
    ∷ refused (codes "NoFamily \"f\"")
    ∷ of_lines (codes "ok: families 1 files 0 records 2" ∷ []) ∷ []
unfolding computation with_log log_of_two
of_two_batches = over_listed _ _ tt

-- without its last byte
of_a_torn_log : over (with_log (take 47 log_of_two)) (codes "scan --mode=0" ∷ codes "scan --mode=1" ∷ codes "scan --mode=2" ∷ codes "scan --mode=3" ∷ [])
    ≡ of_lines (codes "\"a\" => \"1\"" ∷ [])
    ∷ refused (codes "Corrupt 3 24 Torn")
    ∷ of_lines (codes "\"a\" => \"1\"" ∷ [])
    ∷ of_lines (codes "\"a\" => \"1\"" ∷ []) ∷ []
unfolding computation with_log log_of_two
of_a_torn_log = over_listed _ _ tt

of_a_wrong_count : over (with_log miscounted) (codes "dump_wal 3" ∷ codes "scan --mode=3" ∷ codes "scan --mode=1" ∷ [])
    ≡ of_lines (codes "record 0 27" ∷ codes "  bad WrongCount 2 3" ∷ codes "end 34 Clean" ∷ [])
    ∷ of_lines []
    ∷ refused (codes "Corrupt 3 0 WrongCount 2 3") ∷ []
unfolding computation with_log miscounted
of_a_wrong_count = over_listed _ _ tt

of_merges : over (with_log merged) (codes "get k" ∷ codes "scan" ∷ codes "scan --best-efforts" ∷ [])
    ≡ of_lines (codes "merge \"z\" \"y\" base \"x\"" ∷ [])
    ∷ of_lines (codes "\"k\" => merge \"z\" \"y\" base \"x\"" ∷ [])
    ∷ of_lines [] ∷ []
unfolding computation with_log merged
of_merges = over_listed _ _ tt

-- `CURRENT` without a newline, and with another manifest's name
of_other_names : over ((codes "CURRENT", codes "MANIFEST-000002") ∷ (codes "MANIFEST-000002", first_record) ∷ []) (codes "families" ∷ []) ++ over ((codes "CURRENT", codes "MANIFEST-000009" ++ 10 ∷ []) ∷ (codes "MANIFEST-000002", first_record) ∷ []) (codes "families" ∷ []) ≡ refused (codes "BadCurrent NoNewline") ∷ refused (codes "NoManifest 9") ∷ []
unfolding computation
of_other_names = λ i. over_listed ((codes "CURRENT", codes "MANIFEST-000002") ∷ (codes "MANIFEST-000002", first_record) ∷ []) (codes "families" ∷ []) tt i ++ over_listed ((codes "CURRENT", codes "MANIFEST-000009" ++ 10 ∷ []) ∷ (codes "MANIFEST-000002", first_record) ∷ []) (codes "families" ∷ []) tt i

of_an_absent_file : over (with_manifest (first_record ++ deletion)) (codes "families" ∷ codes "manifest_dump --hex" ∷ [])
    ≡ refused (codes "BadEdit 2 DeleteAbsent 9")
    ∷ of_lines (codes "edit 0 34" ∷ codes "  comparator 0x6c6576656c64622e4279746577697365436f6d70617261746f72" ∷ codes "  log_number 3" ∷ codes "  next_file 4" ∷ codes "  last_sequence 0" ∷ codes "edit 41 3" ∷ codes "  delete_file 1 9" ∷ codes "end 51 Clean" ∷ []) ∷ []
unfolding computation deletion
of_an_absent_file = over_listed _ _ tt

of_an_empty_manifest : over (with_manifest []) (codes "families" ∷ codes "manifest_dump" ∷ [])
    ≡ refused (codes "NoFields LogNumber")
    ∷ of_lines (codes "end 0 Clean" ∷ []) ∷ []
unfolding computation
of_an_empty_manifest = over_listed _ _ tt

of_a_dropped_family : over (with_manifest (first_record ++ dropped)) (codes "scan" ∷ codes "scan --family=default" ∷ codes "check" ∷ codes "families" ∷ [])
    ≡ refused (codes "NoFamily \"default\"")
    ∷ refused (codes "NoFamily \"default\"")
    ∷ of_lines (codes "ok: families 0 files 0 records 0" ∷ [])
    ∷ of_lines [] ∷ []
unfolding computation dropped
of_a_dropped_family = over_listed _ _ tt

of_a_cut_group : over (with_manifest (first_record ++ cut_group)) (codes "families" ∷ [])
    ≡ of_lines (codes "family 0 \"default\" log 3 files 0" ∷ []) ∷ []
unfolding computation cut_group
of_a_cut_group = over_listed _ _ tt

of_a_wrong_group : over (with_manifest (first_record ++ cut_group ++ other_count)) (codes "families" ∷ [])
    ≡ refused (codes "BadGroup 2") ∷ []
unfolding computation cut_group other_count
of_a_wrong_group = over_listed _ _ tt

of_a_tracked_log : over (with_tracked log_of_two) (codes "scan" ∷ codes "manifest_dump" ∷ [])
    ≡ of_lines (codes "\"a\" => \"1\"" ∷ codes "\"b\" => \"2\"" ∷ [])
    ∷ of_lines (codes "edit 0 34" ∷ codes "  comparator \"leveldb.BytewiseComparator\"" ∷ codes "  log_number 3" ∷ codes "  next_file 4" ∷ codes "  last_sequence 0" ∷ codes "edit 41 7" ∷ codes "  wal_add 3 synced 48" ∷ codes "end 55 Clean" ∷ []) ∷ []
unfolding computation with_tracked tracked log_of_two
of_a_tracked_log = over_listed _ _ tt

of_a_short_log : over (with_tracked (take 47 log_of_two)) (codes "scan --mode=0" ∷ [])
    ≡ refused (codes "ShortLog 3 48 47") ∷ []
unfolding computation with_tracked tracked log_of_two
of_a_short_log = over_listed _ _ tt

of_an_absent_log : over (with_manifest (first_record ++ tracked)) (codes "scan" ∷ codes "repair" ∷ [])
    ≡ refused (codes "MissingLog 3")
    ∷ of_lines (codes "repaired: families 1 tables 0 logs 0 added 0 archived 0 records 0" ∷ []) ∷ []
unfolding computation tracked
of_an_absent_log = over_listed _ _ tt

of_a_forgotten_log : over (with_manifest (first_record ++ tracked ++ forgotten)) (codes "scan" ∷ [])
    ≡ of_lines [] ∷ []
unfolding computation tracked forgotten
of_a_forgotten_log = over_listed _ _ tt
