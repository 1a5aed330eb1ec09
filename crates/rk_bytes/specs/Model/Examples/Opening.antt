-- Directories and what they are opened to, computed from the bytes of their files. The sums in the files are
-- computed outside.
use Rattle.std.specs.Prelude.{◌≡◌, ℕ, ◌-◌, ◌^◌, List, [], ◌∷◌, ◌++◌, length, map, take, replicate, Option, Some, None, Result, Ok, Err, codes, T, refl, true}
use Rattle.std.specs.List.{AllByRecursion}
use Rattle.std.specs.Ordering.{nat_cmp}
use Rattle.std.specs.Cmp.Lexicographic.{slice_cmp}
use Rattle.std.specs.FinMap.{find, is_sorted, from_sorted, get-from_sorted, entries-from_sorted}
use Rattle.std.specs.Fmt.{digits}
use Rattle.rk_bytes.specs.declared.model.key.Kind.TheVariants.{Value, Merge, RangeDeletion}
use Rattle.rk_bytes.specs.declared.model.key.Record.{Record}
use Rattle.rk_bytes.specs.declared.model.view.Tomb.{Tomb}
use Rattle.rk_bytes.specs.declared.model.wal.Mode.{Mode}
use Rattle.rk_bytes.specs.declared.model.wal.Mode.TheVariants.{TolerateTail, Absolute, PointInTime, SkipAny}
use Rattle.rk_bytes.specs.declared.model.wal.WalWhy.TheVariants.{Torn}
use Rattle.rk_bytes.specs.declared.model.wal.WalErr.TheVariants.{Corrupt, FamilyAhead}
use Rattle.rk_bytes.specs.declared.model.name.CurrentFault.TheVariants.{NoNewline}
use Rattle.rk_bytes.specs.declared.model.manifest.Which.TheVariants.{LogNumber}
use Rattle.rk_bytes.specs.declared.model.manifest.ManifestFault.TheVariants.{NoFields}
use Rattle.rk_bytes.specs.declared.model.table.TableWhy.TheVariants.{Checksum}
use Rattle.rk_bytes.specs.declared.model.table.TableWhat.TheVariants.{Compressed}
use Rattle.rk_bytes.specs.declared.model.open.OpenErr.{OpenErr}
use Rattle.rk_bytes.specs.declared.model.open.OpenErr.TheVariants.{NoCurrent, BadCurrent, NoManifest, Manifest, MissingTable, SizeMismatch, DamagedTable, UnsupportedTable, OutOfBounds, MissingLog, ShortLog, Wal}
use Rattle.rk_bytes.specs.Model.Numbers.{fixed_of, prefixed_of, in_turn}
use Rattle.rk_bytes.specs.Model.Checksums.{crc_bit, crc_bits, crc_bytes, crc32c, pieces}
use Rattle.rk_bytes.specs.Model.LogMarks.{fragment_found, found, marks_from, block_len, blocks_marks, log_marks}
use Rattle.rk_bytes.specs.Model.FileNames.{name_of, current_manifest}
use Rattle.rk_bytes.specs.Model.WriteBatch.{batch_of}
use Rattle.rk_bytes.specs.Model.VersionEdit.{after_customs, synced_sizes_at, edit_fields}
use Rattle.rk_bytes.specs.Model.Manifest.{edits_of, parted_units, steps_in_order, edit_step, overlap, unit_step, version_after}
use Rattle.rk_bytes.specs.Model.BlockEntries.{block_entries, entries_after, index_entries}
use Rattle.rk_bytes.specs.Model.TableFooter.{footer_of, checked_block}
use Rattle.rk_bytes.specs.Model.TableStatus.{property_list, range_list, table_with, table_status}
use Rattle.rk_bytes.specs.Model.InternalKey.{internal_key}
use Rattle.rk_bytes.specs.Model.Records.{RecordMap, last_records}
use Rattle.rk_bytes.specs.Model.Replay.{replay}
use Rattle.rk_bytes.specs.Model.Opening.{Opened, logs_of, table_file, open_files, open_directory}

-- a directory as a list of its files
abbrev pub FileList : Type 0
FileList = List (List ℕ × List ℕ)

-- the files stand in the order of their names
abbrev pub in_name_order : FileList → Type 0
in_name_order files = T (is_sorted (slice_cmp nat_cmp) files)

-- what the directory is opened to, computed
pub opened : Mode → FileList → Result Opened OpenErr
unfolding open_files table_file replay log_marks blocks_marks marks_from found fragment_found block_len pieces crc32c crc_bytes crc_bits crc_bit batch_of in_turn name_of digits current_manifest edits_of edit_fields after_customs synced_sizes_at parted_units steps_in_order edit_step overlap unit_step version_after table_status table_with footer_of checked_block internal_key block_entries entries_after property_list range_list index_entries
opened mode files = open_files mode (λ name. find (slice_cmp nat_cmp) name files) (logs_of files)

-- it is what the definition says
pub opens : (mode : Mode) (files : FileList) → in_name_order files → open_directory mode (from_sorted files) ≡ opened mode files
unfolding opened
opens mode files order = λ i. open_files mode (λ name. get-from_sorted (slice_cmp nat_cmp) files name order i) (logs_of (entries-from_sorted (slice_cmp nat_cmp) files order i))

-- the four modes over a directory
abbrev each_mode : {A : Type 0} → (Mode → A) → List A
each_mode make = map make (TolerateTail ∷ Absolute ∷ PointInTime ∷ SkipAny ∷ [])

opens_each : (files : FileList) → in_name_order files → each_mode (λ mode. open_directory mode (from_sorted files)) ≡ each_mode (λ mode. opened mode files)
opens_each files order = λ i. each_mode (λ mode. opens mode files order i)

-- a log's record with this stored sum, and a batch of one put
log_record : ℕ → List ℕ → List ℕ
log_record sum payload = fixed_of 4 sum ++ fixed_of 2 (length payload) ++ 1 ∷ payload

put_batch : ℕ → List ℕ → List ℕ → List ℕ
put_batch sequence key value = fixed_of 8 sequence ++ fixed_of 4 1 ++ 1 ∷ prefixed_of key ++ prefixed_of value

put_of : ℕ → List ℕ → List ℕ → Record
put_of sequence key value = record { family = 0; key = key; sequence = sequence; kind = Value; value = value }

-- the file CURRENT, and a manifest of a new database's edit and of these records
current : List ℕ → List ℕ × List ℕ
current text = (codes "CURRENT", text)

manifest : List ℕ → List ℕ × List ℕ
unfolding log_record
manifest more = (codes "MANIFEST-000002", log_record 0x51748d91 (1 ∷ 26 ∷ codes "leveldb.BytewiseComparator" ++ 2 ∷ 3 ∷ 3 ∷ 4 ∷ 4 ∷ 0 ∷ []) ++ more)

-- log 3, of a put of `a` and of one of `b`, less its last bytes
log_3 : ℕ → List ℕ × List ℕ
unfolding log_record put_batch
log_3 len = (codes "000003.log", take len (log_record 0x19789fe9 (put_batch 1 (codes "a") (codes "1")) ++ log_record 0x7abc728f (put_batch 2 (codes "b") (codes "2"))))

-- what a new database with these records in its log is opened to
new_database : List Record → ℕ → Option ℕ → ℕ → Result Opened OpenErr
new_database records expected stopped top = Ok (record {
  state = record { families = record { id = 0; name = codes "default"; log = 3; files = 0 } ∷ []; records = last_records records; tombs = [] };
  version = record {
    families = record { id = 0; name = codes "default"; log = 3; files = [] } ∷ [];
    log_seen = true;
    next_file = Some 4;
    last_sequence = Some 0;
    least_log = 0;
    greatest_family = 0;
    wals = [];
  };
  manifest = 2;
  expected = expected;
  stopped = stopped;
  top = top;
})

of_no_file : open_directory PointInTime (from_sorted []) ≡ Err NoCurrent
unfolding opened
of_no_file = opens PointInTime [] tt

-- a new database with so many bytes of log 3
with_log : ℕ → FileList
unfolding log_3 current manifest
with_log len = log_3 len ∷ current (codes "MANIFEST-000002\n") ∷ manifest [] ∷ []

of_two_puts : each_mode (λ mode. open_directory mode (from_sorted (with_log 48)))
    ≡ replicate 4 (new_database (put_of 1 (codes "a") (codes "1") ∷ put_of 2 (codes "b") (codes "2") ∷ []) 3 None 2)
unfolding opened with_log log_3 current manifest log_record put_batch put_of new_database
of_two_puts = opens_each (with_log 48) tt

of_a_torn_log : each_mode (λ mode. open_directory mode (from_sorted (with_log 47)))
    ≡ new_database (put_of 1 (codes "a") (codes "1") ∷ []) 2 None 1
    ∷ Err (Wal (Corrupt 3 24 Torn))
    ∷ new_database (put_of 1 (codes "a") (codes "1") ∷ []) 2 (Some 3) 1
    ∷ new_database (put_of 1 (codes "a") (codes "1") ∷ []) 2 None 1 ∷ []
unfolding opened with_log log_3 current manifest log_record put_batch put_of new_database
of_a_torn_log = opens_each (with_log 47) tt

-- what directories are opened to in the mode that is taken where none is chosen
open_all : List FileList → List (Result Opened OpenErr)
open_all directories = map (λ files. open_directory PointInTime (from_sorted files)) directories

all_opened : List FileList → List (Result Opened OpenErr)
unfolding opened
all_opened directories = map (λ files. opened PointInTime files) directories

opens_all : (directories : List FileList) → AllByRecursion in_name_order directories → open_all directories ≡ all_opened directories
unfolding open_all all_opened
opens_all [] orders = refl
opens_all (files ∷ directories) orders = λ i. opens PointInTime files orders.0 i ∷ opens_all directories orders.1 i

-- no newline, the name of a manifest that isn't there, and a manifest without an edit
bad_manifests : List FileList
unfolding current manifest
bad_manifests =
    (current (codes "MANIFEST-000002") ∷ manifest [] ∷ []) ∷ (current (codes "MANIFEST-000009\n") ∷ manifest [] ∷ [])
    ∷ (current (codes "MANIFEST-000002\n") ∷ (codes "MANIFEST-000002", []) ∷ []) ∷ []

of_bad_manifests : open_all bad_manifests ≡ Err (BadCurrent NoNewline) ∷ Err (NoManifest 9) ∷ Err (Manifest (NoFields LogNumber)) ∷ []
unfolding all_opened opened bad_manifests current manifest log_record
of_bad_manifests = opens_all bad_manifests (tt, (tt, (tt, tt)))

-- a block with one restart offset, of this type and with this stored sum, and a footer with these handles
block_of : ℕ → ℕ → List ℕ → List ℕ
block_of kind sum entries = entries ++ fixed_of 4 0 ++ fixed_of 4 1 ++ kind ∷ fixed_of 4 sum

footer : List ℕ → List ℕ
footer handles = handles ++ replicate 36 0 ++ fixed_of 8 0xdb4775248b80fb57

-- a table of one record, and one of one range deletion, with these stored sums
table_of : ℕ → ℕ → ℕ → List ℕ → List ℕ → List ℕ
unfolding block_of footer
table_of kind sum index_sum key value =
    block_of kind sum (0 ∷ 9 ∷ 1 ∷ key ++ value) ++ block_of 0 0xb0a1f2c0 [] ++ block_of 0 index_sum (0 ∷ 9 ∷ 2 ∷ key ++ 0 ∷ 21 ∷ []) ++ footer (26 ∷ 8 ∷ 39 ∷ 22 ∷ [])

range_table : ℕ → ℕ → List ℕ → List ℕ → List ℕ
unfolding block_of footer
range_table sum metas_sum key end =
    block_of 0 sum (0 ∷ 9 ∷ 1 ∷ key ++ end) ++ block_of 0 metas_sum (0 ∷ 17 ∷ 2 ∷ codes "rocksdb.range_del" ++ 0 ∷ 21 ∷ []) ++ block_of 0 0xb0a1f2c0 []
    ++ footer (26 ∷ 30 ∷ 61 ∷ 8 ∷ [])

-- the field that adds a table of this level, number and size between these keys
add_table : ℕ → ℕ → ℕ → List ℕ → List ℕ → List ℕ
add_table level number size smallest largest = 7 ∷ level ∷ number ∷ size ∷ prefixed_of smallest ++ prefixed_of largest

-- a new database with one more edit, which has this sum, and with table 4 where it is there
with_table : ℕ → List ℕ → List (List ℕ) → FileList
unfolding current manifest log_record
with_table sum edit tables = map (λ bytes. (codes "000004.sst", bytes)) tables ++ current (codes "MANIFEST-000002\n") ∷ manifest (log_record sum edit) ∷ []

-- `a` = `x` at sequence number 1
key_of_a : List ℕ
unfolding internal_key
key_of_a = internal_key (codes "a") 1 Value

good_table : List ℕ
unfolding table_of key_of_a
good_table = table_of 0 0x7488dd84 0xbf254936 key_of_a (codes "x")

-- Table 4 is absent, has another size, is damaged, is compressed, is compressed with a wrong sum, and has a record
-- outside its bounds.
bad_tables : List FileList
unfolding with_table add_table table_of key_of_a good_table internal_key
bad_tables =
    with_table 0xc85cc9d0 (add_table 0 4 114 key_of_a key_of_a) []
    ∷ with_table 0x8086afc4 (add_table 0 4 115 key_of_a key_of_a) (good_table ∷ [])
    ∷ with_table 0xc85cc9d0 (add_table 0 4 114 key_of_a key_of_a) (table_of 0 0x7488dd85 0xbf254936 key_of_a (codes "x") ∷ [])
    ∷ with_table 0xc85cc9d0 (add_table 0 4 114 key_of_a key_of_a) (table_of 1 0x76850153 0xbf254936 key_of_a (codes "x") ∷ [])
    ∷ with_table 0xc85cc9d0 (add_table 0 4 114 key_of_a key_of_a) (table_of 1 0x7488dd84 0xbf254936 key_of_a (codes "x") ∷ [])
    ∷ with_table 0x1cbd5bbd (add_table 0 4 114 (internal_key (codes "b") 1 Value) (internal_key (codes "b") 1 Value)) (good_table ∷ []) ∷ []

of_bad_tables : open_all bad_tables
    ≡ Err (MissingTable 4) ∷ Err (SizeMismatch 4 115 114) ∷ Err (DamagedTable 4 Checksum 0) ∷ Err (UnsupportedTable 4 (Compressed 1)) ∷ Err (DamagedTable 4 Checksum 0) ∷ Err (OutOfBounds 4) ∷ []
unfolding all_opened opened bad_tables with_table add_table good_table table_of block_of footer key_of_a current manifest log_record internal_key
of_bad_tables = opens_all bad_tables (tt, (tt, (tt, (tt, (tt, (tt, tt))))))

-- the record map and the range deletions of what is opened, and the greatest sequence number
pub record Held : Type 0 where
  pub records : RecordMap
  pub tombs : List Tomb
  pub top : ℕ

-- what is looked at of what is opened
abbrev held : Result Opened OpenErr → Result Held OpenErr
held (Ok opened) = Ok (record { records = opened.state.records; tombs = opened.state.tombs; top = opened.top })
held (Err why) = Err why

-- Table 4 at level 1 is the range deletion of `b` to `d` at 10 and ends before `c`. Table 5 there is `c` = `v` at 0.
cut_directory : FileList
unfolding range_table table_of add_table current manifest log_record internal_key
cut_directory =
    (codes "000004.sst", range_table 0x8ab01109 0xfb78a5f0 (internal_key (codes "b") 10 RangeDeletion) (codes "d"))
    ∷ (codes "000005.sst", table_of 0 0x2d233a96 0x6883885b (internal_key (codes "c") 0 Value) (codes "v"))
    ∷ current (codes "MANIFEST-000002\n")
    ∷ manifest (log_record 0x14b47f5f
    (add_table 1 4 122 (internal_key (codes "b") 10 RangeDeletion) (internal_key (codes "c") (2 ^ 56 - 1) RangeDeletion)
    ++ add_table 1 5 114 (internal_key (codes "c") 0 Value) (internal_key (codes "c") 0 Value))) ∷ []

of_a_cut_range_deletion : held (open_directory PointInTime (from_sorted cut_directory)) ≡ Ok (record {
  records = last_records (
      record { family = 0; key = codes "b"; sequence = 10; kind = RangeDeletion; value = codes "d" } ∷ record { family = 0; key = codes "c"; sequence = 0; kind = Value; value = codes "v" } ∷ []);
  tombs = record {
    family = 0;
    start = codes "b";
    end = codes "d";
    sequence = 10;
    cut = Some (record { smallest = internal_key (codes "b") 10 RangeDeletion; largest = internal_key (codes "c") (2 ^ 56 - 1) RangeDeletion });
  } ∷ [];
  top = 10;
})
unfolding opened cut_directory range_table table_of block_of footer add_table current manifest log_record internal_key
of_a_cut_range_deletion = λ i. held (opens PointInTime cut_directory tt i)

-- a new database whose log 3 is tracked and was synced for 48 bytes, with so many bytes of it or without it, and
-- with these records in its manifest after that
tracked : List ℕ → List (List ℕ × List ℕ) → FileList
unfolding current manifest log_record
tracked more logs = logs ++ current (codes "MANIFEST-000002\n") ∷ manifest (log_record 0x5f01a445 (0x87 ∷ 0x40 ∷ 4 ∷ 3 ∷ 2 ∷ 48 ∷ 1 ∷ []) ++ more) ∷ []

-- In the last two of them a later edit forgets the logs below 4, or says that 4 is the first log that is needed.
tracked_logs : List FileList
unfolding tracked log_3 log_record
tracked_logs =
    tracked [] (log_3 48 ∷ []) ∷ tracked [] (log_3 47 ∷ []) ∷ tracked [] [] ∷ tracked (log_record 0x1c66808c (0x88 ∷ 0x40 ∷ 1 ∷ 4 ∷ [])) []
    ∷ tracked (log_record 0xd06d36cd (2 ∷ 4 ∷ [])) (log_3 47 ∷ []) ∷ []

of_tracked_logs : map held (open_all tracked_logs)
    ≡ Ok (record { records = last_records (put_of 1 (codes "a") (codes "1") ∷ put_of 2 (codes "b") (codes "2") ∷ []); tombs = []; top = 2 })
    ∷ Err (ShortLog 3 48 47) ∷ Err (MissingLog 3) ∷ replicate 2 (Ok (record { records = last_records []; tombs = []; top = 0 }))
unfolding all_opened opened tracked_logs tracked log_3 current manifest log_record put_batch put_of
of_tracked_logs = λ i. map held (opens_all tracked_logs (tt, (tt, (tt, (tt, (tt, tt))))) i)

-- A second family with table 4 and log number 8, and the logs 5 and 7, of which the second doesn't go on with the
-- first.
two_logs : List ℕ → FileList
unfolding good_table key_of_a add_table current manifest log_record put_batch
two_logs log_5 =
    (codes "000004.sst", good_table) ∷ (codes "000005.log", log_5) ∷ (codes "000007.log", log_record 0x30a2356 (put_batch 3 (codes "b") (codes "2")))
    ∷ current (codes "MANIFEST-000002\n")
    ∷ manifest (log_record 0xfd73ec38 (0xC8 ∷ 1 ∷ 1 ∷ 0xC9 ∷ 1 ∷ prefixed_of (codes "one") ++ 2 ∷ 8 ∷ add_table 0 4 114 key_of_a key_of_a)) ∷ []

-- Log 5 ends with a wrong sum, or where an earlier life of its file begins, as log 4.
ends_of_log_5 : List FileList
unfolding two_logs log_record put_batch
ends_of_log_5 =
    two_logs (log_record 0x19789fe9 (put_batch 1 (codes "a") (codes "1")) ++ log_record 0 (put_batch 2 (codes "b") (codes "2")))
    ∷ two_logs (
    (fixed_of 4 0xf7bb674b ++ fixed_of 2 17 ++ 5 ∷ fixed_of 4 5 ++ put_batch 1 (codes "a") (codes "1"))
    ++ fixed_of 4 0xa2b13f99 ++ fixed_of 2 17 ++ 5 ∷ fixed_of 4 4 ++ put_batch 2 (codes "b") (codes "2")) ∷ []

of_a_family_ahead : map held (open_all ends_of_log_5)
    ≡ Err (Wal (FamilyAhead 1 5))
    ∷ Ok (record { records = last_records (record { family = 1; key = codes "a"; sequence = 1; kind = Value; value = codes "x" } ∷ put_of 1 (codes "a") (codes "1") ∷ []); tombs = []; top = 1 }) ∷ []
unfolding all_opened opened ends_of_log_5 two_logs good_table key_of_a add_table table_of block_of footer current manifest log_record put_batch put_of internal_key
of_a_family_ahead = λ i. map held (opens_all ends_of_log_5 (tt, (tt, tt)) i)

-- a put of `k` and two merges in one batch
merges : FileList
unfolding current manifest log_record
merges = (
  codes "000003.log",
  log_record 0x5ed3526d (
      fixed_of 8 1 ++ fixed_of 4 3 ++ (1 ∷ 1 ∷ codes "k") ++ (1 ∷ codes "x") ++ (2 ∷ 1 ∷ codes "k") ++ (1 ∷ codes "y") ++ (2 ∷ 1 ∷ codes "k") ++ (1 ∷ codes "z")),
)
    ∷ current (codes "MANIFEST-000002\n") ∷ manifest [] ∷ []

of_merges : held (open_directory PointInTime (from_sorted merges)) ≡ Ok (record {
  records = last_records (put_of 1 (codes "k") (codes "x") ∷ record { family = 0; key = codes "k"; sequence = 2; kind = Merge; value = codes "y" } ∷ record { family = 0; key = codes "k"; sequence = 3; kind = Merge; value = codes "z" } ∷ []);
  tombs = [];
  top = 3;
})
unfolding opened merges current manifest log_record put_of
of_merges = λ i. held (opens PointInTime merges tt i)
