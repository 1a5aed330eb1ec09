-- Directories that are salvaged and repaired, small enough to be computed (this project's own examples). Their
-- bytes were made outside.
use Rattle.std.specs.Prelude.{◌≡◌, ℕ, List, [], ◌∷◌, ◌++◌, map, take, drop, replicate, Option, Some, None, Result, Ok, codes, T, refl}
use Rattle.std.specs.Ordering.{nat_cmp}
use Rattle.std.specs.Cmp.Lexicographic.{slice_cmp}
use Rattle.std.specs.FinMap.{is_sorted, from_sorted, entries-from_sorted}
use Rattle.std.specs.Fmt.{digits}
use Rattle.rk_bytes.specs.declared.model.key.Kind.TheVariants.{Value, RangeDeletion}
use Rattle.rk_bytes.specs.declared.model.key.Record.{Record}
use Rattle.rk_bytes.specs.declared.model.salvage.SurveyErr.{SurveyErr}
use Rattle.rk_bytes.specs.declared.model.salvage.FamilyName.{FamilyName}
use Rattle.rk_bytes.specs.declared.model.salvage.Moved.{Moved}
use Rattle.rk_bytes.specs.declared.model.salvage.Report.{Report}
use Rattle.rk_bytes.specs.Model.Numbers.{in_turn}
use Rattle.rk_bytes.specs.Model.Checksums.{pieces, crc_bit, crc_bits, crc_bytes, crc32c}
use Rattle.rk_bytes.specs.Model.LogMarks.{log_marks, blocks_marks, block_len, marks_from, fragment_found, found}
use Rattle.rk_bytes.specs.Model.FileNames.{name_of}
use Rattle.rk_bytes.specs.Model.InternalKey.{internal_key}
use Rattle.rk_bytes.specs.Model.BlockEntries.{block_entries, entries_after, index_entries}
use Rattle.rk_bytes.specs.Model.TableFooter.{footer_of, checked_block}
use Rattle.rk_bytes.specs.Model.TableStatus.{property_list, range_list, table_with, table_status}
use Rattle.rk_bytes.specs.Model.WriteBatch.{batch_of}
use Rattle.rk_bytes.specs.Model.Records.{slot_cmp}
use Rattle.rk_bytes.specs.Model.Salvage.{Files, readable_records, table_part, numbered, greatest_number, agreeing, placed, last_in_order, TablePart, found_files, known_families, remainder_of, taken_records, report_of_files, free_lost_name, moves, repair_report}

-- a table of `a` = `x` at sequence 1
good_table : List ℕ
good_table = 0 ∷ 9 ∷ 1 ∷ 97 ∷ 1 ∷ 1 ∷ 0 ∷ 0 ∷ 0 ∷ 0 ∷ 0 ∷ 0 ∷ 0x78 ∷ 0 ∷ 0 ∷ 0 ∷ 0 ∷ 1 ∷ 0 ∷ 0 ∷ 0 ∷ 0 ∷ 0x84 ∷ 0xdd ∷ 0x88 ∷ 0x74 ∷ 0 ∷ 0 ∷ 0 ∷ 0 ∷ 1 ∷ 0 ∷ 0 ∷ 0 ∷ 0 ∷ 0xc0 ∷ 0xf2 ∷ 0xa1 ∷ 0xb0 ∷ 0 ∷ 9 ∷ 2 ∷ 97 ∷ 1 ∷ 1 ∷ 0 ∷ 0 ∷ 0 ∷ 0 ∷ 0 ∷ 0 ∷ 0 ∷ 21 ∷ 0 ∷ 0 ∷ 0 ∷ 0 ∷ 1 ∷ 0 ∷ 0 ∷ 0 ∷ 0 ∷ 54 ∷ 73 ∷ 37 ∷ 0xbf ∷ 26 ∷ 8 ∷ 39 ∷ 22 ∷ replicate 36 0 ++ 87 ∷ 0xfb ∷ 0x80 ∷ 0x8b ∷ 36 ∷ 0x75 ∷ 71 ∷ 0xdb ∷ []

-- logs of one batch each, which puts `b` at sequence 2
log_of_five : List ℕ
log_of_five = 0xc5 ∷ 4 ∷ 98 ∷ 0xf3 ∷ 20 ∷ 0 ∷ 1 ∷ 2 ∷ 0 ∷ 0 ∷ 0 ∷ 0 ∷ 0 ∷ 0 ∷ 0 ∷ 1 ∷ 0 ∷ 0 ∷ 0 ∷ 1 ∷ 1 ∷ 98 ∷ 4 ∷ 0x66 ∷ 0x69 ∷ 0x76 ∷ 0x65 ∷ []

log_of_seven : List ℕ
log_of_seven = 77 ∷ 22 ∷ 0xf6 ∷ 0 ∷ 21 ∷ 0 ∷ 1 ∷ 2 ∷ 0 ∷ 0 ∷ 0 ∷ 0 ∷ 0 ∷ 0 ∷ 0 ∷ 1 ∷ 0 ∷ 0 ∷ 0 ∷ 1 ∷ 1 ∷ 98 ∷ 5 ∷ 0x73 ∷ 0x65 ∷ 0x76 ∷ 0x65 ∷ 0x6e ∷ []

-- A table of two blocks, `m` = `x` at 3 and `n` = `y` at 4, with a byte of the first block changed.
damaged_table : List ℕ
damaged_table = 0 ∷ 9 ∷ 1 ∷ 0x6d ∷ 1 ∷ 3 ∷ 0 ∷ 0 ∷ 0 ∷ 0 ∷ 0 ∷ 0 ∷ 0x79 ∷ 0 ∷ 0 ∷ 0 ∷ 0 ∷ 1 ∷ 0 ∷ 0 ∷ 0 ∷ 0 ∷ 51 ∷ 0xcf ∷ 33 ∷ 46 ∷ 0 ∷ 9 ∷ 1 ∷ 0x6e ∷ 1 ∷ 4 ∷ 0 ∷ 0 ∷ 0 ∷ 0 ∷ 0 ∷ 0 ∷ 0x79 ∷ 0 ∷ 0 ∷ 0 ∷ 0 ∷ 1 ∷ 0 ∷ 0 ∷ 0 ∷ 0 ∷ 0xe8 ∷ 0xc5 ∷ 64 ∷ 0xa0 ∷ 0 ∷ 0 ∷ 0 ∷ 0 ∷ 1 ∷ 0 ∷ 0 ∷ 0 ∷ 0 ∷ 0xc0 ∷ 0xf2 ∷ 0xa1 ∷ 0xb0 ∷ 0 ∷ 9 ∷ 2 ∷ 0x6d ∷ 1 ∷ 3 ∷ 0 ∷ 0 ∷ 0 ∷ 0 ∷ 0 ∷ 0 ∷ 0 ∷ 21 ∷ 0 ∷ 9 ∷ 2 ∷ 0x6e ∷ 1 ∷ 4 ∷ 0 ∷ 0 ∷ 0 ∷ 0 ∷ 0 ∷ 0 ∷ 26 ∷ 21 ∷ 0 ∷ 0 ∷ 0 ∷ 0 ∷ 1 ∷ 0 ∷ 0 ∷ 0 ∷ 0 ∷ 25 ∷ 85 ∷ 62 ∷ 0xec ∷ 52 ∷ 8 ∷ 65 ∷ 36 ∷ replicate 36 0 ++ 87 ∷ 0xfb ∷ 0x80 ∷ 0x8b ∷ 36 ∷ 0x75 ∷ 71 ∷ 0xdb ∷ []

-- the same with `A` = `x` at 3 and `a` = `w` at 1
damaged_older : List ℕ
damaged_older = 0 ∷ 9 ∷ 1 ∷ 65 ∷ 1 ∷ 3 ∷ 0 ∷ 0 ∷ 0 ∷ 0 ∷ 0 ∷ 0 ∷ 0x79 ∷ 0 ∷ 0 ∷ 0 ∷ 0 ∷ 1 ∷ 0 ∷ 0 ∷ 0 ∷ 0 ∷ 64 ∷ 56 ∷ 0xb9 ∷ 0x67 ∷ 0 ∷ 9 ∷ 1 ∷ 97 ∷ 1 ∷ 1 ∷ 0 ∷ 0 ∷ 0 ∷ 0 ∷ 0 ∷ 0 ∷ 0x77 ∷ 0 ∷ 0 ∷ 0 ∷ 0 ∷ 1 ∷ 0 ∷ 0 ∷ 0 ∷ 0 ∷ 0xc6 ∷ 0x74 ∷ 0xae ∷ 0xbd ∷ 0 ∷ 0 ∷ 0 ∷ 0 ∷ 1 ∷ 0 ∷ 0 ∷ 0 ∷ 0 ∷ 0xc0 ∷ 0xf2 ∷ 0xa1 ∷ 0xb0 ∷ 0 ∷ 9 ∷ 2 ∷ 65 ∷ 1 ∷ 3 ∷ 0 ∷ 0 ∷ 0 ∷ 0 ∷ 0 ∷ 0 ∷ 0 ∷ 21 ∷ 0 ∷ 9 ∷ 2 ∷ 97 ∷ 1 ∷ 1 ∷ 0 ∷ 0 ∷ 0 ∷ 0 ∷ 0 ∷ 0 ∷ 26 ∷ 21 ∷ 0 ∷ 0 ∷ 0 ∷ 0 ∷ 1 ∷ 0 ∷ 0 ∷ 0 ∷ 0 ∷ 0xf1 ∷ 0x90 ∷ 0xc5 ∷ 6 ∷ 52 ∷ 8 ∷ 65 ∷ 36 ∷ replicate 36 0 ++ 87 ∷ 0xfb ∷ 0x80 ∷ 0x8b ∷ 36 ∷ 0x75 ∷ 71 ∷ 0xdb ∷ []

-- a directory without a manifest: a good table, this one as table 6, and two logs
directory_with : List ℕ → Files
unfolding good_table log_of_five log_of_seven
directory_with table = (codes "000004.sst", good_table) ∷ (codes "000005.log", log_of_five) ∷ (codes "000006.sst", table) ∷ (codes "000007.log", log_of_seven) ∷ []

-- a report, computed
computed : Files → Result Report SurveyErr
unfolding report_of_files numbered greatest_number agreeing placed free_lost_name moves readable_records table_part table_status table_with footer_of checked_block internal_key block_entries entries_after index_entries property_list range_list slot_cmp batch_of in_turn log_marks blocks_marks block_len pieces marks_from fragment_found found name_of digits crc32c crc_bytes crc_bits crc_bit
computed files = report_of_files files

-- what is admitted, in order, and what of it is added to the tables
admitted : Files → List Record
unfolding numbered agreeing placed readable_records table_part table_status table_with footer_of checked_block internal_key block_entries entries_after index_entries property_list range_list slot_cmp batch_of in_turn log_marks blocks_marks block_len pieces marks_from fragment_found found name_of digits crc32c crc_bytes crc_bits crc_bit
admitted files = last_in_order (taken_records (found_files files))

added : Files → List Record
unfolding numbered agreeing placed readable_records table_part table_status table_with footer_of checked_block internal_key block_entries entries_after index_entries property_list range_list slot_cmp batch_of in_turn log_marks blocks_marks block_len pieces marks_from fragment_found found name_of digits crc32c crc_bytes crc_bits crc_bit
added files = remainder_of (found_files files)

put_of : List ℕ → ℕ → List ℕ → Record
put_of key sequence value = record { family = 0; key = key; sequence = sequence; kind = Value; value = value }

-- the part of a table, computed
part_computed : List ℕ → Option TablePart
unfolding table_part readable_records footer_of checked_block crc32c crc_bytes crc_bits crc_bit block_entries entries_after index_entries
part_computed table = table_part table

-- the second block is read
with_a_block_changed : part_computed damaged_table ≡ Some (record { family = 0; name = codes "default"; ranges = []; records = put_of (codes "n") 4 (codes "y") ∷ [] })
unfolding part_computed damaged_table put_of
with_a_block_changed = refl

-- with a byte of the index changed there is no part
with_the_index_changed : part_computed (take 65 damaged_table ++ 1 ∷ drop 66 damaged_table) ≡ None
unfolding part_computed damaged_table
with_the_index_changed = refl

moved_logs : List Moved
moved_logs = record { name = codes "000005.log"; lost = codes "lost/000005.log" } ∷ record { name = codes "000007.log"; lost = codes "lost/000007.log" } ∷ []

moved_table : Moved
moved_table = record { name = codes "000006.sst"; lost = codes "lost/000006.sst" }

-- table 6 isn't one: all of it is left out, and of the two logs the later counts
without_a_part : computed (directory_with (replicate 10 0)) ≡ Ok (record { moved = moved_logs ++ moved_table ∷ []; families = 1; tables = 1; logs = 2; added = 1; archived = 1; records = 2 })
unfolding computed directory_with moved_logs moved_table
without_a_part = refl

admitted_without_a_part : admitted (directory_with (replicate 10 0)) ≡ put_of (codes "a") 1 (codes "x") ∷ put_of (codes "b") 2 (codes "seven") ∷ []
unfolding admitted directory_with put_of
admitted_without_a_part = refl

-- of table 6 the second block is read
with_a_part : computed (directory_with damaged_table) ≡ Ok (record { moved = moved_logs ++ moved_table ∷ []; families = 1; tables = 1; logs = 2; added = 1; archived = 1; records = 3 })
unfolding computed directory_with damaged_table moved_logs moved_table
with_a_part = refl

added_with_a_part : added (directory_with damaged_table) ≡ put_of (codes "b") 2 (codes "seven") ∷ put_of (codes "n") 4 (codes "y") ∷ []
unfolding added directory_with damaged_table put_of
added_with_a_part = refl

-- the good table counts before the part
of_an_older_part : admitted (directory_with damaged_older) ≡ put_of (codes "a") 1 (codes "x") ∷ put_of (codes "b") 2 (codes "seven") ∷ []
unfolding admitted directory_with damaged_older put_of
of_an_older_part = refl

-- a file that was moved before keeps its name
with_a_lost_log : computed (directory_with (replicate 10 0) ++ (codes "lost/000005.log", []) ∷ []) ≡ Ok (record { moved = record { name = codes "000005.log"; lost = codes "lost/000005.log.1" } ∷ record { name = codes "000007.log"; lost = codes "lost/000007.log" } ∷ moved_table ∷ []; families = 1; tables = 1; logs = 2; added = 1; archived = 1; records = 2 })
unfolding computed directory_with moved_table
with_a_lost_log = refl

-- A damaged table of family 3 named `three`, of which `n` = `y` at 4 and a range deletion of `b` to `d` at 5 can be
-- read.
table_of_three : List ℕ
table_of_three = 0 ∷ 9 ∷ 1 ∷ 0x6d ∷ 1 ∷ 3 ∷ 0 ∷ 0 ∷ 0 ∷ 0 ∷ 0 ∷ 0 ∷ 0x79 ∷ 0 ∷ 0 ∷ 0 ∷ 0 ∷ 1 ∷ 0 ∷ 0 ∷ 0 ∷ 0 ∷ 51 ∷ 0xcf ∷ 33 ∷ 46 ∷ 0 ∷ 9 ∷ 1 ∷ 0x6e ∷ 1 ∷ 4 ∷ 0 ∷ 0 ∷ 0 ∷ 0 ∷ 0 ∷ 0 ∷ 0x79 ∷ 0 ∷ 0 ∷ 0 ∷ 0 ∷ 1 ∷ 0 ∷ 0 ∷ 0 ∷ 0 ∷ 0xe8 ∷ 0xc5 ∷ 64 ∷ 0xa0 ∷ 0 ∷ 24 ∷ 1 ∷ codes "rocksdb.column.family.id" ++ 3 ∷ 0 ∷ 26 ∷ 5 ∷ codes "rocksdb.column.family.namethree" ++ 0 ∷ 0 ∷ 0 ∷ 0 ∷ 1 ∷ 0 ∷ 0 ∷ 0 ∷ 0 ∷ 0x9b ∷ 16 ∷ 11 ∷ 0xcd ∷ 0 ∷ 9 ∷ 1 ∷ 98 ∷ 15 ∷ 5 ∷ 0 ∷ 0 ∷ 0 ∷ 0 ∷ 0 ∷ 0 ∷ 0x64 ∷ 0 ∷ 0 ∷ 0 ∷ 0 ∷ 1 ∷ 0 ∷ 0 ∷ 0 ∷ 0 ∷ 65 ∷ 0xe6 ∷ 68 ∷ 0xd3 ∷ 0 ∷ 18 ∷ 2 ∷ codes "rocksdb.properties" ++ 52 ∷ 70 ∷ 0 ∷ 17 ∷ 2 ∷ codes "rocksdb.range" ++ 95 ∷ 0x64 ∷ 0x65 ∷ 0x6c ∷ 0x7f ∷ 21 ∷ 0 ∷ 0 ∷ 0 ∷ 0 ∷ 1 ∷ 0 ∷ 0 ∷ 0 ∷ 0 ∷ 50 ∷ 0x67 ∷ 0xa4 ∷ 0x93 ∷ 0 ∷ 9 ∷ 2 ∷ 0x6d ∷ 1 ∷ 3 ∷ 0 ∷ 0 ∷ 0 ∷ 0 ∷ 0 ∷ 0 ∷ 0 ∷ 21 ∷ 0 ∷ 9 ∷ 2 ∷ 0x6e ∷ 1 ∷ 4 ∷ 0 ∷ 0 ∷ 0 ∷ 0 ∷ 0 ∷ 0 ∷ 26 ∷ 21 ∷ 0 ∷ 0 ∷ 0 ∷ 0 ∷ 1 ∷ 0 ∷ 0 ∷ 0 ∷ 0 ∷ 25 ∷ 85 ∷ 62 ∷ 0xec ∷ 0x99 ∷ 1 ∷ 53 ∷ 0xd3 ∷ 1 ∷ 36 ∷ replicate 34 0 ++ 87 ∷ 0xfb ∷ 0x80 ∷ 0x8b ∷ 36 ∷ 0x75 ∷ 71 ∷ 0xdb ∷ []

directory_of_three : Files
unfolding good_table table_of_three
directory_of_three = (codes "000004.sst", good_table) ∷ (codes "000006.sst", table_of_three) ∷ []

-- the family is known by that table alone, so all that is read of it is added
of_a_family_of_damaged_tables : computed directory_of_three ≡ Ok (record { moved = moved_table ∷ []; families = 2; tables = 1; logs = 0; added = 1; archived = 1; records = 3 })
unfolding computed directory_of_three moved_table
of_a_family_of_damaged_tables = refl

added_of_three : added directory_of_three
    ≡ record { family = 3; key = codes "b"; sequence = 5; kind = RangeDeletion; value = codes "d" } ∷ record { family = 3; key = codes "n"; sequence = 4; kind = Value; value = codes "y" } ∷ []
unfolding added directory_of_three
added_of_three = refl

-- the known families, computed
families_computed : Files → List FamilyName
unfolding numbered agreeing readable_records table_part table_status table_with footer_of checked_block internal_key block_entries entries_after index_entries property_list range_list name_of digits crc32c crc_bytes crc_bits crc_bit batch_of in_turn log_marks blocks_marks block_len pieces marks_from fragment_found found
families_computed files = known_families (found_files files)

families_with_and_without_a_part : map families_computed (directory_of_three ∷ directory_with (replicate 10 0) ∷ [])
    ≡ (record { id = 0; name = codes "default" } ∷ record { id = 3; name = codes "three" } ∷ []) ∷ (record { id = 0; name = codes "default" } ∷ []) ∷ []
unfolding families_computed directory_of_three directory_with
families_with_and_without_a_part = refl

-- the report of a directory is that of its files
report_of : (files : Files) → T (is_sorted (slice_cmp nat_cmp) files) → repair_report (from_sorted files) ≡ report_of_files files
report_of files sorted = λ i. report_of_files (entries-from_sorted (slice_cmp nat_cmp) files sorted i)

of_an_empty_directory : repair_report (from_sorted []) ≡ Ok (record { moved = []; families = 1; tables = 0; logs = 0; added = 0; archived = 0; records = 0 })
unfolding report_of_files numbered greatest_number agreeing placed moves slot_cmp
of_an_empty_directory = report_of [] tt
