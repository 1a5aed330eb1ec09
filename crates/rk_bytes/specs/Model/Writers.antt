-- What is written, but for logs (WrittenLogs): write batches (db/write_batch.cc), blocks
-- (table/block_based/block_builder.cc), tables (table/block_based/block_based_table_builder.cc,
-- table/format.cc), version edits (db/version_edit.cc), and the manifest of a repaired directory, which is
-- this project's own rule. What is read again from it, the definitions of the readers say.
use Rattle.std.specs.Prelude.{◌≡◌, ℕ, ◌+◌, ◌-◌, ◌^◌, ◌==◌, max, Bool, true, not, List, [], ◌∷◌, ◌++◌, length, map, flat_map, drop, fold, filter, filter_map, reverse, replicate, sum_by, nat_eq, nat_le, if◌then◌else◌, Option, Some, None, unwrap_or, codes, refl}
use Rattle.std.specs.List.{common_prefix_len, concat, last_or, range_with_len, scan, zip}
use Rattle.rk_bytes.specs.declared.model.block.Handle.{Handle}
use Rattle.rk_bytes.specs.declared.model.block.RangeDel.{RangeDel}
use Rattle.rk_bytes.specs.declared.model.edit.Seqs.{Seqs}
use Rattle.rk_bytes.specs.declared.model.key.Kind.{Kind}
use Rattle.rk_bytes.specs.declared.model.key.Kind.TheVariants.{Deletion, Value, Merge, SingleDeletion, RangeDeletion}
use Rattle.rk_bytes.specs.declared.model.key.Record.{Record}
use Rattle.rk_bytes.specs.declared.model.table.SumKind.TheVariants.{Crc32c}
use Rattle.rk_bytes.specs.Model.Numbers.{fixed_of, varint_of, prefixed_of}
use Rattle.rk_bytes.specs.Model.Checksums.{block_sum}
use Rattle.rk_bytes.specs.Model.InternalKey.{internal_key, bytewise_name}
use Rattle.rk_bytes.specs.Model.TableFooter.{newer_magic}
use Rattle.rk_bytes.specs.Model.TableStatus.{start_key, is_range_deletion}
use Rattle.rk_bytes.specs.Model.VersionEdit.{Field, NewFile, comparator, log_number, next_file, last_sequence, compact_cursor, delete_file, add_file, previous_log, least_log, family, family_add, family_drop, greatest_family, group, wal_add, wal_delete, ignored}
use Rattle.rk_bytes.specs.Model.WriteBatch.{plain_tag, family_tag}
use Rattle.rk_bytes.specs.Model.WrittenLogs.{written_log}

-- The tag of a change, and the family's id where it isn't the default family.
abbrev pub family_bytes : Record → List ℕ
family_bytes r = if r.family == 0 then plain_tag r.kind ∷ [] else family_tag r.kind ∷ varint_of r.family

-- the value of a change: nothing for a deletion
abbrev pub value_bytes : Kind → List ℕ → List ℕ
value_bytes Deletion value = []
value_bytes SingleDeletion value = []
value_bytes _ value = prefixed_of value

-- a change in a batch. Its sequence number isn't written.
abbrev pub change_bytes : Record → List ℕ
change_bytes r = family_bytes r ++ prefixed_of r.key ++ value_bytes r.kind r.value

-- a write batch: the sequence number of its first change, how many changes it has, and the changes
unfoldable pub batch_bytes : ℕ → List Record → List ℕ
batch_bytes sequence records = fixed_of 8 sequence ++ fixed_of 4 (length records) ++ flat_map change_bytes records

-- groups, the last one first, with one more item: it begins a group where the last one is full
abbrev pub with_item : {A : Type 0} → (List A → Bool) → List (List A) → A → List (List A)
with_item is_full [] item = (item ∷ []) ∷ []
with_item is_full (last ∷ groups) item = if is_full last then (item ∷ []) ∷ last ∷ groups else (last ++ item ∷ []) ∷ groups

-- items in groups, each of which is closed before an item once it is full
unfoldable pub grouped : {A : Type 0} → (List A → Bool) → List A → List (List A)
grouped is_full items = reverse (fold (with_item is_full) [] items)

-- an entry of a block: a key and its value
abbrev pub KeyValue : Type 0
KeyValue = List ℕ × List ℕ

-- An entry, written after one with this key: how many bytes its key shares with that, how many more it has,
-- how many the value has; the key's other bytes; the value.
abbrev pub entry_bytes : List ℕ → KeyValue → List ℕ
entry_bytes before entry =
    let shared = common_prefix_len nat_eq before entry.0 in
    varint_of shared ++ varint_of (length entry.0 - shared) ++ varint_of (length entry.1) ++ drop shared entry.0 ++ entry.1

-- entries from one restart up to the next: the first shares nothing, and any other with the one before it
unfoldable pub run_bytes : List KeyValue → List ℕ
run_bytes entries = flat_map (λ pair. entry_bytes pair.0 pair.1) (zip ([] ∷ map (λ entry. entry.0) entries) entries)

-- entries with a restart at so many each. With no entry there is one restart all the same.
abbrev pub entry_runs : ℕ → List KeyValue → List (List KeyValue)
entry_runs restart_every [] = [] ∷ []
entry_runs restart_every entries = grouped (λ run. length run == restart_every) entries

-- where each part begins, if they are joined
abbrev pub beginnings : List (List ℕ) → List ℕ
beginnings parts = scan (λ place part. place + length part) (λ place part. place) 0 parts

-- a block: its entries, the restart offsets, and how many these are
unfoldable pub block_bytes : ℕ → List KeyValue → List ℕ
block_bytes restart_every entries =
    let runs = map run_bytes (entry_runs restart_every entries) in
    concat runs ++ flat_map (fixed_of 4) (beginnings runs) ++ fixed_of 4 (length runs)

-- a block in a file: its bytes, the type byte of one that isn't compressed, and its checksum
abbrev pub stored : List ℕ → List ℕ
stored block = block ++ 0 ∷ fixed_of 4 (block_sum Crc32c block 0)

-- the handle of a block that stands behind these, each of which has a trailer of 5 bytes
abbrev pub handle_behind : List (List ℕ) → List ℕ → Handle
handle_behind blocks block = record { offset = sum_by (λ other. length other + 5) blocks; size = length block }

-- the handles of the blocks at a file's front
abbrev pub front_handles : List (List ℕ) → List Handle
front_handles blocks = scan (λ before block. before ++ block ∷ []) handle_behind [] blocks

-- a handle, written
abbrev pub handle_bytes : Handle → List ℕ
handle_bytes handle = varint_of handle.offset ++ varint_of handle.size

-- What a table is written from: its family, its data records in the order of their internal keys, and its
-- range deletions in the order in which they were added.
pub record TableContents : Type 0 where
  pub family : ℕ
  pub family_name : List ℕ
  pub records : List Record
  pub ranges : List RangeDel

-- the entries of the data blocks, each under its internal key
abbrev pub data_entries : TableContents → List KeyValue
data_entries table = map (λ r. (internal_key r.key r.sequence r.kind, r.value)) table.records

-- the entries of the range deletions' block: the start's internal key, and the end
abbrev pub range_entries : TableContents → List KeyValue
range_entries table = map (λ range. (start_key range, range.end)) table.ranges

-- the entries of each data block: it has at least 4,096 bytes once it is full
abbrev pub data_groups : TableContents → List (List KeyValue)
data_groups table = grouped (λ entries. nat_le 4096 (length (block_bytes 16 entries))) (data_entries table)

-- the range deletions' block, if there is one
abbrev pub range_blocks : List KeyValue → List (List ℕ)
range_blocks [] = []
range_blocks entries = block_bytes 1 entries ∷ []

-- the properties that each table has, by rising name
abbrev pub plain_properties : TableContents → List KeyValue
plain_properties table =
    (codes "rocksdb.block.based.table.index.type", fixed_of 4 0)
    ∷ (codes "rocksdb.column.family.id", varint_of table.family)
    ∷ (codes "rocksdb.column.family.name", table.family_name)
    ∷ (codes "rocksdb.comparator", bytewise_name)
    ∷ (codes "rocksdb.index.key.is.user.key", varint_of 0)
    ∷ (codes "rocksdb.index.value.is.delta.encoded", varint_of 0)
    ∷ (codes "rocksdb.num.entries", varint_of (length table.records + length table.ranges)) ∷ []

-- The properties that the tables of a repair have besides, since RocksDB divides by their sum: how many bytes
-- the internal keys have, and the values. Their names come after those above.
abbrev pub size_properties : TableContents → List KeyValue
size_properties table =
    let entries = data_entries table ++ range_entries table in
    (codes "rocksdb.raw.key.size", varint_of (sum_by (λ entry. length entry.0) entries))
    ∷ (codes "rocksdb.raw.value.size", varint_of (sum_by (λ entry. length entry.1) entries)) ∷ []

-- the properties' block
abbrev pub properties_block : Bool → TableContents → List ℕ
properties_block states_sizes table = block_bytes 1 (plain_properties table ++ (if states_sizes then size_properties table else []))

-- The metaindex block, by rising name. The data blocks, the range deletions' block, if there is one, and the
-- properties' block stand before it.
abbrev pub metaindex_block : List (List ℕ) → List (List ℕ) → List ℕ → List ℕ
metaindex_block data_blocks ranges properties =
    block_bytes 1 ((codes "rocksdb.properties", handle_bytes (handle_behind (data_blocks ++ ranges) properties))
    ∷ map (λ block. (codes "rocksdb.range_del", handle_bytes (handle_behind data_blocks block))) ranges)

-- the key of the last of some entries
abbrev pub last_entry_key : List KeyValue → List ℕ
last_entry_key entries = unwrap_or (last_or None (map (λ entry. entry.0) entries)) []

-- the index block: the last key of each data block, and the block's handle
abbrev pub index_block : List (List KeyValue) → List (List ℕ) → List ℕ
index_block groups data_blocks = block_bytes 1 (zip (map last_entry_key groups) (map handle_bytes (front_handles data_blocks)))

-- the footer of version 2, with CRC32C (1)
abbrev pub footer_bytes : Handle → Handle → List ℕ
footer_bytes metaindex index =
    let handles = handle_bytes metaindex ++ handle_bytes index in
    1 ∷ handles ++ replicate (40 - length handles) 0 ++ fixed_of 4 2 ++ fixed_of 8 newer_magic

-- the blocks behind which the metaindex block stands, that block, the index block and the footer
abbrev pub joined_table : List (List ℕ) → List ℕ → List ℕ → List ℕ
joined_table front metaindex index =
    flat_map stored (front ++ metaindex ∷ index ∷ []) ++ footer_bytes (handle_behind front metaindex) (handle_behind (front ++ metaindex ∷ []) index)

-- a table, with the two size properties or without them
unfoldable pub table_bytes : Bool → TableContents → List ℕ
table_bytes states_sizes table =
    let groups = data_groups table in
    let data_blocks = map (block_bytes 16) groups in
    let ranges = range_blocks (range_entries table) in
    let properties = properties_block states_sizes table in
    joined_table (data_blocks ++ ranges ++ properties ∷ []) (metaindex_block data_blocks ranges properties) (index_block groups data_blocks)

-- an added file's level, number, size and bounds
abbrev pub file_bytes : NewFile → List ℕ
file_bytes file = varint_of file.level ++ varint_of file.number ++ varint_of file.size ++ prefixed_of file.smallest ++ prefixed_of file.largest

-- an added file with its tag: 7, or 103 where its sequence numbers are stated, with no custom field
abbrev pub added_file_bytes : NewFile → Option Seqs → List ℕ
added_file_bytes file None = varint_of 7 ++ file_bytes file
added_file_bytes file (Some seqs) = varint_of 103 ++ file_bytes file ++ varint_of seqs.least ++ varint_of seqs.greatest ++ varint_of 1

-- a tracked log: its number, its synced size after the tag 2 where there is one, and the tag 1
abbrev pub tracked_bytes : ℕ → Option ℕ → List ℕ
tracked_bytes log None = varint_of log ++ varint_of 1
tracked_bytes log (Some synced) = varint_of log ++ varint_of 2 ++ varint_of synced ++ varint_of 1

-- A field of a version edit: its tag and its value. An ignored field is never written.
abbrev pub field_bytes : Field → List ℕ
field_bytes (comparator name) = varint_of 1 ++ prefixed_of name
field_bytes (log_number n) = varint_of 2 ++ varint_of n
field_bytes (next_file n) = varint_of 3 ++ varint_of n
field_bytes (last_sequence n) = varint_of 4 ++ varint_of n
field_bytes (compact_cursor level key) = varint_of 5 ++ varint_of level ++ prefixed_of key
field_bytes (delete_file level number) = varint_of 6 ++ varint_of level ++ varint_of number
field_bytes (add_file file) = added_file_bytes file file.seqs
field_bytes (previous_log n) = varint_of 9 ++ varint_of n
field_bytes (least_log n) = varint_of 10 ++ varint_of n
field_bytes (family id) = varint_of 200 ++ varint_of id
field_bytes (family_add name) = varint_of 201 ++ prefixed_of name
field_bytes family_drop = varint_of 202
field_bytes (greatest_family id) = varint_of 203 ++ varint_of id
field_bytes (group left) = varint_of 300 ++ varint_of left
field_bytes (wal_add log synced) = varint_of 8199 ++ prefixed_of (tracked_bytes log synced)
field_bytes (wal_delete log) = varint_of 8200 ++ prefixed_of (varint_of log)
field_bytes (ignored tag value) = varint_of tag ++ prefixed_of value

-- a version edit of these fields
unfoldable pub edit_bytes : List Field → List ℕ
edit_bytes fields = flat_map field_bytes fields

-- a family of a repaired directory, with the tables that its manifest lists, by rising number
pub record RepairedFamily : Type 0 where
  pub id : ℕ
  pub name : List ℕ
  pub files : List NewFile

-- what the manifest of a repaired directory states: its families, by rising id, of which the default family
-- is one, and three numbers
pub record Repaired : Type 0 where
  pub log_number : ℕ
  pub next_file : ℕ
  pub last_sequence : ℕ
  pub families : List RepairedFamily

-- the edit of the default family
abbrev pub default_edit : Repaired → List NewFile → List Field
default_edit repaired files =
    comparator bytewise_name ∷ log_number repaired.log_number ∷ next_file repaired.next_file ∷ last_sequence repaired.last_sequence
    ∷ greatest_family (fold max 0 (map (λ one. one.id) repaired.families)) ∷ map add_file files

-- The edit that adds the tables of another family, if it has some. It isn't the one that adds the family,
-- since RocksDB passes over the files in such an edit.
abbrev pub file_edits : ℕ → List NewFile → List (List Field)
file_edits id [] = []
file_edits id files = (family id ∷ map add_file files) ∷ []

-- the edits of a family
abbrev pub family_edits : Repaired → RepairedFamily → List (List Field)
family_edits repaired one =
    if one.id == 0 then default_edit repaired one.files ∷ []
    else (family one.id ∷ family_add one.name ∷ comparator bytewise_name ∷ log_number repaired.log_number ∷ []) ∷ file_edits one.id one.files

-- the edits of the manifest of a repaired directory
abbrev pub repair_edits : Repaired → List (List Field)
repair_edits repaired = flat_map (family_edits repaired) repaired.families

-- the manifest of a repaired directory
unfoldable pub repair_manifest : Repaired → List ℕ
repair_manifest repaired = written_log None (map edit_bytes (repair_edits repaired))

-- the range deletion that a record is
abbrev pub range_in : Record → Option RangeDel
range_in r = if is_range_deletion r.kind then Some (record { start = r.key; end = r.value; sequence = r.sequence }) else None

-- The table that a repair adds for a family, of the records that it lacks, in the order of their places. It
-- states its sizes.
abbrev pub added_contents : ℕ → List ℕ → List Record → TableContents
added_contents id name records =
    record { family = id; family_name = name; records = filter (λ r. not (is_range_deletion r.kind)) records; ranges = filter_map range_in records }

-- that table's bytes
unfoldable pub added_table : ℕ → List ℕ → List Record → List ℕ
added_table id name records = table_bytes true (added_contents id name records)

-- The numbers that a repair takes: one for each added table, then one for the manifest and one for the
-- temporary file of CURRENT. The log number and the next file's come after them.
pub record FreshNumbers : Type 0 where
  pub tables : List ℕ
  pub manifest : ℕ
  pub current : ℕ
  pub log_number : ℕ
  pub next_file : ℕ

-- these numbers, above the greatest in use, where so many tables are added
abbrev pub fresh_numbers : ℕ → ℕ → FreshNumbers
fresh_numbers greatest added =
    let above = greatest + added in
    record { tables = range_with_len (greatest + 1) added; manifest = above + 1; current = above + 2; log_number = above + 3; next_file = above + 4 }

-- a record, whose sequence number is left to its batch
of_kind : ℕ → Kind → List ℕ → List ℕ → Record
of_kind id kind key value = record { family = id; key = key; sequence = 0; kind = kind; value = value }

of_three_puts : batch_bytes 5 (of_kind 0 Value (codes "a") (codes "1") ∷ of_kind 0 Value (codes "b") (codes "2") ∷ of_kind 0 Value (codes "c") (codes "3") ∷ [])
    ≡ 5 ∷ 0 ∷ 0 ∷ 0 ∷ 0 ∷ 0 ∷ 0 ∷ 0 ∷ 3 ∷ 0 ∷ 0 ∷ 0 ∷ 1 ∷ 1 ∷ 0x61 ∷ 1 ∷ 0x31 ∷ 1 ∷ 1 ∷ 0x62 ∷ 1 ∷ 0x32 ∷ 1 ∷
    1 ∷ 0x63 ∷ 1 ∷ 0x33 ∷ []
unfolding batch_bytes of_kind
of_three_puts = refl

of_each_kind : batch_bytes (2 ^ 56 - 9) (of_kind 0 Deletion (codes "a") [] ∷ of_kind 0 Merge (codes "b") (codes "x") ∷ of_kind 0 SingleDeletion (codes "c") [] ∷ of_kind 0 RangeDeletion (codes "d") (codes "e") ∷ of_kind 7 Deletion (codes "a") [] ∷ of_kind 300 Value [] [] ∷ of_kind 7 Merge (codes "b") (codes "x") ∷ of_kind 7 SingleDeletion (codes "c") [] ∷ of_kind 7 RangeDeletion (codes "d") (codes "e") ∷ [])
    ≡ 0xF7 ∷ 0xFF ∷ 0xFF ∷ 0xFF ∷ 0xFF ∷ 0xFF ∷ 0xFF ∷ 0 ∷ 9 ∷ 0 ∷ 0 ∷ 0 ∷ 0 ∷ 1 ∷ 0x61 ∷ 2 ∷ 1 ∷ 0x62 ∷ 1 ∷
    0x78 ∷ 7 ∷ 1 ∷ 0x63 ∷ 0x0F ∷ 1 ∷ 0x64 ∷ 1 ∷ 0x65 ∷ 4 ∷ 7 ∷ 1 ∷ 0x61 ∷ 5 ∷ 0xAC ∷ 2 ∷ 0 ∷ 0 ∷ 6 ∷ 7 ∷ 1 ∷
    0x62 ∷ 1 ∷ 0x78 ∷ 8 ∷ 7 ∷ 1 ∷ 0x63 ∷ 0x0E ∷ 7 ∷ 1 ∷ 0x64 ∷ 1 ∷ 0x65 ∷ []
unfolding batch_bytes of_kind
of_each_kind = refl

-- the data block of a table of `a` = `x` at sequence number 1, its index block, and a block of no entry
of_one_put : block_bytes 16 ((internal_key (codes "a") 1 Value, codes "x") ∷ [])
    ≡ 0 ∷ 9 ∷ 1 ∷ 0x61 ∷ 1 ∷ 1 ∷ 0 ∷ 0 ∷ 0 ∷ 0 ∷ 0 ∷ 0 ∷ 0x78 ∷ 0 ∷ 0 ∷ 0 ∷ 0 ∷ 1 ∷ 0 ∷ 0 ∷ 0 ∷ []
unfolding block_bytes run_bytes grouped internal_key
of_one_put = refl

of_one_handle : block_bytes 1 ((internal_key (codes "a") 1 Value, handle_bytes (record { offset = 0; size = 21 })) ∷ [])
    ≡ 0 ∷ 9 ∷ 2 ∷ 0x61 ∷ 1 ∷ 1 ∷ 0 ∷ 0 ∷ 0 ∷ 0 ∷ 0 ∷ 0 ∷ 0 ∷ 0x15 ∷ 0 ∷ 0 ∷ 0 ∷ 0 ∷ 1 ∷ 0 ∷ 0 ∷ 0 ∷ []
unfolding block_bytes run_bytes grouped internal_key
of_one_handle = refl

of_no_entry : block_bytes 16 []
    ≡ 0 ∷ 0 ∷ 0 ∷ 0 ∷ 1 ∷ 0 ∷ 0 ∷ 0 ∷ []
unfolding block_bytes run_bytes grouped
of_no_entry = refl

-- five entries, of whose keys four share a front
keys : List KeyValue
keys = (codes "apple", codes "1") ∷ (codes "apply", []) ∷ (codes "apt", codes "23") ∷ (codes "apt", []) ∷ (codes "b", codes "4") ∷ []

with_a_restart_at_each : block_bytes 1 keys
    ≡ (0 ∷ 5 ∷ 1 ∷ []) ++ codes "apple1" ++ (0 ∷ 5 ∷ 0 ∷ []) ++ codes "apply" ++ (0 ∷ 3 ∷ 2 ∷ []) ++
    codes "apt23" ++ 0 ∷ 3 ∷ 0 ∷ 0x61 ∷ 0x70 ∷ 0x74 ∷ 0 ∷ 1 ∷ 1 ∷ 0x62 ∷ 0x34 ∷ 0 ∷ 0 ∷ 0 ∷ 0 ∷ 9 ∷ 0 ∷ 0 ∷
    0 ∷ 0x11 ∷ 0 ∷ 0 ∷ 0 ∷ 0x19 ∷ 0 ∷ 0 ∷ 0 ∷ 0x1F ∷ 0 ∷ 0 ∷ 0 ∷ 5 ∷ 0 ∷ 0 ∷ 0 ∷ []
unfolding block_bytes run_bytes grouped keys
with_a_restart_at_each = refl

with_a_restart_at_each_second : block_bytes 2 keys
    ≡ (0 ∷ 5 ∷ 1 ∷ []) ++ codes "apple1" ++ (4 ∷ 1 ∷ 0 ∷ 0x79 ∷ 0 ∷ 3 ∷ 2 ∷ []) ++ codes "apt23" ++ 3 ∷ 0 ∷
    0 ∷ 0 ∷ 1 ∷ 1 ∷ 0x62 ∷ 0x34 ∷ 0 ∷ 0 ∷ 0 ∷ 0 ∷ 0x0D ∷ 0 ∷ 0 ∷ 0 ∷ 0x18 ∷ 0 ∷ 0 ∷ 0 ∷ 3 ∷ 0 ∷ 0 ∷ 0 ∷ []
unfolding block_bytes run_bytes grouped keys
with_a_restart_at_each_second = refl

with_one_restart : block_bytes 16 keys
    ≡ (0 ∷ 5 ∷ 1 ∷ []) ++ codes "apple1" ++ 4 ∷ 1 ∷ 0 ∷ 0x79 ∷ 2 ∷ 1 ∷ 2 ∷ 0x74 ∷ 0x32 ∷ 0x33 ∷ 3 ∷ 0 ∷ 0 ∷
    0 ∷ 1 ∷ 1 ∷ 0x62 ∷ 0x34 ∷ 0 ∷ 0 ∷ 0 ∷ 0 ∷ 1 ∷ 0 ∷ 0 ∷ 0 ∷ []
unfolding block_bytes run_bytes grouped keys
with_one_restart = refl

at_every_sixteenth : map length (entry_runs 16 (replicate 33 ([], [])))
    ≡ 16 ∷ 16 ∷ 1 ∷ []
unfolding block_bytes run_bytes grouped
at_every_sixteenth = refl

with_long_lengths : block_bytes 2 ((replicate 200 7, []) ∷ (replicate 201 7, replicate 128 9) ∷ [])
    ≡ (0 ∷ 0xC8 ∷ 1 ∷ 0 ∷ []) ++ replicate 200 7 ++ (0xC8 ∷ 1 ∷ 1 ∷ 0x80 ∷ 1 ∷ 7 ∷ []) ++ replicate 128 9 ++
    0 ∷ 0 ∷ 0 ∷ 0 ∷ 1 ∷ 0 ∷ 0 ∷ 0 ∷ []
unfolding block_bytes run_bytes grouped
with_long_lengths = refl
