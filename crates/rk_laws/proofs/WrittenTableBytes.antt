-- What is written of contents that are bytes is bytes.
use Rattle.std.proofs.Common.{◌≡◌, ℕ, zero, suc, ◌+◌, ◌-◌, ◌*◌, ◌^◌, ◌<◌, ◌≤◌, Bool, true, false, List, [], ◌∷◌, ◌++◌, length, flat_map, map, refl, sym, ap, subst, arith}
use Rattle.std.specs.Prelude.{codes, if◌then◌else◌, nat_lt, replicate, sum_by}
use Rattle.std.specs.List.{AllByRecursion, list_all}
use Rattle.std.proofs.lemmas.Bool.{ltb-true}
use Rattle.std.proofs.lemmas.Bool.{and_parts}
use Rattle.std.proofs.lemmas.List.Sums.{sum_by-cons, sum_by-append}
use Rattle.rk_bytes.specs.declared.model.block.Handle.{Handle}
use Rattle.rk_bytes.specs.declared.model.block.RangeDel.{RangeDel}
use Rattle.rk_bytes.specs.declared.model.key.Kind.{Kind}
use Rattle.rk_bytes.specs.declared.model.key.Kind.TheVariants.{RangeDeletion}
use Rattle.rk_bytes.specs.declared.model.key.Record.{Record}
use Rattle.rk_bytes.specs.declared.model.table.SumKind.TheVariants.{Crc32c}
use Rattle.rk_bytes.specs.Model.Numbers.{AreBytes, fixed_of, varint_of}
use Rattle.rk_bytes.specs.Model.Checksums.{block_sum}
use Rattle.rk_bytes.specs.Model.InternalKey.{internal_key, packed_of, bytewise_name}
use Rattle.rk_bytes.specs.Model.TableFooter.{newer_magic}
use Rattle.rk_bytes.specs.Model.TableStatus.{start_key}
use Rattle.rk_bytes.specs.Model.Writers.{KeyValue, TableContents, stored, handle_behind, handle_bytes, block_bytes, data_entries, range_entries, data_groups, range_blocks, properties_block, plain_properties, size_properties, footer_bytes, table_bytes}
use Rattle.rk_bytes.proofs.Callers.Varints.{IsVarint64-varint_of}
use Rattle.rk_laws.specs.WritableTables.{IsWritableRecord, IsWritableRange, record_room, range_room, IsWritableTable, OfBytes}
use Rattle.rk_laws.proofs.EachElement.{each_append, each_parts}
use Rattle.rk_laws.proofs.KeyParts.{length-internal_key}
use Rattle.rk_laws.proofs.TableLayout.{last_has, meta_fit, index_fit, handles_fit, meta_entries, metaindex_written, data_blocks_of, metaindex_of, index_of, blocks_of, metaindex_handle, index_handle, Laid, laid, index_entries_of}
use Rattle.rk_laws.proofs.WrittenBlocks.{varint_is_bytes, fixed_is_bytes, block_is_bytes}
use Rattle.rk_laws.proofs.WrittenGroups.{joined_groups, IsFilled}
use Rattle.rk_laws.proofs.WrittenHandles.{FitsHandle, with_bytes}
use Rattle.rk_laws.proofs.WrittenData.{index_from}
use Rattle.rk_laws.proofs.WrittenMeta.{property_entries}
use Rattle.rk_laws.proofs.WrittenRoom.{entry_of, records_few, ranges_few}
use Rattle.rk_laws.proofs.WrittenSizes.{IsShortBlock}

-- a key and a value of bytes
abbrev OfEntryBytes : KeyValue → Type 0
OfEntryBytes entry = AreBytes entry.0 × AreBytes entry.1

both_bytes : (front back : List ℕ) → AreBytes front → AreBytes back → AreBytes (front ++ back)
both_bytes front back = each_append (λ n. n < 2 ^ 8) front back

-- bytes, by a test that is computed
tested_bytes : (bytes : List ℕ) → list_all (λ n. nat_lt n 256) bytes ≡ true → AreBytes bytes
tested_bytes [] test = tt
tested_bytes (b ∷ bytes) test =
    let tests = and_parts (nat_lt b 256) (list_all (λ n. nat_lt n 256) bytes) test in
    (ltb-true b 256 tests.0, tested_bytes bytes tests.1)

number_is_bytes : (n : ℕ) → n < 2 ^ 64 → AreBytes (varint_of n)
number_is_bytes n below = varint_is_bytes (varint_of n) (IsVarint64-varint_of n below).groups

handle_is_bytes : (handle : Handle) → FitsHandle handle → AreBytes (handle_bytes handle)
handle_is_bytes handle fits = both_bytes (varint_of handle.offset) (varint_of handle.size) (number_is_bytes handle.offset fits.0) (number_is_bytes handle.size fits.1)

key_is_bytes : (user : List ℕ) (sequence : ℕ) (kind : Kind) → AreBytes user → AreBytes (internal_key user sequence kind)
unfolding internal_key
key_is_bytes user sequence kind are = both_bytes user (fixed_of 8 (packed_of sequence kind)) are (fixed_is_bytes 8 (packed_of sequence kind))

-- a block with its trailer
stored_is_bytes : (block : List ℕ) → AreBytes block → AreBytes (stored block)
stored_is_bytes block are = let sum = block_sum Crc32c block 0 in both_bytes block (0 ∷ fixed_of 4 sum) are (omega arith, fixed_is_bytes 4 sum)

blocks_are_bytes : (blocks : List (List ℕ)) → AllByRecursion AreBytes blocks → AreBytes (flat_map stored blocks)
blocks_are_bytes [] are = tt
blocks_are_bytes (block ∷ blocks) are = both_bytes (stored block) (flat_map stored blocks) (stored_is_bytes block are.0) (blocks_are_bytes blocks are.1)

footer_is_bytes : (metaindex index : Handle) → FitsHandle metaindex → FitsHandle index → AreBytes (footer_bytes metaindex index)
footer_is_bytes metaindex index fits fits' =
    let handles = handle_bytes metaindex ++ handle_bytes index in
    let padding : List ℕ = replicate (40 - length handles) 0 in
    let front = both_bytes (handle_bytes metaindex) (handle_bytes index) (handle_is_bytes metaindex fits) (handle_is_bytes index fits') in
    let zone = both_bytes handles padding front (zeros (40 - length handles)) in
    (omega arith, both_bytes (handles ++ padding ++ fixed_of 4 2) (fixed_of 8 newer_magic) (both_bytes (handles ++ padding) (fixed_of 4 2) zone (fixed_is_bytes 4 2)) (fixed_is_bytes 8 newer_magic))
  where
    zeros : (n : ℕ) → AreBytes (replicate n 0)
    zeros zero = tt
    zeros (suc n) = (omega arith, zeros n)

-- the entries of the data blocks, and of the range deletions' block
records_are_bytes : (records : List Record) → AllByRecursion (λ r. AreBytes r.key × AreBytes r.value) records → AllByRecursion OfEntryBytes (map entry_of records)
records_are_bytes [] are = tt
records_are_bytes (r ∷ records) are = ((key_is_bytes r.key r.sequence r.kind are.0.0, are.0.1), records_are_bytes records are.1)

ranges_are_bytes : (ranges : List RangeDel) → AllByRecursion (λ range. AreBytes range.start × AreBytes range.end) ranges → AllByRecursion OfEntryBytes (map (λ range. (start_key range, range.end)) ranges)
ranges_are_bytes [] are = tt
ranges_are_bytes (range ∷ ranges) are = ((key_is_bytes range.start range.sequence RangeDeletion are.0.0, are.0.1), ranges_are_bytes ranges are.1)

-- the data blocks
groups_are_bytes : (groups : List (List KeyValue)) → AllByRecursion IsShortBlock groups → AllByRecursion OfEntryBytes (joined_groups groups) → AllByRecursion AreBytes (map (block_bytes 16) groups)
groups_are_bytes [] short are = tt
groups_are_bytes (group ∷ groups) short are =
    let (first, more) = each_parts OfEntryBytes group (joined_groups groups) are in
    (block_is_bytes 16 group first (omega (arith, short.0)), groups_are_bytes groups short.1 more)

range_blocks_are_bytes : (entries : List KeyValue) → length (block_bytes 1 entries) < 2 ^ 32 → AllByRecursion OfEntryBytes entries → AllByRecursion AreBytes (range_blocks entries)
range_blocks_are_bytes [] short are = tt
range_blocks_are_bytes (entry ∷ entries) short are = (block_is_bytes 1 (entry ∷ entries) are short, tt)

-- entries of handles
handles_are_bytes : (entries : List (List ℕ × Handle)) → AllByRecursion (λ entry. FitsHandle entry.1) entries → AllByRecursion (λ entry. AreBytes entry.0) entries → AllByRecursion OfEntryBytes (map with_bytes entries)
handles_are_bytes [] fit are = tt
handles_are_bytes (entry ∷ entries) fit are = ((are.0, handle_is_bytes entry.1 fit.0), handles_are_bytes entries fit.1 are.1)

separators_are_bytes : (before : List (List ℕ)) (groups : List (List KeyValue)) → AllByRecursion IsFilled groups → AllByRecursion OfEntryBytes (joined_groups groups) → AllByRecursion (λ entry. AreBytes entry.0) (index_from before groups)
unfolding index_from
separators_are_bytes before [] all are = tt
separators_are_bytes before (group ∷ groups) all are =
    let (first, more) = each_parts OfEntryBytes group (joined_groups groups) are in
    (last_has AreBytes group all.0 (keys_are group first), separators_are_bytes (before ++ block_bytes 16 group ∷ []) groups all.1 more)
  where
    keys_are : (entries : List KeyValue) → AllByRecursion OfEntryBytes entries → AllByRecursion (λ (entry : KeyValue). AreBytes entry.0) entries
    keys_are [] are = tt
    keys_are (entry ∷ entries) are = (are.0.0, keys_are entries are.1)

-- the sums of the two sizes
key_sum : (records : List Record) (ranges : List RangeDel) → sum_by (λ (entry : KeyValue). length entry.0) (map entry_of records ++ map (λ range. (start_key range, range.end)) ranges) ≤ sum_by record_room records + sum_by range_room ranges
key_sum records ranges = omega (arith, sum_by-append (λ (entry : KeyValue). length entry.0) (map entry_of records) (map (λ range. (start_key range, range.end)) ranges), of_records records, of_ranges ranges)
  where
    of_records : (records : List Record) → sum_by (λ (entry : KeyValue). length entry.0) (map entry_of records) ≤ sum_by record_room records
    of_records [] = omega arith
    of_records (r ∷ records) = omega (arith, sum_by-cons (λ (entry : KeyValue). length entry.0) (entry_of r) (map entry_of records), sum_by-cons record_room r records, length-internal_key r.key r.sequence r.kind, of_records records)

    of_ranges : (ranges : List RangeDel) → sum_by (λ (entry : KeyValue). length entry.0) (map (λ range. (start_key range, range.end)) ranges) ≤ sum_by range_room ranges
    of_ranges [] = omega arith
    of_ranges (range ∷ ranges) =
        let first : KeyValue = (start_key range, range.end) in
        omega (arith, sum_by-cons (λ (entry : KeyValue). length entry.0) first (map (λ range. (start_key range, range.end)) ranges), sum_by-cons range_room range ranges, length-internal_key range.start range.sequence RangeDeletion, of_ranges ranges)

value_sum : (records : List Record) (ranges : List RangeDel) → AllByRecursion IsWritableRecord records → AllByRecursion IsWritableRange ranges
    → sum_by (λ (entry : KeyValue). length entry.1) (map entry_of records ++ map (λ range. (start_key range, range.end)) ranges) ≤ 2147483648 * length records + 2147483648 * length ranges
value_sum records ranges w w' = omega (arith, sum_by-append (λ (entry : KeyValue). length entry.1) (map entry_of records) (map (λ range. (start_key range, range.end)) ranges), of_records records w, of_ranges ranges w')
  where
    of_records : (records : List Record) → AllByRecursion IsWritableRecord records → sum_by (λ (entry : KeyValue). length entry.1) (map entry_of records) ≤ 2147483648 * length records
    of_records [] w = omega arith
    of_records (r ∷ records) w = omega (arith, sum_by-cons (λ (entry : KeyValue). length entry.1) (entry_of r) (map entry_of records), w.0.value, of_records records w.1)

    of_ranges : (ranges : List RangeDel) → AllByRecursion IsWritableRange ranges → sum_by (λ (entry : KeyValue). length entry.1) (map (λ range. (start_key range, range.end)) ranges) ≤ 2147483648 * length ranges
    of_ranges [] w = omega arith
    of_ranges (range ∷ ranges) w =
        let first : KeyValue = (start_key range, range.end) in
        omega (arith, sum_by-cons (λ (entry : KeyValue). length entry.1) first (map (λ range. (start_key range, range.end)) ranges), w.0.end, of_ranges ranges w.1)

-- the properties
plain_are_bytes : (table : TableContents) → table.family < 2 ^ 64 → length table.records + length table.ranges < 2 ^ 64 → AreBytes table.family_name → AllByRecursion OfEntryBytes (plain_properties table)
plain_are_bytes table family few name = (
  (tested_bytes (codes "rocksdb.block.based.table.index.type") refl, fixed_is_bytes 4 0),
  (
    (tested_bytes (codes "rocksdb.column.family.id") refl, number_is_bytes table.family family),
    (
      (tested_bytes (codes "rocksdb.column.family.name") refl, name),
      (
        (tested_bytes (codes "rocksdb.comparator") refl, tested_bytes bytewise_name refl),
        (
          (tested_bytes (codes "rocksdb.index.key.is.user.key") refl, number_is_bytes 0 (omega arith)),
          (
            (tested_bytes (codes "rocksdb.index.value.is.delta.encoded") refl, number_is_bytes 0 (omega arith)),
            ((tested_bytes (codes "rocksdb.num.entries") refl, number_is_bytes (length table.records + length table.ranges) few), tt),
          ),
        ),
      ),
    ),
  ),
)

sizes_are_bytes : (table : TableContents) → (let entries = data_entries table ++ range_entries table in (sum_by (λ entry. length entry.0) entries < 2 ^ 64) × (sum_by (λ entry. length entry.1) entries < 2 ^ 64)) → AllByRecursion OfEntryBytes (size_properties table)
sizes_are_bytes table below =
    let entries = data_entries table ++ range_entries table in
    ((tested_bytes (codes "rocksdb.raw.key.size") refl, number_is_bytes (sum_by (λ entry. length entry.0) entries) below.0), ((tested_bytes (codes "rocksdb.raw.value.size") refl, number_is_bytes (sum_by (λ entry. length entry.1) entries) below.1), tt))

properties_are_bytes : (states_sizes : Bool) (table : TableContents) → IsWritableTable table → AreBytes table.family_name → AllByRecursion OfEntryBytes (property_entries states_sizes table)
properties_are_bytes states_sizes table w name =
    let room = w.room in
    let below = w.family in
    let few = records_few table.records in
    let few' = ranges_few table.ranges in
    let keys = key_sum table.records table.ranges in
    let values = value_sum table.records table.ranges w.records w.ranges in
    each_append OfEntryBytes (plain_properties table) _ (plain_are_bytes table (omega arith) (omega arith) name) (by states_sizes (sizes_are_bytes table (omega arith, omega arith)))
  where
    by : (states_sizes : Bool) → AllByRecursion OfEntryBytes (size_properties table) → AllByRecursion OfEntryBytes (if states_sizes then size_properties table else [])
    by true are = are
    by false are = tt

-- the index
index_is_bytes : (states_sizes : Bool) (table : TableContents) → Laid states_sizes table → AllByRecursion OfEntryBytes (joined_groups (data_groups table)) → AreBytes (index_of table)
index_is_bytes states_sizes table l are =
    let entries = handles_are_bytes (index_entries_of table) (index_fit states_sizes table l) (separators_are_bytes [] (data_groups table) l.groups are) in
    subst (λ block. AreBytes block) (sym l.index) (block_is_bytes 1 (map with_bytes (index_entries_of table)) entries (omega (arith, ap length l.index, l.index_short)))

-- the metaindex
metaindex_is_bytes : (states_sizes : Bool) (table : TableContents) → Laid states_sizes table → AreBytes (metaindex_of states_sizes table)
metaindex_is_bytes states_sizes table l =
    let ranges = range_blocks (range_entries table) in
    let properties = properties_block states_sizes table in
    let entries = meta_entries (data_blocks_of table) ranges properties in
    let written = metaindex_written (data_blocks_of table) ranges properties in
    let are = handles_are_bytes entries (meta_fit states_sizes table l) (tested_bytes (codes "rocksdb.properties") refl, by ranges) in
    subst (λ block. AreBytes block) (sym written) (block_is_bytes 1 (map with_bytes entries) are (omega (arith, ap length written, l.metaindex_short)))
  where
    by : (ranges : List (List ℕ)) → AllByRecursion (λ (entry : List ℕ × Handle). AreBytes entry.0) (map (λ block. (codes "rocksdb.range_del", handle_behind (data_blocks_of table) block)) ranges)
    by [] = tt
    by (block ∷ ranges) = (tested_bytes (codes "rocksdb.range_del") refl, by ranges)

pub table_is_bytes : (states_sizes : Bool) (table : TableContents) → IsWritableTable table → OfBytes table → AreBytes (table_bytes states_sizes table)
unfolding table_bytes
table_is_bytes states_sizes table w are =
    let l = laid states_sizes table w in
    let data_blocks = data_blocks_of table in
    let ranges = range_blocks (range_entries table) in
    let properties = properties_block states_sizes table in
    let metaindex = metaindex_of states_sizes table in
    let joined = subst (λ (entries : List KeyValue). AllByRecursion OfEntryBytes entries) (sym l.joined) (records_are_bytes table.records are.records) in
    let of_data = groups_are_bytes (data_groups table) l.short joined in
    let of_ranges = range_blocks_are_bytes (range_entries table) l.ranges_short (ranges_are_bytes table.ranges are.ranges) in
    let of_properties = block_is_bytes 1 (property_entries states_sizes table) (properties_are_bytes states_sizes table w are.name) l.properties_short in
    let front = each_append AreBytes (data_blocks ++ ranges) (properties ∷ []) (each_append AreBytes data_blocks ranges of_data of_ranges) (of_properties, tt) in
    let blocks = each_append AreBytes (data_blocks ++ ranges ++ properties ∷ []) (metaindex ∷ index_of table ∷ []) front (metaindex_is_bytes states_sizes table l, (index_is_bytes states_sizes table l joined, tt)) in
    let (metaindex_fits, index_fits) = handles_fit states_sizes table l in
    both_bytes (flat_map stored (blocks_of states_sizes table)) (footer_bytes (metaindex_handle states_sizes table) (index_handle states_sizes table))
    (blocks_are_bytes (blocks_of states_sizes table) blocks) (footer_is_bytes (metaindex_handle states_sizes table) (index_handle states_sizes table) metaindex_fits index_fits)
