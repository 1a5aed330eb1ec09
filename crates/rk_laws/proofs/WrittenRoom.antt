-- The blocks of a table that can be written are within the formats' bounds.
use Rattle.std.proofs.Common.{◌≡◌, ℕ, ◌+◌, ◌*◌, ◌≤◌, Bool, true, false, List, [], ◌∷◌, ◌++◌, length, map, refl, ap, arith}
use Rattle.std.specs.Prelude.{codes, sum_by, Some, unwrap_or}
use Rattle.std.specs.List.{AllByRecursion, last_or}
use Rattle.std.proofs.lemmas.List.{length-append}
use Rattle.std.proofs.lemmas.List.Sums.{sum_by-cons, sum_by-append}
use Rattle.rk_bytes.specs.declared.model.block.Handle.{Handle}
use Rattle.rk_bytes.specs.declared.model.block.RangeDel.{RangeDel}
use Rattle.rk_bytes.specs.declared.model.key.Kind.TheVariants.{RangeDeletion}
use Rattle.rk_bytes.specs.declared.model.key.Record.{Record}
use Rattle.rk_bytes.specs.Model.Numbers.{varint_of}
use Rattle.rk_bytes.specs.Model.TableStatus.{start_key}
use Rattle.rk_bytes.specs.Model.Writers.{KeyValue, TableContents, block_bytes, handle_behind, handle_bytes, data_entries, range_entries, range_blocks, properties_block, metaindex_block, last_entry_key}
use Rattle.rk_laws.specs.WritableTables.{record_key, IsWritableRecord, record_room, range_room}
use Rattle.rk_laws.proofs.KeyParts.{length-internal_key}
use Rattle.rk_laws.proofs.StoredBlocks.{filled}
use Rattle.rk_laws.proofs.WrittenGroups.{joined_groups, IsFilled}
use Rattle.rk_laws.proofs.WrittenHandles.{with_bytes}
use Rattle.rk_laws.proofs.WrittenSizes.{cost, varint_most, block_most, IsDataSize, IsShortBlock}
use Rattle.rk_laws.proofs.WrittenData.{index_from}
use Rattle.rk_laws.proofs.WrittenMeta.{property_entries}

-- the entries of the records
abbrev pub entry_of : Record → KeyValue
entry_of r = (record_key r, r.value)

pub record_sizes : (records : List Record) → AllByRecursion IsWritableRecord records → AllByRecursion IsDataSize (map entry_of records)
record_sizes [] w = tt
record_sizes (r ∷ records) w = ((omega (arith, length-internal_key r.key r.sequence r.kind, w.0.key), w.0.value), record_sizes records w.1)

-- there are as many groups as items at most
pub groups_few : (groups : List (List KeyValue)) → AllByRecursion IsFilled groups → length groups ≤ length (joined_groups groups)
groups_few [] all = omega arith
groups_few (group ∷ groups) all = omega (arith, all.0, groups_few groups all.1, length-append group (joined_groups groups))

pub records_few : (records : List Record) → 64 * length records ≤ sum_by record_room records
records_few [] = omega arith
records_few (r ∷ records) = omega (arith, sum_by-cons record_room r records, records_few records)

pub ranges_few : (ranges : List RangeDel) → 64 * length ranges ≤ sum_by range_room ranges
ranges_few [] = omega arith
ranges_few (range ∷ ranges) = omega (arith, sum_by-cons range_room range ranges, ranges_few ranges)

pub filled-append : (some more : List (List ℕ)) → filled (some ++ more) ≡ filled some + filled more
filled-append some more = sum_by-append (λ (block : List ℕ). length block + 5) some more

pub filled-first : (block : List ℕ) (blocks : List (List ℕ)) → filled (block ∷ blocks) ≡ length block + 5 + filled blocks
filled-first block blocks = sum_by-cons (λ (block : List ℕ). length block + 5) block blocks

-- the data blocks fill so much at most
pub groups_fill : (groups : List (List KeyValue)) → AllByRecursion IsShortBlock groups → filled (map (block_bytes 16) groups) ≤ 4294967296 * length groups
groups_fill [] short = omega arith
groups_fill (group ∷ groups) short = omega (arith, filled-first (block_bytes 16 group) (map (block_bytes 16) groups), short.0, groups_fill groups short.1)

-- the range deletions' block
pub range_cost : (ranges : List RangeDel) → sum_by cost (map (λ range. (start_key range, range.end)) ranges) ≤ sum_by range_room ranges
range_cost [] = omega arith
range_cost (range ∷ ranges) =
    let first : KeyValue = (start_key range, range.end) in
    omega (arith, sum_by-cons range_room range ranges, sum_by-cons cost first (map (λ (range : RangeDel). (start_key range, range.end)) ranges), length-internal_key range.start range.sequence RangeDeletion, range_cost ranges)

pub range_block_most : (table : TableContents) → length (block_bytes 1 (range_entries table)) ≤ sum_by range_room table.ranges + 8
range_block_most table = omega (arith, block_most 1 (range_entries table), range_cost table.ranges)

pub range_blocks_fill : (entries : List KeyValue) → filled (range_blocks entries) ≤ length (block_bytes 1 entries) + 5
range_blocks_fill [] = omega arith
range_blocks_fill (entry ∷ entries) = omega (arith, filled-first (block_bytes 1 (entry ∷ entries)) [])

-- the properties' block
properties_cost : (states_sizes : Bool) (table : TableContents) → sum_by cost (property_entries states_sizes table) ≤ length table.family_name + 1024
properties_cost true table =
    let entries = data_entries table ++ range_entries table in
    omega (arith, varint_most 9 table.family, varint_most 9 (length table.records + length table.ranges), varint_most 9 (sum_by (λ entry. length entry.0) entries), varint_most 9 (sum_by (λ entry. length entry.1) entries))
properties_cost false table =
    omega (arith, varint_most 9 table.family, varint_most 9 (length table.records + length table.ranges))

pub properties_most : (states_sizes : Bool) (table : TableContents) → length (properties_block states_sizes table) ≤ length table.family_name + 1032
properties_most states_sizes table = omega (arith, block_most 1 (property_entries states_sizes table), properties_cost states_sizes table)

-- a handle's bytes
handle_most : (handle : Handle) → length (handle_bytes handle) ≤ 20
handle_most handle = omega (arith, length-append (varint_of handle.offset) (varint_of handle.size), varint_most 9 handle.offset, varint_most 9 handle.size)

-- the metaindex
pub metaindex_most : (data_blocks : List (List ℕ)) (entries : List KeyValue) (properties : List ℕ) → length (metaindex_block data_blocks (range_blocks entries) properties) ≤ 1024
metaindex_most data_blocks [] properties =
    let handle = handle_behind (data_blocks ++ []) properties in
    omega (arith, block_most 1 ((codes "rocksdb.properties", handle_bytes handle) ∷ []), handle_most handle)
metaindex_most data_blocks (entry ∷ entries) properties =
    let block = block_bytes 1 (entry ∷ entries) in
    let handle = handle_behind (data_blocks ++ block ∷ []) properties in
    omega (arith, block_most 1 ((codes "rocksdb.properties", handle_bytes handle) ∷ (codes "rocksdb.range_del", handle_bytes (handle_behind data_blocks block)) ∷ []), handle_most handle, handle_most (handle_behind data_blocks block))

-- how much an entry adds to the index at most
abbrev entry_room : KeyValue → ℕ
entry_room entry = length entry.0 + 56

-- the last key of some entries
last_room : (last : List ℕ) (entries : List KeyValue) → length (unwrap_or (last_or (Some last) (map (λ (entry : KeyValue). entry.0) entries)) []) + 56 ≤ length last + 56 + sum_by entry_room entries
last_room last [] = omega arith
last_room last (entry ∷ entries) = omega (arith, last_room entry.0 entries, sum_by-cons entry_room entry entries)

separator_room : (group : List KeyValue) → IsFilled group → length (last_entry_key group) + 56 ≤ sum_by entry_room group
separator_room [] filled = absurd (omega arith)
separator_room (entry ∷ group) filled = omega (arith, last_room entry.0 group, sum_by-cons entry_room entry group)

index_cost : (before : List (List ℕ)) (groups : List (List KeyValue)) → AllByRecursion IsFilled groups → sum_by cost (map with_bytes (index_from before groups)) ≤ sum_by entry_room (joined_groups groups)
unfolding index_from
index_cost before [] all = omega arith
index_cost before (group ∷ groups) all =
    let handle = handle_behind before (block_bytes 16 group) in
    let more = index_from (before ++ block_bytes 16 group ∷ []) groups in
    omega (arith, sum_by-cons cost (with_bytes (last_entry_key group, handle)) (map with_bytes more), handle_most handle, separator_room group all.0, index_cost (before ++ block_bytes 16 group ∷ []) groups all.1, sum_by-append entry_room group (joined_groups groups))

entries_room : (records : List Record) → sum_by entry_room (map entry_of records) ≡ sum_by record_room records
entries_room [] = refl
entries_room (r ∷ records) = omega (arith, sum_by-cons entry_room (entry_of r) (map entry_of records), sum_by-cons record_room r records, length-internal_key r.key r.sequence r.kind, entries_room records)

pub index_most : (groups : List (List KeyValue)) (records : List Record) → AllByRecursion IsFilled groups → joined_groups groups ≡ map entry_of records → length (block_bytes 1 (map with_bytes (index_from [] groups))) ≤ sum_by record_room records + 8
index_most groups records all same =
    omega (arith, block_most 1 (map with_bytes (index_from [] groups)), index_cost [] groups all, ap (λ entries. sum_by entry_room entries) same, entries_room records)
