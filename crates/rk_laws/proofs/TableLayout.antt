-- The blocks of a written table, in their order, and their lengths.
use Rattle.std.proofs.Common.{◌≡◌, ℕ, ◌+◌, ◌^◌, ◌<◌, ◌≤◌, Bool, List, [], ◌∷◌, ◌++◌, length, map, Some, unwrap_or, refl, sym, ◌∙◌, ap, arith, append_assoc}
use Rattle.std.specs.Prelude.{codes, sum_by}
use Rattle.std.specs.List.{AllByRecursion, last_or, scan, zip}
use Rattle.std.proofs.lemmas.List.{length-map}
use Rattle.rk_bytes.specs.declared.model.block.Handle.{Handle}
use Rattle.rk_bytes.specs.declared.model.key.Record.{Record}
use Rattle.rk_bytes.specs.Model.Writers.{KeyValue, TableContents, handle_behind, handle_bytes, block_bytes, data_entries, range_entries, data_groups, range_blocks, properties_block, metaindex_block, index_block, last_entry_key}
use Rattle.rk_laws.specs.WritableTables.{IsWritableTable}
use Rattle.rk_laws.proofs.StoredBlocks.{filled}
use Rattle.rk_laws.proofs.WrittenData.{index_from}
use Rattle.rk_laws.proofs.WrittenGroups.{joined_groups, IsFilled, grouped-joined, grouped-filled}
use Rattle.rk_laws.proofs.WrittenHandles.{FitsHandle, with_bytes}
use Rattle.rk_laws.proofs.WrittenRoom.{entry_of, record_sizes, groups_few, records_few, ranges_few, filled-append, filled-first, groups_fill, range_block_most, range_blocks_fill, properties_most, metaindex_most, index_most}
use Rattle.rk_laws.proofs.WrittenSizes.{IsShortBlock, is_full_block, groups_short}

-- the index's entries, as they are written
pub index_written : (before : List (List ℕ)) (groups : List (List KeyValue))
    → zip (map last_entry_key groups) (map handle_bytes (scan (λ (before : List (List ℕ)) block. before ++ block ∷ []) handle_behind before (map (block_bytes 16) groups))) ≡ map with_bytes (index_from before groups)
unfolding index_from
index_written before [] = refl
index_written before (group ∷ groups) =
    let first : KeyValue = (last_entry_key group, handle_bytes (handle_behind before (block_bytes 16 group))) in
    ap (λ more. first ∷ more) (index_written (before ++ block_bytes 16 group ∷ []) groups)

index_fits : (before : List (List ℕ)) (groups : List (List KeyValue)) → AllByRecursion IsShortBlock groups → filled before + filled (map (block_bytes 16) groups) < 2 ^ 60 → AllByRecursion (λ entry. FitsHandle entry.1) (index_from before groups)
unfolding index_from
index_fits before [] short small = tt
index_fits before (group ∷ groups) short small =
    let block = block_bytes 16 group in
    let first = filled-first block (map (block_bytes 16) groups) in
    ((omega arith, omega (arith, short.0)), index_fits (before ++ block ∷ []) groups short.1 (omega (arith, filled-append before (block ∷ []), filled-first block [])))

-- what holds of each key holds of the last one
pub last_has : (P : List ℕ → Type 0) (entries : List KeyValue) → IsFilled entries → AllByRecursion (λ entry. P entry.0) entries → P (last_entry_key entries)
last_has P [] some all = absurd (omega arith)
last_has P (entry ∷ entries) some all = by entry.0 entries all.0 all.1
  where
    by : (key : List ℕ) (entries : List KeyValue) → P key → AllByRecursion (λ (entry : KeyValue). P entry.0) entries → P (unwrap_or (last_or (Some key) (map (λ (entry : KeyValue). entry.0) entries)) [])
    by key [] has all = has
    by key (entry ∷ entries) has all = by entry.0 entries all.0 all.1

-- the entries of the metaindex
abbrev pub meta_entries : List (List ℕ) → List (List ℕ) → List ℕ → List (List ℕ × Handle)
meta_entries data_blocks ranges properties =
    (codes "rocksdb.properties", handle_behind (data_blocks ++ ranges) properties) ∷ map (λ block. (codes "rocksdb.range_del", handle_behind data_blocks block)) ranges

pub metaindex_written : (data_blocks ranges : List (List ℕ)) (properties : List ℕ) → metaindex_block data_blocks ranges properties ≡ block_bytes 1 (map with_bytes (meta_entries data_blocks ranges properties))
metaindex_written data_blocks ranges properties = ap (λ more. block_bytes 1 ((codes "rocksdb.properties", handle_bytes (handle_behind (data_blocks ++ ranges) properties)) ∷ more)) (by ranges)
  where
    by : (ranges : List (List ℕ)) → map {B = KeyValue} (λ (block : List ℕ). (codes "rocksdb.range_del", handle_bytes (handle_behind data_blocks block))) ranges ≡ map with_bytes (map (λ block. (codes "rocksdb.range_del", handle_behind data_blocks block)) ranges)
    by [] = refl
    by (block ∷ ranges) = ap (λ more. (let first : KeyValue = (codes "rocksdb.range_del", handle_bytes (handle_behind data_blocks block)) in first) ∷ more) (by ranges)

-- The blocks of a written table: those before the metaindex, the metaindex, the index, and all.
abbrev pub data_blocks_of : TableContents → List (List ℕ)
data_blocks_of table = map (block_bytes 16) (data_groups table)

abbrev pub front_of : Bool → TableContents → List (List ℕ)
front_of states_sizes table = data_blocks_of table ++ range_blocks (range_entries table) ++ properties_block states_sizes table ∷ []

abbrev pub metaindex_of : Bool → TableContents → List ℕ
metaindex_of states_sizes table = metaindex_block (data_blocks_of table) (range_blocks (range_entries table)) (properties_block states_sizes table)

abbrev pub index_of : TableContents → List ℕ
index_of table = index_block (data_groups table) (data_blocks_of table)

abbrev pub blocks_of : Bool → TableContents → List (List ℕ)
blocks_of states_sizes table = front_of states_sizes table ++ metaindex_of states_sizes table ∷ index_of table ∷ []

abbrev pub metaindex_handle : Bool → TableContents → Handle
metaindex_handle states_sizes table = handle_behind (front_of states_sizes table) (metaindex_of states_sizes table)

abbrev pub index_handle : Bool → TableContents → Handle
index_handle states_sizes table = handle_behind (front_of states_sizes table ++ metaindex_of states_sizes table ∷ []) (index_of table)

-- what is known of the groups and of the blocks' lengths
pub record Laid (states_sizes : Bool) (table : TableContents) : Type 0 where
  pub groups : AllByRecursion IsFilled (data_groups table)
  pub short : AllByRecursion IsShortBlock (data_groups table)
  pub joined : joined_groups (data_groups table) ≡ data_entries table
  pub index : index_of table ≡ block_bytes 1 (map with_bytes (index_from [] (data_groups table)))
  pub index_short : length (index_of table) < 2 ^ 32
  pub ranges_short : length (block_bytes 1 (range_entries table)) < 2 ^ 32
  pub properties_short : length (properties_block states_sizes table) < 2 ^ 32
  pub metaindex_short : length (metaindex_of states_sizes table) < 2 ^ 32
  pub few : length table.records + length table.ranges < 2 ^ 32
  pub whole : filled (blocks_of states_sizes table) < 2 ^ 60

pub laid : (states_sizes : Bool) (table : TableContents) → IsWritableTable table → Laid states_sizes table
laid states_sizes table w =
    let groups = data_groups table in
    let filled_groups = grouped-filled is_full_block (data_entries table) in
    let joined : joined_groups groups ≡ data_entries table = grouped-joined is_full_block (data_entries table) in
    let short = groups_short (data_entries table) (record_sizes table.records w.records) in
    let index : index_of table ≡ block_bytes 1 (map with_bytes (index_from [] groups)) = ap (block_bytes 1) (index_written [] groups) in
    let index_len : length (index_of table) ≤ sum_by (λ (r : Record). length r.key + 64) table.records + 8 = omega (arith, ap length index, index_most groups table.records filled_groups joined) in
    let properties = properties_block states_sizes table in
    let front = data_blocks_of table ++ range_blocks (range_entries table) in
    let metaindex = metaindex_of states_sizes table in
    let room = w.room in
    let a = filled-append (front ++ properties ∷ []) (metaindex ∷ index_of table ∷ []) in
    let b = filled-append front (properties ∷ []) in
    let c = filled-append (data_blocks_of table) (range_blocks (range_entries table)) in
    let d = filled-first metaindex (index_of table ∷ []) in
    let e = filled-first (index_of table) [] in
    let f = filled-first properties [] in
    let g = groups_fill groups short in
    let h = range_blocks_fill (range_entries table) in
    let few = groups_few groups filled_groups in
    let few_records = records_few table.records in
    let few_ranges = ranges_few table.ranges in
    let range_len = range_block_most table in
    let properties_len = properties_most states_sizes table in
    let metaindex_len = metaindex_most (data_blocks_of table) (range_entries table) properties in
    let same = ap length joined in
    let count : length (data_entries table) ≡ length table.records = length-map table.records entry_of in
    record {
      groups = filled_groups;
      short = short;
      joined = joined;
      index = index;
      index_short = omega arith;
      ranges_short = omega arith;
      properties_short = omega arith;
      metaindex_short = omega arith;
      few = omega arith;
      whole = omega arith;
    }

-- its blocks, as a reader finds them
pub index_split : (states_sizes : Bool) (table : TableContents) → blocks_of states_sizes table ≡ (front_of states_sizes table ++ metaindex_of states_sizes table ∷ []) ++ index_of table ∷ []
index_split states_sizes table = sym (append_assoc (front_of states_sizes table) (metaindex_of states_sizes table ∷ []) (index_of table ∷ []))

pub properties_split : (states_sizes : Bool) (table : TableContents)
    → blocks_of states_sizes table ≡ (data_blocks_of table ++ range_blocks (range_entries table)) ++ properties_block states_sizes table ∷ metaindex_of states_sizes table ∷ index_of table ∷ []
properties_split states_sizes table = append_assoc (data_blocks_of table ++ range_blocks (range_entries table)) (properties_block states_sizes table ∷ []) (metaindex_of states_sizes table ∷ index_of table ∷ [])

pub ranges_split : (states_sizes : Bool) (table : TableContents)
    → blocks_of states_sizes table ≡ data_blocks_of table ++ (range_blocks (range_entries table) ++ properties_block states_sizes table ∷ metaindex_of states_sizes table ∷ index_of table ∷ [])
ranges_split states_sizes table = properties_split states_sizes table ∙ append_assoc (data_blocks_of table) (range_blocks (range_entries table)) (properties_block states_sizes table ∷ metaindex_of states_sizes table ∷ index_of table ∷ [])

-- the index's entries of a written table
abbrev pub index_entries_of : TableContents → List (List ℕ × Handle)
index_entries_of table = index_from [] (data_groups table)

-- the handles fit: those of the metaindex, those of the index, and those of the footer
pub meta_fit : (states_sizes : Bool) (table : TableContents) → Laid states_sizes table → AllByRecursion (λ entry. FitsHandle entry.1) (meta_entries (data_blocks_of table) (range_blocks (range_entries table)) (properties_block states_sizes table))
meta_fit states_sizes table l =
    let front = data_blocks_of table ++ range_blocks (range_entries table) in
    let properties = properties_block states_sizes table in
    let behind = metaindex_of states_sizes table ∷ index_of table ∷ [] in
    let whole = l.whole in
    let front_fits : filled front + length properties < 2 ^ 60 = omega (arith, ap filled (properties_split states_sizes table), filled-append front (properties ∷ behind), filled-first properties behind) in
    ((omega arith, omega (arith, l.properties_short)), by (range_entries table) (omega (arith, filled-append (data_blocks_of table) (range_blocks (range_entries table)))))
  where
    by : (entries : List KeyValue) → filled (data_blocks_of table) + filled (range_blocks entries) < 2 ^ 60 → AllByRecursion (λ (entry : List ℕ × Handle). FitsHandle entry.1) (map (λ block. (codes "rocksdb.range_del", handle_behind (data_blocks_of table) block)) (range_blocks entries))
    by [] fits = tt
    by (entry ∷ entries) fits = ((omega arith, omega (arith, filled-first (block_bytes 1 (entry ∷ entries)) [])), tt)

pub index_fit : (states_sizes : Bool) (table : TableContents) → Laid states_sizes table → AllByRecursion (λ entry. FitsHandle entry.1) (index_entries_of table)
index_fit states_sizes table l =
    let behind = range_blocks (range_entries table) ++ properties_block states_sizes table ∷ metaindex_of states_sizes table ∷ index_of table ∷ [] in
    let whole = l.whole in
    index_fits [] (data_groups table) l.short (omega (arith, ap filled (ranges_split states_sizes table), filled-append (data_blocks_of table) behind))

pub handles_fit : (states_sizes : Bool) (table : TableContents) → Laid states_sizes table → FitsHandle (metaindex_handle states_sizes table) × FitsHandle (index_handle states_sizes table)
handles_fit states_sizes table l =
    let whole = l.whole in
    let first = filled-append (front_of states_sizes table) (metaindex_of states_sizes table ∷ index_of table ∷ []) in
    let second = filled-append (front_of states_sizes table ++ metaindex_of states_sizes table ∷ []) (index_of table ∷ []) in
    let split = ap filled (index_split states_sizes table) in
    ((omega arith, omega (arith, l.metaindex_short)), (omega arith, omega (arith, l.index_short)))
