-- What is written of contents is a good table that holds them.
use Rattle.std.proofs.Common.{◌≡◌, ◌≢◌, ℕ, ◌+◌, ◌^◌, ◌<◌, ◌≤◌, Bool, false, List, [], ◌∷◌, ◌++◌, length, flat_map, map, Some, None, Ok, refl, sym, ◌∙◌, ap, subst, arith, append_assoc}
use Rattle.std.specs.Prelude.{codes, fold, max}
use Rattle.std.specs.List.{AllByRecursion, reduce}
use Rattle.std.proofs.lemmas.Bool.{ne_eqb, cond-false}
use Rattle.std.proofs.lemmas.List.{length-map}
use Rattle.std.proofs.Math.Seq.{take-append_seam}
use Rattle.rk_bytes.specs.declared.model.block.Handle.{Handle}
use Rattle.rk_bytes.specs.declared.model.block.RangeDel.{RangeDel}
use Rattle.rk_bytes.specs.declared.model.key.Record.{Record}
use Rattle.rk_bytes.specs.declared.model.table.Footer.{Footer}
use Rattle.rk_bytes.specs.declared.model.table.SumKind.TheVariants.{Crc32c}
use Rattle.rk_bytes.specs.Model.BlockEntries.{Entry, with_fault, whole_handles}
use Rattle.rk_bytes.specs.Model.InternalKey.{KeyParts}
use Rattle.rk_bytes.specs.Model.TableFooter.{footer_of, footer_start, checked_block}
use Rattle.rk_bytes.specs.Model.TableStatus.{footer_status, trailer_status, BlockReader, reader_of, index_status, range_status, held, list_of, handle_named, properties_at, range_list, index_at, DataEntry, data_records, head_with, Good, good, table_with, table_status, family_of, record_in, start_key, end_key, lesser, greater}
use Rattle.rk_bytes.specs.Model.Writers.{KeyValue, TableContents, stored, handle_behind, block_bytes, range_entries, data_groups, range_blocks, properties_block, footer_bytes, table_bytes}
use Rattle.rk_bytes.proofs.Callers.Readings.{first_step}
use Rattle.rk_laws.specs.WritableTables.{record_key, IsWritableRecord, IsWritableTable, family_read, Holds}
use Rattle.rk_laws.proofs.EachElement.{each_parts}
use Rattle.rk_laws.proofs.KeyParts.{key_parts-internal_key, length-internal_key}
use Rattle.rk_laws.proofs.StoredBlocks.{filled, stored_read, footer_read}
use Rattle.rk_laws.proofs.TableLayout.{last_has, meta_fit, index_fit, handles_fit, meta_entries, metaindex_written, data_blocks_of, front_of, metaindex_of, index_of, blocks_of, metaindex_handle, index_handle, Laid, laid, index_split, properties_split, ranges_split, index_entries_of}
use Rattle.rk_laws.proofs.WrittenData.{data_of, IsData, data_of-is, keys_of, Rise, rise_of_sorted, index_from, ReadsGroups, index_shown, IsDataGroup, groups_read}
use Rattle.rk_laws.proofs.WrittenGroups.{joined_groups, IsFilled}
use Rattle.rk_laws.proofs.WrittenHandles.{with_bytes, handles_block_read}
use Rattle.rk_laws.proofs.WrittenMeta.{handle_named-shown, range_list_read, written_properties, family_of-written, family_name_of-written, properties_read, index_read}
use Rattle.rk_laws.proofs.WrittenRoom.{entry_of, records_few, filled-append, filled-first}
use Rattle.rk_laws.proofs.WrittenSizes.{IsShortBlock}

-- The reader reads each of these blocks where it stands.
abbrev ReadsBlocks : BlockReader → List (List ℕ) → Type 0
ReadsBlocks block_of blocks = (before : List (List ℕ)) (block : List ℕ) (after : List (List ℕ)) → blocks ≡ before ++ block ∷ after → block_of (handle_behind before block) ≡ Ok block

-- a footer of version 2 behind blocks
abbrev footer_behind : List (List ℕ) → Handle → Handle → Footer
footer_behind blocks metaindex index = record { version = 2; sum = Crc32c; metaindex = metaindex; index = index; start = length (flat_map stored blocks) }

blocks_found : (blocks : List (List ℕ)) (end : List ℕ) (metaindex index : Handle) → filled blocks < 2 ^ 60 → ReadsBlocks (reader_of (flat_map stored blocks ++ end) (footer_behind blocks metaindex index)) blocks
blocks_found blocks end metaindex index small before block after parted =
    let body = flat_map stored blocks in
    let handle = handle_behind before block in
    let fits : filled before + length block + 5 < 2 ^ 64 = omega (arith, ap filled parted, filled-append before (block ∷ after), filled-first block after) in
    ap (λ bytes. with_fault (trailer_status handle.offset) (checked_block bytes handle Crc32c)) (take-append_seam body end ∙ ap (flat_map stored) parted)
    ∙ ap (with_fault (trailer_status handle.offset)) (stored_read before block after fits)

-- the blocks of groups are among them
groups_found : (block_of : BlockReader) (blocks : List (List ℕ)) → ReadsBlocks block_of blocks → (before : List (List ℕ)) (groups : List (List KeyValue)) (after : List (List ℕ)) → blocks ≡ before ++ (map (block_bytes 16) groups ++ after) → ReadsGroups block_of before groups
groups_found block_of blocks reads before [] after parted = tt
groups_found block_of blocks reads before (group ∷ groups) after parted =
    let block = block_bytes 16 group in (
      reads before block (map (block_bytes 16) groups ++ after) parted,
      groups_found block_of blocks reads (before ++ block ∷ []) groups after (parted ∙ sym (append_assoc before (block ∷ []) (map (block_bytes 16) groups ++ after))),
    )

index_long : (before : List (List ℕ)) (groups : List (List KeyValue)) → AllByRecursion IsFilled groups → AllByRecursion (λ entry. 8 ≤ length entry.0) (joined_groups groups) → AllByRecursion (λ entry. 8 ≤ length entry.0) (index_from before groups)
unfolding index_from
index_long before [] all long = tt
index_long before (group ∷ groups) all long =
    let (first, more) = each_parts (λ (entry : KeyValue). 8 ≤ length entry.0) group (joined_groups groups) long in
    (last_has (λ key. 8 ≤ length key) group all.0 first, index_long (before ++ block_bytes 16 group ∷ []) groups all.1 more)

-- each group is one of data records
data_groups_are : (groups : List (List KeyValue)) → AllByRecursion IsFilled groups → AllByRecursion IsShortBlock groups → AllByRecursion IsData (joined_groups groups) → AllByRecursion IsDataGroup groups
data_groups_are [] all short are = tt
data_groups_are (group ∷ groups) all short are =
    let (first, more) = each_parts IsData group (joined_groups groups) are in
    (record { filled = all.0; short = omega (arith, short.0); are = first }, data_groups_are groups all.1 short.1 more)

-- the range deletions, where the metaindex names their block and where there is none
ranges_found : (block_of : BlockReader) (data_blocks : List (List ℕ)) (entries : List KeyValue) (properties : List ℕ) (ranges : List RangeDel) (metas : List (Entry Handle))
    → map (λ entry. (entry.key, entry.value)) metas ≡ meta_entries data_blocks (range_blocks entries) properties → ((block : List ℕ) → range_blocks entries ≡ block ∷ [] → block_of (handle_behind data_blocks block) ≡ Ok block)
    → range_list (block_bytes 1 entries) ≡ Ok ranges → length entries ≡ length ranges → list_of (held block_of range_status range_list) (handle_named (codes "rocksdb.range_del") metas) ≡ Ok ranges
ranges_found block_of data_blocks [] properties [] metas shown reads read same =
    ap (list_of (held block_of range_status range_list)) (handle_named-shown (codes "rocksdb.range_del") metas (meta_entries data_blocks [] properties) shown)
ranges_found block_of data_blocks [] properties (range ∷ ranges) metas shown reads read same = absurd (omega (arith, same))
ranges_found block_of data_blocks (entry ∷ entries) properties ranges metas shown reads read same =
    let block = block_bytes 1 (entry ∷ entries) in
    let handle = handle_behind data_blocks block in
    let name : handle_named (codes "rocksdb.range_del") metas ≡ Some handle = handle_named-shown (codes "rocksdb.range_del") metas (meta_entries data_blocks (block ∷ []) properties) shown in
    ap (list_of (held block_of range_status range_list)) name
    ∙ first_step (block_of handle) _ block (reads block refl) ∙ ap (with_fault (range_status handle.offset)) read

keys_long : (records : List Record) → AllByRecursion (λ (entry : KeyValue). 8 ≤ length entry.0) (map entry_of records)
keys_long [] = tt
keys_long (r ∷ records) = (omega (arith, length-internal_key r.key r.sequence r.kind), keys_long records)

-- what stands beside the data blocks
head_read : (states_sizes : Bool) (table : TableContents) → IsWritableTable table → Laid states_sizes table → (block_of : BlockReader) → ReadsBlocks block_of (blocks_of states_sizes table)
    → head_with block_of (footer_behind (blocks_of states_sizes table) (metaindex_handle states_sizes table) (index_handle states_sizes table))
    ≡ Ok (record { properties = written_properties states_sizes table; ranges = table.ranges; index = index_shown (index_entries_of table) })
head_read states_sizes table w l block_of reads =
    let data_blocks = data_blocks_of table in
    let ranges = range_blocks (range_entries table) in
    let properties = properties_block states_sizes table in
    let metaindex = metaindex_of states_sizes table in
    let front = front_of states_sizes table in
    let entries = meta_entries data_blocks ranges properties in
    let few = l.few in
    let own = properties_split states_sizes table in
    let written = metaindex_written data_blocks ranges properties in
    let fit = meta_fit states_sizes table l in
    let (metas, metas_read, shown) = handles_block_read 1 entries fit (omega (arith, ap length written, l.metaindex_short)) in
    let metaindex_held : block_of (metaindex_handle states_sizes table) ≡ Ok (block_bytes 1 (map with_bytes entries)) = reads front metaindex (index_of table ∷ []) refl ∙ ap Ok written in
    let metas_held : held block_of index_status whole_handles (metaindex_handle states_sizes table) ≡ Ok metas =
    first_step (block_of (metaindex_handle states_sizes table)) _ (block_bytes 1 (map with_bytes entries)) metaindex_held ∙ ap (with_fault (index_status (filled front))) metas_read in
    let name : handle_named (codes "rocksdb.properties") metas ≡ Some (handle_behind (data_blocks ++ ranges) properties) = handle_named-shown (codes "rocksdb.properties") metas entries shown in
    let properties_found : list_of (properties_at block_of) (handle_named (codes "rocksdb.properties") metas) ≡ Ok (written_properties states_sizes table) =
    ap (list_of (properties_at block_of)) name
    ∙ properties_read block_of (handle_behind (data_blocks ++ ranges) properties) states_sizes table (reads (data_blocks ++ ranges) properties (metaindex ∷ index_of table ∷ []) own) l.properties_short w.family (omega arith) in
    let range_reads : (block : List ℕ) → ranges ≡ block ∷ [] → block_of (handle_behind data_blocks block) ≡ Ok block =
    λ block is. reads data_blocks block (properties ∷ metaindex ∷ index_of table ∷ []) (ranges_split states_sizes table ∙ ap (λ ranges. data_blocks ++ (ranges ++ properties ∷ metaindex ∷ index_of table ∷ [])) is) in
    let ranges_read = ranges_found block_of data_blocks (range_entries table) properties table.ranges metas shown range_reads (range_list_read table w.ranges l.ranges_short) (length-map table.ranges _) in
    let index_reads : block_of (index_handle states_sizes table) ≡ Ok (block_bytes 1 (map with_bytes (index_entries_of table))) = reads (front ++ metaindex ∷ []) (index_of table) [] (index_split states_sizes table) ∙ ap Ok l.index in
    let long = subst (λ (entries : List KeyValue). AllByRecursion (λ (entry : KeyValue). 8 ≤ length entry.0) entries) (sym l.joined) (keys_long table.records) in
    let index = index_read block_of (written_properties states_sizes table) (index_handle states_sizes table) (index_entries_of table) refl index_reads (omega (arith, ap length l.index, l.index_short)) (index_fit states_sizes table l) (index_long [] (data_groups table) l.groups long) in
    first_step (held block_of index_status whole_handles (metaindex_handle states_sizes table)) _ metas metas_held
    ∙ first_step (list_of (properties_at block_of) (handle_named (codes "rocksdb.properties") metas)) _ (written_properties states_sizes table) properties_found
    ∙ first_step (list_of (held block_of range_status range_list) (handle_named (codes "rocksdb.range_del") metas)) _ table.ranges ranges_read
    ∙ first_step (index_at block_of (written_properties states_sizes table) (index_handle states_sizes table)) _ (index_shown (index_entries_of table)) index

-- a record, as it is read
abbrev entry_shown : Record → DataEntry
entry_shown r = record { key = record_key r; parts = record { user = r.key; sequence = r.sequence; kind = r.kind }; value = r.value }

records_are : (records : List Record) → AllByRecursion IsWritableRecord records → AllByRecursion IsData (map entry_of records)
records_are [] w = tt
records_are (r ∷ records) w =
    (record { parts = record { user = r.key; sequence = r.sequence; kind = r.kind }; read = key_parts-internal_key r.key r.sequence r.kind (omega (arith, w.0.sequence)); kind = w.0.kind }, records_are records w.1)

records_shown : (records : List Record) → AllByRecursion IsWritableRecord records → map data_of (map entry_of records) ≡ map entry_shown records
records_shown [] w = refl
records_shown (r ∷ records) w =
    let parts : KeyParts = record { user = r.key; sequence = r.sequence; kind = r.kind } in
    let first = data_of-is (entry_of r) parts (key_parts-internal_key r.key r.sequence r.kind (omega (arith, w.0.sequence))) in
    λ i. first i ∷ records_shown records w.1 i

-- two maps in a row
map_twice : {A B C : Type 0} (f : B → C) (g : A → B) (xs : List A) → map f (map g xs) ≡ map (λ x. f (g x)) xs
map_twice f g [] = refl
map_twice f g (x ∷ xs) = ap (λ more. f (g x) ∷ more) (map_twice f g xs)

-- the records of a written table
data_read : (states_sizes : Bool) (table : TableContents) → IsWritableTable table → Laid states_sizes table → (block_of : BlockReader) → ReadsBlocks block_of (blocks_of states_sizes table)
    → data_records block_of false None None (index_shown (index_entries_of table)) ≡ Ok (map entry_shown table.records)
data_read states_sizes table w l block_of reads =
    let groups = data_groups table in
    let are = subst (λ (entries : List KeyValue). AllByRecursion IsData entries) (sym l.joined) (records_are table.records w.records) in
    let found = groups_found block_of (blocks_of states_sizes table) reads [] groups (range_blocks (range_entries table) ++ properties_block states_sizes table ∷ metaindex_of states_sizes table ∷ index_of table ∷ []) (ranges_split states_sizes table) in
    let keys : keys_of (joined_groups groups) ≡ map record_key table.records = ap keys_of l.joined ∙ map_twice (λ (entry : KeyValue). entry.0) entry_of table.records in
    let rise = subst (λ keys. Rise None keys) (sym keys) (rise_of_sorted (map record_key table.records) w.rising) in
    groups_read block_of [] None groups found (data_groups_are groups l.groups l.short are) rise
    ∙ ap (λ (entries : List KeyValue). Ok (map data_of entries)) l.joined
    ∙ ap Ok (records_shown table.records w.records)

-- what is read of a written table
good_of : Bool → TableContents → Good
good_of states_sizes table = good (footer_behind (blocks_of states_sizes table) (metaindex_handle states_sizes table) (index_handle states_sizes table)) (written_properties states_sizes table) table.ranges (index_shown (index_entries_of table)) (map entry_shown table.records)

status_of_written : (states_sizes : Bool) (table : TableContents) → IsWritableTable table → table_status (table_bytes states_sizes table) ≡ Ok (good_of states_sizes table)
unfolding table_status table_with table_bytes good_of
status_of_written states_sizes table w =
    let l = laid states_sizes table w in
    let blocks = blocks_of states_sizes table in
    let body = flat_map stored blocks in
    let metaindex = metaindex_handle states_sizes table in
    let index = index_handle states_sizes table in
    let end = footer_bytes metaindex index in
    let bytes = body ++ end in
    let footer = footer_behind blocks metaindex index in
    let (metaindex_fits, index_handle_fits) = handles_fit states_sizes table l in
    let reads = blocks_found blocks end metaindex index l.whole in
    let block_of = reader_of bytes footer in
    first_step (with_fault (footer_status (footer_start bytes)) (footer_of bytes)) _ footer (ap (with_fault (footer_status (footer_start bytes))) (footer_read body metaindex index metaindex_fits index_handle_fits))
    ∙ first_step (head_with block_of footer) _ _ (head_read states_sizes table w l block_of reads)
    ∙ first_step (data_records block_of false None None (index_shown (index_entries_of table))) _ (map entry_shown table.records) (data_read states_sizes table w l block_of reads)

-- it holds the contents
holds : (states_sizes : Bool) (table : TableContents) → IsWritableTable table → Holds table (good_of states_sizes table)
unfolding good_of
holds states_sizes table w =
    let family = family_of-written states_sizes table w.family in
    let keys : map (λ (entry : DataEntry). entry.key) (map entry_shown table.records) ≡ map record_key table.records = map_twice (λ (entry : DataEntry). entry.key) entry_shown table.records in
    let count : length (map entry_shown table.records) ≡ length table.records = length-map table.records entry_shown in
    let few = records_few table.records in
    let room = w.room in
    record {
      family = family;
      family_name = family_name_of-written states_sizes table;
      entries = omega arith;
      ranges = refl;
      user_keys = refl;
      smallest = ap (λ keys. reduce lesser (keys ++ map start_key table.ranges)) keys;
      largest = ap (λ keys. reduce greater (keys ++ map end_key table.ranges)) keys;
      top = ap (λ numbers. fold max 0 (numbers ++ map (λ (range : RangeDel). range.sequence) table.ranges)) (map_twice (λ (entry : DataEntry). entry.parts.sequence) entry_shown table.records);
      records = map_twice (record_in (family_of (written_properties states_sizes table))) entry_shown table.records ∙ ap (λ id. map (λ (r : Record). record r { family = id }) table.records) family;
    }

pub table_read : (states_sizes : Bool) (table : TableContents) → IsWritableTable table → (good : Good) × (table_status (table_bytes states_sizes table) ≡ Ok good) × Holds table good
table_read states_sizes table w = (good_of states_sizes table, status_of_written states_sizes table w, holds states_sizes table w)

-- the records are those of the contents, where these are of its family
pub own_records : (table : TableContents) (good : Good) → Holds table good → table.family ≢ 2147483647 → AllByRecursion (λ r. r.family ≡ table.family) table.records → good.records ≡ table.records
own_records table good h other own =
    let family : family_read table.family ≡ table.family = cond-false _ _ _ (ne_eqb table.family 2147483647 other) in
    h.records ∙ ap (λ id. map (λ (r : Record). record r { family = id }) table.records) family ∙ same table.records own
  where
    same : (records : List Record) → AllByRecursion (λ (r : Record). r.family ≡ table.family) records → map (λ (r : Record). record r { family = table.family }) records ≡ records
    same [] own = refl
    same (r ∷ records) own = λ i. (record r { family = sym own.0 i }) ∷ same records own.1 i
