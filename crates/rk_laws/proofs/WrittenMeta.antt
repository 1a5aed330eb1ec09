-- The blocks of a written table beside its data blocks are read again.
use Rattle.std.proofs.Common.{◌≡◌, ℕ, ◌+◌, ◌^◌, ◌<◌, ◌≤◌, Bool, true, false, cond, List, [], ◌∷◌, ◌++◌, length, map, Option, Some, None, unwrap_or, is_some, Ok, refl, sym, ◌∙◌, ap, arith}
use Rattle.std.specs.Prelude.{◌||◌, bytes_eq, find, nat_le, option_map, if◌then◌else◌}
use Rattle.std.specs.List.{AllByRecursion, list_all}
use Rattle.std.proofs.lemmas.Bool.{and_from, le-leb, or_right}
use Rattle.std.proofs.lemmas.List.{append-nil}
use Rattle.rk_bytes.specs.declared.model.block.Handle.{Handle}
use Rattle.rk_bytes.specs.declared.model.block.IndexEntry.{IndexEntry}
use Rattle.rk_bytes.specs.declared.model.block.Property.{Property}
use Rattle.rk_bytes.specs.declared.model.block.RangeDel.{RangeDel}
use Rattle.rk_bytes.specs.declared.model.block.RangeFault.TheVariants.{Block}
use Rattle.rk_bytes.specs.declared.model.key.Kind.TheVariants.{RangeDeletion}
use Rattle.rk_bytes.specs.Model.Numbers.{Read, varint_of, varint_at}
use Rattle.rk_bytes.specs.Model.BlockEntries.{Entry, with_fault, collected, whole, block_entries, index_entries}
use Rattle.rk_bytes.specs.Model.InternalKey.{key_parts}
use Rattle.rk_bytes.specs.Model.TableStatus.{BlockReader, block_status, index_status, held, handle_named, property_list, index_type, family_id, user_separators, delta_values, stated_entries, have_forms, unsupported_by, tested_properties, properties_at, family_of, family_name_of, range_of, range_list, index_at, is_set, start_key}
use Rattle.rk_bytes.specs.Model.Writers.{KeyValue, TableContents, block_bytes, range_entries, plain_properties, size_properties, properties_block}
use Rattle.rk_bytes.proofs.Callers.Readings.{first_step}
use Rattle.rk_bytes.proofs.Callers.Varints.{varint_at-varint}
use Rattle.rk_laws.specs.WritableTables.{IsWritableRange, family_read}
use Rattle.rk_laws.proofs.KeyParts.{key_parts-internal_key}
use Rattle.rk_laws.proofs.WrittenBlocks.{block_read}
use Rattle.rk_laws.proofs.WrittenHandles.{FitsHandle, with_bytes, index_block_read}
use Rattle.rk_laws.proofs.WrittenData.{index_shown}

-- the first handle under this name
abbrev pub named : List ℕ → List (List ℕ × Handle) → Option Handle
named name entries = option_map (λ entry. entry.1) (find (λ entry. bytes_eq entry.0 name) entries)

-- a meta block's handle, by what the metaindex shows
pub handle_named-shown : (name : List ℕ) (metas : List (Entry Handle)) (entries : List (List ℕ × Handle)) → map (λ entry. (entry.key, entry.value)) metas ≡ entries → handle_named name metas ≡ named name entries
handle_named-shown name metas entries shown = in_order metas ∙ ap (named name) shown
  where
    in_order : (metas : List (Entry Handle)) → handle_named name metas ≡ named name (map (λ entry. (entry.key, entry.value)) metas)
    in_order [] = refl
    in_order (meta ∷ metas) = by (bytes_eq meta.key name) (in_order metas)
      where
        by : (told : Bool) → handle_named name metas ≡ named name (map (λ entry. (entry.key, entry.value)) metas)
            → option_map (λ (entry : Entry Handle). entry.value) (cond told (Some meta) (find (λ entry. bytes_eq entry.key name) metas))
            ≡ option_map (λ (entry : List ℕ × Handle). entry.1) (cond told (Some (meta.key, meta.value)) (find (λ (entry : List ℕ × Handle). bytes_eq entry.0 name) (map (λ entry. (entry.key, entry.value)) metas)))
        by true more = refl
        by false more = more

-- the range deletion of an entry that shows its start's key and its end
one_range : (entry : Entry (List ℕ)) (range : RangeDel) → IsWritableRange range → entry.key ≡ start_key range → entry.value ≡ range.end → range_of entry (key_parts entry.key) ≡ Ok range
one_range entry range w key value =
    ap (range_of entry) (ap key_parts key ∙ key_parts-internal_key range.start range.sequence RangeDeletion (omega (arith, w.sequence)))
    ∙ (λ i. Ok (record { start = range.start; end = value i; sequence = range.sequence }))

ranges_read : (read : List (Entry (List ℕ))) (ranges : List RangeDel) → AllByRecursion IsWritableRange ranges → map (λ entry. (entry.key, entry.value)) read ≡ map {B = KeyValue} (λ range. (start_key range, range.end)) ranges
    → collected (λ entry. range_of entry (key_parts entry.key)) read ≡ Ok ranges
ranges_read [] [] w shown = refl
ranges_read [] (range ∷ ranges) w shown = absurd cc
ranges_read (one ∷ read) [] w shown = absurd cc
ranges_read (one ∷ read) (range ∷ ranges) w shown =
    let first : (one.key, one.value) ≡ (let entry : KeyValue = (start_key range, range.end) in entry) = cc in
    let rest : map (λ (entry : Entry (List ℕ)). (entry.key, entry.value)) read ≡ map {B = KeyValue} (λ (range : RangeDel). (start_key range, range.end)) ranges = cc in
    first_step (range_of one (key_parts one.key)) _ range (one_range one range w.0 (ap (λ (pair : KeyValue). pair.0) first) (ap (λ (pair : KeyValue). pair.1) first))
    ∙ first_step (collected (λ entry. range_of entry (key_parts entry.key)) read) _ ranges (ranges_read read ranges w.1 rest)

-- the range deletions in their block
pub range_list_read : (table : TableContents) → AllByRecursion IsWritableRange table.ranges → length (block_bytes 1 (range_entries table)) < 2 ^ 32 → range_list (block_bytes 1 (range_entries table)) ≡ Ok table.ranges
unfolding range_list
range_list_read table w short =
    let block = block_bytes 1 (range_entries table) in
    let (read, is, shown) = block_read 1 (range_entries table) short in
    first_step (with_fault Block (block_entries block)) _ read (ap (with_fault Block) is) ∙ ranges_read read table.ranges w shown

-- properties, as they are written
abbrev pub properties_shown : List KeyValue → List Property
properties_shown entries = map (λ entry. record { name = entry.0; value = entry.1 }) entries

property_list_read : (entries : List KeyValue) → length (block_bytes 1 entries) < 2 ^ 32 → property_list (block_bytes 1 entries) ≡ Ok (properties_shown entries)
unfolding property_list
property_list_read entries short =
    let (read, is, shown) = block_read 1 entries short in
    first_step (block_entries (block_bytes 1 entries)) _ read is ∙ ap Ok (twice read ∙ ap properties_shown shown)
  where
    twice : (read : List (Entry (List ℕ))) → map (λ (entry : Entry (List ℕ)). record { name = entry.key; value = entry.value }) read ≡ properties_shown (map (λ entry. (entry.key, entry.value)) read)
    twice [] = refl
    twice (one ∷ read) = ap (λ more. (let first : Property = record { name = one.key; value = one.value } in first) ∷ more) (twice read)

-- the entries of the properties' block
abbrev pub property_entries : Bool → TableContents → List KeyValue
property_entries states_sizes table = plain_properties table ++ (if states_sizes then size_properties table else [])

abbrev pub written_properties : Bool → TableContents → List Property
written_properties states_sizes table = properties_shown (property_entries states_sizes table)

-- a number in a form that reads as its varint
whole_varint : (bits n : ℕ) → n < 2 ^ 64 → n < 2 ^ bits → whole (varint_at 10 bits (varint_of n)) ≡ Some n
whole_varint bits n below fits =
    let read : varint_at 10 bits (varint_of n) ≡ Ok (n, []) = ap (varint_at 10 bits) (sym (append-nil (varint_of n))) ∙ varint_at-varint 9 bits 9 n [] (omega arith) (omega arith) fits in
    ap (λ (read : Read ℕ). whole read) read

-- the numbers of a written table's properties
module _ (states_sizes : Bool) (table : TableContents) where
  pub index_type-written : index_type (written_properties states_sizes table) ≡ Some 0
  index_type-written = refl

  pub family_id-written : table.family < 2 ^ 32 → family_id (written_properties states_sizes table) ≡ Some table.family
  family_id-written below = whole_varint 32 table.family (omega arith) below

  pub user_separators-written : user_separators (written_properties states_sizes table) ≡ Some 0
  user_separators-written = refl

  pub delta_values-written : delta_values (written_properties states_sizes table) ≡ Some 0
  delta_values-written = refl

  pub stated_entries-written : length table.records + length table.ranges < 2 ^ 64 → stated_entries (written_properties states_sizes table) ≡ Some (length table.records + length table.ranges)
  stated_entries-written below = whole_varint 64 (length table.records + length table.ranges) below below

  pub family_of-written : table.family < 2 ^ 32 → family_of (written_properties states_sizes table) ≡ family_read table.family
  family_of-written below = ap (λ (id : Option ℕ). family_read (unwrap_or id 0)) (family_id-written below)

  pub family_name_of-written : family_name_of (written_properties states_sizes table) ≡ table.family_name
  family_name_of-written = refl

  have_forms-written : table.family < 2 ^ 32 → length table.records + length table.ranges < 2 ^ 64 → have_forms (written_properties states_sizes table) ≡ true
  have_forms-written below few =
      λ i. list_all is_some (index_type-written i ∷ family_id-written below i ∷ user_separators-written i ∷ delta_values-written i ∷ stated_entries-written few i ∷ [])

unsupported_by-written : (states_sizes : Bool) (table : TableContents) → unsupported_by (written_properties states_sizes table) ≡ None
unsupported_by-written true table = refl
unsupported_by-written false table = refl

tested_ok : (place : ℕ) (properties : List Property) → have_forms properties ≡ true → unsupported_by properties ≡ None → tested_properties place properties ≡ Ok properties
tested_ok place properties forms none = rw (forms, none)

-- the properties in their block
pub properties_read : (block_of : BlockReader) (handle : Handle) (states_sizes : Bool) (table : TableContents) → block_of handle ≡ Ok (properties_block states_sizes table) → length (properties_block states_sizes table) < 2 ^ 32
    → table.family < 2 ^ 32 → length table.records + length table.ranges < 2 ^ 64 → properties_at block_of handle ≡ Ok (written_properties states_sizes table)
properties_read block_of handle states_sizes table held_is short below few =
    let properties = written_properties states_sizes table in
    let block : held block_of block_status property_list handle ≡ Ok properties =
    first_step (block_of handle) _ (properties_block states_sizes table) held_is ∙ ap (with_fault (block_status handle.offset)) (property_list_read (property_entries states_sizes table) short) in
    first_step (held block_of block_status property_list handle) _ properties block
    ∙ tested_ok handle.offset properties (have_forms-written states_sizes table below few) (unsupported_by-written states_sizes table)

-- the index, of separators of 8 bytes at least
pub index_read : (block_of : BlockReader) (properties : List Property) (handle : Handle) (entries : List (List ℕ × Handle)) → delta_values properties ≡ Some 0
    → block_of handle ≡ Ok (block_bytes 1 (map with_bytes entries)) → length (block_bytes 1 (map with_bytes entries)) < 2 ^ 32 → AllByRecursion (λ entry. FitsHandle entry.1) entries → AllByRecursion (λ entry. 8 ≤ length entry.0) entries
    → index_at block_of properties handle ≡ Ok (index_shown entries)
index_read block_of properties handle entries whole_values held_is short fit long =
    let index = index_shown entries in
    let parse : index_entries (is_set (delta_values properties)) (block_bytes 1 (map with_bytes entries)) ≡ Ok index = ap (λ number. index_entries (is_set number) (block_bytes 1 (map with_bytes entries))) whole_values ∙ index_block_read 1 entries fit short in
    let block : held block_of index_status (index_entries (is_set (delta_values properties))) handle ≡ Ok index =
    first_step (block_of handle) _ (block_bytes 1 (map with_bytes entries)) held_is ∙ ap (with_fault (index_status handle.offset)) parse in
    let tests : (is_set (user_separators properties) || list_all (λ (entry : IndexEntry). nat_le 8 (length entry.separator)) index) ≡ true = or_right _ _ (all_long entries long) in
    first_step (held block_of index_status (index_entries (is_set (delta_values properties))) handle) _ index block ∙ rw tests
  where
    all_long : (entries : List (List ℕ × Handle)) → AllByRecursion (λ entry. 8 ≤ length entry.0) entries → list_all (λ (entry : IndexEntry). nat_le 8 (length entry.separator)) (index_shown entries) ≡ true
    all_long [] long = refl
    all_long (entry ∷ entries) long = and_from _ _ (le-leb 8 (length entry.0) long.0) (all_long entries long.1)
