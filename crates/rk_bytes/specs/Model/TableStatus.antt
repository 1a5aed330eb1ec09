-- Whether a table is good, damaged or not supported, and what it holds (RocksDB's wiki, "Rocksdb
-- BlockBasedTable Format"; table/block_based/block_based_table_reader.cc, table/table_properties.cc).
-- The tests and their order are this project's own rule.
use Rattle.std.specs.Prelude.{◌≡◌, ℕ, ◌-◌, ◌^◌, ◌==◌, min, max, Bool, true, false, not, ◌&&◌, ◌||◌, List, [], ◌∷◌, ◌++◌, length, map, take, drop, find, fold, replicate, nat_lt, nat_le, if◌then◌else◌, Option, Some, None, is_some, option_map, unwrap_or, Result, Ok, Err, bytes_eq, codes, decimal, refl}
use Rattle.std.specs.List.{list_all, last_or, reduce}
use Rattle.std.specs.declared.cmp.Ordering.{Ordering}
use Rattle.std.specs.Ordering.{nat_cmp, is_lt, is_gt}
use Rattle.std.specs.Cmp.Lexicographic.{slice_cmp}
use Rattle.rk_bytes.specs.declared.model.block.Handle.{Handle}
use Rattle.rk_bytes.specs.declared.model.table.SumKind.TheVariants.{Crc32c}
use Rattle.rk_bytes.specs.declared.model.table.Footer.{Footer}
use Rattle.rk_bytes.specs.declared.model.table.FooterFault.{FooterFault}
use Rattle.rk_bytes.specs.declared.model.table.FooterFault.TheVariants.{FooterShort, BadMagic, UnsupportedVersion, UnsupportedChecksum, BadHandle}
use Rattle.rk_bytes.specs.declared.model.table.TrailerFault.{TrailerFault}
use Rattle.rk_bytes.specs.declared.model.table.TrailerFault.TheVariants.{OutOfFile, Checksum, Compressed}
use Rattle.rk_bytes.specs.declared.model.block.BlockFault.{BlockFault}
use Rattle.rk_bytes.specs.declared.model.block.BlockFault.TheVariants.{Short, HashIndex, BadRestarts, BadEntry}
use Rattle.rk_bytes.specs.declared.model.block.IndexFault.{IndexFault}
use Rattle.rk_bytes.specs.declared.model.block.IndexFault.TheVariants.{Block, BadHandle, Memory}
use Rattle.rk_bytes.specs.declared.model.block.RangeFault.{RangeFault}
use Rattle.rk_bytes.specs.declared.model.block.RangeFault.TheVariants.{Block, BadKey, Memory}
use Rattle.rk_bytes.specs.declared.model.key.Kind.{Kind}
use Rattle.rk_bytes.specs.declared.model.key.Kind.TheVariants.{Value, RangeDeletion}
use Rattle.rk_bytes.specs.declared.model.key.KeyFault.{KeyFault}
use Rattle.rk_bytes.specs.declared.model.key.KeyFault.TheVariants.{UnsupportedKind}
use Rattle.rk_bytes.specs.declared.model.key.Record.{Record}
use Rattle.rk_bytes.specs.declared.model.block.IndexEntry.{IndexEntry}
use Rattle.rk_bytes.specs.declared.model.block.Property.{Property}
use Rattle.rk_bytes.specs.declared.model.block.RangeDel.{RangeDel}
use Rattle.rk_bytes.specs.declared.model.table.TableRef.{TableRef}
use Rattle.rk_bytes.specs.declared.model.table.TableWhy.{TableWhy}
use Rattle.rk_bytes.specs.declared.model.table.TableWhy.TheVariants.{FooterShort, BadMagic, BadHandle, OutOfFile, Checksum, Block, BadProperty, BadKey, BadOrder, BadSeparator}
use Rattle.rk_bytes.specs.declared.model.table.TableWhat.{TableWhat}
use Rattle.rk_bytes.specs.declared.model.table.TableWhat.TheVariants.{Version, Checksum, Compressed, Comparator, IndexType, External, HashIndex, RecordKind}
use Rattle.rk_bytes.specs.Model.Numbers.{Read, ◌>>=◌, fixed_at, varint_at, varint64_at}
use Rattle.rk_bytes.specs.Model.Checksums.{crc_bit, crc_bits, crc_bytes, crc32c}
use Rattle.rk_bytes.specs.Model.BlockEntries.{Entry, with_fault, collected, whole, block_entries, entries_after, whole_handles, index_entries}
use Rattle.rk_bytes.specs.Model.TableFooter.{footer_of, footer_start, checked_block}
use Rattle.rk_bytes.specs.Model.InternalKey.{KeyParts, user_key, key_parts, internal_key, key_cmp, top_sequence, bytewise_name}

-- What a table's status is where it isn't good.
pub data TableFault : Type 0 where
  damaged : TableWhy → ℕ → TableFault
  unsupported : TableWhat → TableFault

-- a footer's fault, at the footer's place
abbrev pub footer_status : ℕ → FooterFault → TableFault
footer_status place FooterShort = damaged FooterShort place
footer_status place BadMagic = damaged BadMagic place
footer_status place (UnsupportedVersion version) = unsupported (Version version)
footer_status place (UnsupportedChecksum kind) = unsupported (Checksum kind)
footer_status place BadHandle = damaged BadHandle place

-- the fault of a block's trailer, at the block's place
abbrev pub trailer_status : ℕ → TrailerFault → TableFault
trailer_status place OutOfFile = damaged OutOfFile place
trailer_status place Checksum = damaged Checksum place
trailer_status place (Compressed kind) = unsupported (Compressed kind)

-- the fault of a block's entries, at the block's place
abbrev pub block_status : ℕ → BlockFault → TableFault
block_status place HashIndex = unsupported HashIndex
block_status place Short = damaged Block place
block_status place BadRestarts = damaged Block place
block_status place (BadEntry at) = damaged Block place

-- The fault of a block whose values are handles. No definition gives `Memory`, here and below.
abbrev pub index_status : ℕ → IndexFault → TableFault
index_status place (Block fault) = block_status place fault
index_status place BadHandle = damaged BadHandle place
index_status place Memory = damaged BadHandle place

-- the fault of a block of range deletions
abbrev pub range_status : ℕ → RangeFault → TableFault
range_status place (Block fault) = block_status place fault
range_status place BadKey = damaged BadKey place
range_status place Memory = damaged BadKey place

-- What reads a table's block.
abbrev pub BlockReader : Type 0
BlockReader = Handle → Result (List ℕ) TableFault

-- reads the blocks before the footer
abbrev pub reader_of : List ℕ → Footer → BlockReader
reader_of table footer handle =
    with_fault (trailer_status handle.offset) (checked_block (take footer.start table) handle footer.sum)

-- what a block holds; a fault has the block's offset as place
abbrev pub held : {A F : Type 0} → BlockReader → (ℕ → F → TableFault) → (List ℕ → Result A F) → Handle → Result A TableFault
held block_of status parse handle = do
  block ← block_of handle
  with_fault (status handle.offset) (parse block)

-- a meta block's list, which is empty where there is no such block
abbrev pub list_of : {A : Type 0} → (Handle → Result (List A) TableFault) → Option Handle → Result (List A) TableFault
list_of read None = Ok []
list_of read (Some handle) = read handle

-- the handle of the meta block with this name: the first one in the metaindex
abbrev pub handle_named : List ℕ → List (Entry Handle) → Option Handle
handle_named name entries = option_map (λ entry. entry.value) (find (λ entry. bytes_eq entry.key name) entries)

-- the properties in their block
unfoldable pub property_list : List ℕ → Result (List Property) BlockFault
property_list block = do
  entries ← block_entries block
  Ok (map (λ entry. record { name = entry.key; value = entry.value }) entries)

-- the value of the property with this name: the first one
abbrev pub value_named : List ℕ → List Property → Option (List ℕ)
value_named name properties = option_map (λ property. property.value) (find (λ property. bytes_eq property.name name) properties)

-- the number that a value spells in this form
abbrev pub number_in : (List ℕ → Read ℕ) → Option (List ℕ) → Option ℕ
number_in read None = Some 0
number_in read (Some value) = whole (read value)

-- The numbers of properties: 0 where the property is absent, and nothing where its value hasn't the form.
-- The type of the index is a fixed32.
abbrev pub index_type : List Property → Option ℕ
index_type properties = number_in (fixed_at 4) (value_named (codes "rocksdb.block.based.table.index.type") properties)

-- the id of the family is a varint of 32 bits, in at most 10 bytes
abbrev pub family_id : List Property → Option ℕ
family_id properties = number_in (varint_at 10 32) (value_named (codes "rocksdb.column.family.id") properties)

-- whether separators are user keys
abbrev pub user_separators : List Property → Option ℕ
user_separators properties = number_in varint64_at (value_named (codes "rocksdb.index.key.is.user.key") properties)

-- whether the index's handles are delta-encoded
abbrev pub delta_values : List Property → Option ℕ
delta_values properties = number_in varint64_at (value_named (codes "rocksdb.index.value.is.delta.encoded") properties)

-- the stated number of entries, which nothing else looks at
abbrev pub stated_entries : List Property → Option ℕ
stated_entries properties = number_in varint64_at (value_named (codes "rocksdb.num.entries") properties)

-- each of these numbers has its form
abbrev pub have_forms : List Property → Bool
have_forms properties =
    list_all is_some (
    index_type properties ∷ family_id properties ∷ user_separators properties ∷ delta_values properties
    ∷ stated_entries properties ∷ [])

-- the property is there and isn't 0
abbrev pub is_set : Option ℕ → Bool
is_set number = nat_lt 0 (unwrap_or number 0)

-- the comparator is absent, or the bytewise one
abbrev pub is_bytewise : Option (List ℕ) → Bool
is_bytewise None = true
is_bytewise (Some name) = bytes_eq name bytewise_name

-- what isn't supported of a table with these properties, if anything
abbrev pub unsupported_by : List Property → Option TableWhat
unsupported_by properties =
    if not (is_bytewise (value_named (codes "rocksdb.comparator") properties)) then Some Comparator
    else (if is_set (index_type properties) then Some (IndexType (unwrap_or (index_type properties) 0))
    else (if is_some (value_named (codes "rocksdb.external_sst_file.version") properties) then Some External
    else None))

-- the properties, or their fault at the place of their block
abbrev pub tested_properties : ℕ → List Property → Result (List Property) TableFault
tested_properties place properties =
    if not (have_forms properties) then Err (damaged BadProperty place)
    else elim (unsupported_by properties) [
      | Some what ↦ Err (unsupported what)
      | None ↦ Ok properties
    ]

-- the properties in the block of this handle, of a table that is supported
abbrev pub properties_at : BlockReader → Handle → Result (List Property) TableFault
properties_at block_of handle = do
  properties ← held block_of block_status property_list handle
  tested_properties handle.offset properties

-- The family that a table belongs to. The greatest id of 31 bits stands for none, and so for family 0.
abbrev pub family_of : List Property → ℕ
family_of properties = let id = unwrap_or (family_id properties) 0 in if id == 2147483647 then 0 else id

-- the name of a family that isn't named
abbrev pub unnamed : ℕ → List ℕ
unnamed id = if id == 0 then codes "default" else codes "family-" ++ decimal id

-- the name of the family that a table belongs to
abbrev pub family_name_of : List Property → List ℕ
family_name_of properties =
    unwrap_or (value_named (codes "rocksdb.column.family.name") properties) (unnamed (family_of properties))

-- the kind is that of a range deletion
abbrev pub is_range_deletion : Kind → Bool
is_range_deletion RangeDeletion = true
is_range_deletion _ = false

-- the range deletion of an entry, whose key is the start's internal key and whose value is the end
abbrev pub range_of : Entry (List ℕ) → Result KeyParts KeyFault → Result RangeDel RangeFault
range_of entry (Err fault) = Err BadKey
range_of entry (Ok parts) =
    if is_range_deletion parts.kind then Ok (record { start = parts.user; end = entry.value; sequence = parts.sequence })
    else Err BadKey

-- the range deletions in their block, in any order
unfoldable pub range_list : List ℕ → Result (List RangeDel) RangeFault
range_list block = do
  entries ← with_fault Block (block_entries block)
  collected (λ entry. range_of entry (key_parts entry.key)) entries

-- the index, of which separators that are internal keys have 8 bytes at least
abbrev pub index_at : BlockReader → List Property → Handle → Result (List IndexEntry) TableFault
index_at block_of properties handle = do
  index ← held block_of index_status (index_entries (is_set (delta_values properties))) handle
  if is_set (user_separators properties) || list_all (λ entry. nat_le 8 (length entry.separator)) index
      then Ok index else Err (damaged BadKey handle.offset)

-- A key is above another, where there is another.
abbrev pub is_above : (List ℕ → List ℕ → Ordering) → List ℕ → Option (List ℕ) → Bool
is_above compare key None = true
is_above compare key (Some other) = is_gt (compare key other)

-- A data record under its internal key.
pub record DataEntry : Type 0 where
  pub key : List ℕ
  pub parts : KeyParts
  pub value : List ℕ

-- an entry's record, if its key may follow the one before it in the table
abbrev pub entry_after : ℕ → Option (List ℕ) → Entry (List ℕ) → Result KeyParts KeyFault → Result DataEntry TableFault
entry_after place before entry (Err (UnsupportedKind kind)) = Err (unsupported (RecordKind kind))
entry_after place before entry (Err _) = Err (damaged BadKey place)
entry_after place before entry (Ok parts) =
    if is_range_deletion parts.kind then Err (damaged BadKey place)
    else (if is_above key_cmp entry.key before then Ok (record { key = entry.key; parts = parts; value = entry.value })
    else Err (damaged BadOrder place))

-- the records of a block at this place, after the key before it in the table
abbrev pub records_after : ℕ → Option (List ℕ) → List (Entry (List ℕ)) → Result (List DataEntry) TableFault
records_after place before [] = Ok []
records_after place before (entry ∷ entries) = do
  first ← entry_after place before entry (key_parts entry.key)
  more ← records_after place (Some entry.key) entries
  Ok (first ∷ more)

-- the internal key of the last of these records
abbrev pub last_key : List DataEntry → Option (List ℕ)
last_key entries = last_or None (map (λ entry. entry.key) entries)

-- how an internal key stands to a separator
abbrev pub separator_cmp : Bool → List ℕ → List ℕ → Ordering
separator_cmp true key separator = slice_cmp nat_cmp (user_key key) separator
separator_cmp false key separator = key_cmp key separator

-- There are records, the first is above the separator before theirs, and the last isn't above their own.
abbrev pub are_separated : Bool → Option (List ℕ) → List ℕ → List DataEntry → Bool
are_separated by_user lower upper [] = false
are_separated by_user lower upper (first ∷ more) =
    let last = unwrap_or (last_key more) first.key in
    is_above (separator_cmp by_user) first.key lower && not (is_gt (separator_cmp by_user last upper))

-- the records of one data block, after the key and the separator before it
abbrev pub data_block : BlockReader → Bool → Option (List ℕ) → Option (List ℕ) → IndexEntry → Result (List DataEntry) TableFault
data_block block_of by_user before lower at = do
  entries ← held block_of block_status block_entries at.block
  records ← records_after at.block.offset before entries
  if are_separated by_user lower at.separator records then Ok records
      else Err (damaged BadSeparator at.block.offset)

-- the records of the data blocks, joined in the index's order
abbrev pub data_records : BlockReader → Bool → Option (List ℕ) → Option (List ℕ) → List IndexEntry → Result (List DataEntry) TableFault
data_records block_of by_user before lower [] = Ok []
data_records block_of by_user before lower (at ∷ index) = do
  records ← data_block block_of by_user before lower at
  more ← data_records block_of by_user (last_key records) (Some at.separator) index
  Ok (records ++ more)

-- a data record as a record of its family
abbrev pub record_in : ℕ → DataEntry → Record
record_in family entry = let parts = entry.parts in
    record { family = family; key = parts.user; sequence = parts.sequence; kind = parts.kind; value = entry.value }

-- the internal key at a range deletion's start
abbrev pub start_key : RangeDel → List ℕ
start_key range = internal_key range.start range.sequence RangeDeletion

-- the internal key at a range deletion's end, before each record of that user key
abbrev pub end_key : RangeDel → List ℕ
end_key range = internal_key range.end top_sequence RangeDeletion

-- the lesser of two internal keys
abbrev pub lesser : List ℕ → List ℕ → List ℕ
lesser a b = if is_gt (key_cmp a b) then b else a

-- the greater of two internal keys
abbrev pub greater : List ℕ → List ℕ → List ℕ
greater a b = if is_lt (key_cmp a b) then b else a

-- What is known of a good table, and its data records.
pub record Good : Type 0 where
  pub table : TableRef
  pub records : List Record

-- a table with this footer that holds these properties, range deletions, index entries and records
abbrev pub good : Footer → List Property → List RangeDel → List IndexEntry → List DataEntry → Good
good footer properties ranges index entries =
    let keys = map (λ entry. entry.key) entries in
    record {
      table = record {
        family = family_of properties;
        family_name = family_name_of properties;
        entries = min (length entries) (2 ^ 64 - 1);
        ranges = ranges;
        properties = properties;
        index = index;
        user_keys = is_set (user_separators properties);
        sum = footer.sum;
        smallest = reduce lesser (keys ++ map start_key ranges);
        largest = reduce greater (keys ++ map end_key ranges);
        top = fold max 0 (map (λ entry. entry.parts.sequence) entries ++ map (λ range. range.sequence) ranges);
        start = footer.start;
      };
      records = map (record_in (family_of properties)) entries;
    }

-- What a table says beside its data blocks.
pub record TableHead : Type 0 where
  pub properties : List Property
  pub ranges : List RangeDel
  pub index : List IndexEntry

-- what stands beside the data blocks of a table with this footer, or the first fault
abbrev pub head_with : BlockReader → Footer → Result TableHead TableFault
head_with block_of footer = do
  metas ← held block_of index_status whole_handles footer.metaindex
  properties ← list_of (properties_at block_of) (handle_named (codes "rocksdb.properties") metas)
  ranges ← list_of (held block_of range_status range_list) (handle_named (codes "rocksdb.range_del") metas)
  index ← index_at block_of properties footer.index
  Ok (record { properties = properties; ranges = ranges; index = index })

-- what a table with this footer holds, or the first fault
unfoldable pub table_with : BlockReader → Footer → Result Good TableFault
table_with block_of footer = do
  head ← head_with block_of footer
  entries ← data_records block_of (is_set (user_separators head.properties)) None None head.index
  Ok (good footer head.properties head.ranges head.index entries)

-- the status of a table: good, or the first fault
unfoldable pub table_status : List ℕ → Result Good TableFault
table_status table = do
  footer ← with_fault (footer_status (footer_start table)) (footer_of table)
  table_with (reader_of table footer) footer

-- A table of one record, `a` = `x` at sequence 1: the data block at 0, the metaindex at 26, the index at
-- 39 and the footer at 66.
data_part : List ℕ
data_part = 0 ∷ 9 ∷ 1 ∷ codes "a" ++ 1 ∷ 1 ∷ 0 ∷ 0 ∷ 0 ∷ 0 ∷ 0 ∷ 0 ∷ codes "x" ++ 0 ∷ 0 ∷ 0 ∷ 0 ∷ 1 ∷ 0 ∷ 0 ∷ 0 ∷ 0 ∷ 0x84 ∷ 0xdd ∷ 0x88 ∷ 0x74 ∷ []

metaindex_part : List ℕ
metaindex_part = 0 ∷ 0 ∷ 0 ∷ 0 ∷ 1 ∷ 0 ∷ 0 ∷ 0 ∷ 0 ∷ 0xc0 ∷ 0xf2 ∷ 0xa1 ∷ 0xb0 ∷ []

index_part : List ℕ
index_part = 0 ∷ 9 ∷ 2 ∷ codes "a" ++ 1 ∷ 1 ∷ 0 ∷ 0 ∷ 0 ∷ 0 ∷ 0 ∷ 0 ∷ 0 ∷ 21 ∷ 0 ∷ 0 ∷ 0 ∷ 0 ∷ 1 ∷ 0 ∷ 0 ∷ 0 ∷ 0 ∷ 0x36 ∷ 0x49 ∷ 0x25 ∷ 0xbf ∷ []

footer_part : List ℕ
footer_part = 26 ∷ 8 ∷ 39 ∷ 22 ∷ replicate 36 0 ++ 0x57 ∷ 0xfb ∷ 0x80 ∷ 0x8b ∷ 0x24 ∷ 0x75 ∷ 0x47 ∷ 0xdb ∷ []

one_record : List ℕ
unfolding data_part metaindex_part index_part footer_part
one_record = data_part ++ metaindex_part ++ index_part ++ footer_part

key_of_a : List ℕ
key_of_a = codes "a" ++ 1 ∷ 1 ∷ 0 ∷ 0 ∷ 0 ∷ 0 ∷ 0 ∷ 0 ∷ []

-- the status, computed
computed : List ℕ → Result Good TableFault
unfolding table_status table_with footer_of checked_block internal_key crc32c crc_bytes crc_bits crc_bit block_entries entries_after property_list range_list index_entries
computed table = table_status table

of_one_record : computed one_record ≡ Ok (record {
  table = record {
    family = 0;
    family_name = codes "default";
    entries = 1;
    ranges = [];
    properties = [];
    index = record { separator = key_of_a; block = record { offset = 0; size = 21 } } ∷ [];
    user_keys = false;
    sum = Crc32c;
    smallest = Some key_of_a;
    largest = Some key_of_a;
    top = 1;
    start = 66;
  };
  records = record { family = 0; key = codes "a"; sequence = 1; kind = Value; value = codes "x" } ∷ [];
})
unfolding computed one_record key_of_a
of_one_record = refl

with_a_byte_changed : computed (take 12 one_record ++ 0x79 ∷ drop 13 one_record) ≡ Err (damaged Checksum 0)
unfolding computed one_record
with_a_byte_changed = refl

without_the_last_byte : computed (take 113 one_record) ≡ Err (damaged BadMagic 65)
unfolding computed one_record
without_the_last_byte = refl

shorter_than_a_footer : computed (take 47 one_record) ≡ Err (damaged FooterShort 0)
unfolding computed one_record
shorter_than_a_footer = refl

-- A table whose blocks aren't summed. Its metaindex, at 0, has these bytes, of which so many are its own.
unsummed : List ℕ → ℕ → List ℕ
unsummed bytes size =
    bytes ++ (0 ∷ 0 ∷ size ∷ 0 ∷ size ∷ []) ++ replicate 36 0 ++ (5 ∷ 0 ∷ 0 ∷ 0 ∷ 0xf7 ∷ 0xcf ∷ 0xf4 ∷ 0x85 ∷ 0xb7 ∷ 0x41 ∷ 0xe2 ∷ 0x88 ∷ [])

-- the metaindex with a byte of its trailer missing, compressed, with a hash index, without a restart, and with a
-- value of one byte
of_the_metaindex : map computed (
    unsummed (0 ∷ 0 ∷ 0 ∷ 0 ∷ 1 ∷ 0 ∷ 0 ∷ 0 ∷ 0 ∷ 0 ∷ 0 ∷ 0 ∷ []) 8 ∷ unsummed (0 ∷ 0 ∷ 0 ∷ 0 ∷ 1 ∷ 0 ∷ 0 ∷ 0 ∷ 7 ∷ 0 ∷ 0 ∷ 0 ∷ 0 ∷ []) 8
    ∷ unsummed (0 ∷ 0 ∷ 0 ∷ 0 ∷ 1 ∷ 0 ∷ 0 ∷ 0x80 ∷ 0 ∷ 0 ∷ 0 ∷ 0 ∷ 0 ∷ []) 8 ∷ unsummed (replicate 9 0) 4
    ∷ unsummed (0 ∷ 1 ∷ 1 ∷ codes "a" ++ 7 ∷ 0 ∷ 0 ∷ 0 ∷ 0 ∷ 1 ∷ replicate 8 0) 13 ∷ [])
    ≡ Err (damaged OutOfFile 0) ∷ Err (unsupported (Compressed 7)) ∷ Err (unsupported HashIndex) ∷ Err (damaged Block 0) ∷ Err (damaged BadHandle 0) ∷ []
unfolding computed unsummed
of_the_metaindex = refl
