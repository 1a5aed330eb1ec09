-- The entries of a block, and the handles of an index block (RocksDB's wiki, "Rocksdb BlockBasedTable
-- Format"; table/block_based/block_builder.cc, table/format.cc). The tests and their order are this
-- project's own rule.
use Rattle.std.specs.Prelude.{◌≡◌, ℕ, zero, suc, ◌+◌, ◌-◌, ◌*◌, ◌^◌, ◌<◌, ◌≤◌, ◌==◌, IsTrue, ℤ, pos, negsuc, ◌+ℤ◌, Bool, true, false, ◌&&◌, ◌||◌, List, [], ◌∷◌, ◌++◌, length, map, flat_map, take, drop, nat_lt, nat_le, if◌then◌else◌, Option, Some, None, option_map, ok_or, Result, Ok, Err, bytes_eq, codes, refl}
use Rattle.std.specs.List.{list_any, list_all, AllByRecursion}
use Rattle.rk_bytes.specs.declared.model.block.BlockFault.{BlockFault}
use Rattle.rk_bytes.specs.declared.model.block.BlockFault.TheVariants.{Short, HashIndex, BadRestarts, BadEntry}
use Rattle.rk_bytes.specs.declared.model.block.IndexFault.{IndexFault}
use Rattle.rk_bytes.specs.declared.model.block.IndexFault.TheVariants.{Block, BadHandle}
use Rattle.rk_bytes.specs.declared.model.number.NumFault.{NumFault}
use Rattle.rk_bytes.specs.declared.model.number.NumFault.TheVariants.{TooLarge}
use Rattle.rk_bytes.specs.declared.model.block.Handle.{Handle}
use Rattle.rk_bytes.specs.declared.model.block.IndexEntry.{IndexEntry}
use Rattle.rk_bytes.specs.Model.Numbers.{little_endian, fixed_of, IsVarint32, IsVarint64, from_zigzag, Read, ◌>>=◌, part_of, varint32_at, varint64_at}

-- An entry has its place in the block, how many bytes its key shares with the key before, its whole
-- key and its value.
pub record Entry (V : Type 0) : Type 0 where
  pub place : ℕ
  pub shared : ℕ
  pub key : List ℕ
  pub value : V

-- the same result, with another word for its fault
abbrev pub with_fault : {A F G : Type 0} → (F → G) → Result A F → Result A G
with_fault word (Ok x) = Ok x
with_fault word (Err fault) = Err (word fault)

-- what a function gives of each item, or the first fault
abbrev pub collected : {A B F : Type 0} → (A → Result B F) → List A → Result (List B) F
collected give [] = Ok []
collected give (item ∷ items) = do
  first ← give item
  rest ← collected give items
  Ok (first ∷ rest)

-- the value that was read, where nothing follows it
abbrev pub whole : {A : Type 0} → Read A → Option A
whole (Ok (x, [])) = Some x
whole _ = None

-- the numbers that four bytes each spell
abbrev pub fixed32s : List ℕ → List ℕ
fixed32s (a ∷ b ∷ c ∷ d ∷ bytes) = little_endian (a ∷ b ∷ c ∷ d ∷ []) ∷ fixed32s bytes
fixed32s _ = []

-- the number of restart offsets: the last four bytes
abbrev pub restart_count : List ℕ → ℕ
restart_count block = little_endian (drop (length block - 4) block)

-- the part of a block that its entries fill, and the restart offsets after it
abbrev pub block_parts : List ℕ → Result (List ℕ × List ℕ) BlockFault
block_parts block =
    let count = restart_count block in let len = length block - 4 - 4 * count in
    if nat_lt (length block) 4 then Err Short
    else (if nat_le (2 ^ 31) count then Err HashIndex
    else (if count == 0 || nat_lt (length block) (4 + 4 * count) then Err BadRestarts
    else Ok (take len block, fixed32s (take (4 * count) (drop len block)))))

-- each number is below the next
abbrev pub rises : List ℕ → Bool
rises (a ∷ b ∷ numbers) = nat_lt a b && rises (b ∷ numbers)
rises _ = true

-- a restart offset is the place of an entry that shares nothing
abbrev pub is_restart : {V : Type 0} → List (Entry V) → ℕ → Bool
is_restart entries offset = list_any (λ entry. entry.place == offset && entry.shared == 0) entries

-- The restart offsets are right: they rise from 0, and each is that of a restart. Without an entry there is one.
abbrev pub right_restarts : {V : Type 0} → List (Entry V) → List ℕ → Bool
right_restarts [] offsets = bytes_eq offsets (0 ∷ [])
right_restarts entries offsets =
    bytes_eq (take 1 offsets) (0 ∷ []) && rises offsets && list_all (is_restart entries) offsets

-- before the first entry: an empty key
abbrev pub no_entry : {V : Type 0} → V → Entry V
no_entry value = record { place = 0; shared = 0; key = []; value = value }

-- The entries up to the bytes' end, each read after the one before it. There are at most n of them: where
-- bytes are left, the fault is that of reading where there are none.
unfoldable pub entries_after : {V F : Type 0} → (Entry V → List ℕ → Result (Entry V × List ℕ) F) → ℕ → Entry V → List ℕ → Result (List (Entry V)) F
entries_after next n before [] = Ok []
entries_after next zero before (b ∷ bytes) = do
  entry ← next before []
  Ok (entry.0 ∷ [])
entries_after next (suc n) before (b ∷ bytes) = do
  entry ← next before (b ∷ bytes)
  entries ← entries_after next n entry.0 entry.1
  Ok (entry.0 ∷ entries)

-- A block in one of its two forms: `next` reads an entry in a part of that length, and `word` is the
-- form's word for a fault of the block.
abbrev pub block_with : {V F : Type 0} → (BlockFault → F) → V → (ℕ → Entry V → List ℕ → Result (Entry V × List ℕ) F) → List ℕ → Result (List (Entry V)) F
block_with word nothing next block = do
  parts ← with_fault word (block_parts block)
  entries ← entries_after (next (length parts.0)) (length parts.0) (no_entry nothing) parts.0
  if right_restarts entries parts.1 then Ok entries else Err (word BadRestarts)

-- An entry at this place, after a key: the lengths of the shared part, of the rest of the key and of the value;
-- the rest; the value.
abbrev pub entry_at : ℕ → List ℕ → List ℕ → Read (Entry (List ℕ))
entry_at place before bytes = do
  shared ← varint32_at bytes
  rest_len ← varint32_at shared.1
  value_len ← varint32_at rest_len.1
  front ← part_of shared.0 before
  rest ← part_of rest_len.0 value_len.1
  value ← part_of value_len.0 rest.1
  Ok (record { place = place; shared = shared.0; key = front.0 ++ rest.0; value = value.0 }, value.1)

-- the entry after another, at the front of the last bytes of a part of this length
abbrev pub next_entry : ℕ → Entry (List ℕ) → List ℕ → Result (Entry (List ℕ) × List ℕ) BlockFault
next_entry len before bytes =
    let place = len - length bytes in with_fault (λ fault. BadEntry place) (entry_at place before.key bytes)

-- the entries of a block, or the first fault
unfoldable pub block_entries : List ℕ → Result (List (Entry (List ℕ))) BlockFault
block_entries block = block_with (λ fault. fault) [] next_entry block

-- How bytes spell the entry that follows another.
abbrev pub Spelling : Type 0 → Type 1
Spelling V = Entry V → List ℕ → Entry V → Type 0

-- The bytes spell these entries, one after another, from a place on and after an entry.
abbrev pub AreEntries : {V : Type 0} → Spelling V → ℕ → Entry V → List ℕ → List (Entry V) → Type 0
AreEntries Spells place before bytes [] = bytes ≡ []
AreEntries Spells place before bytes (entry ∷ entries) =
    (spelled : List ℕ) × (rest : List ℕ) × (bytes ≡ spelled ++ rest)
    × (entry.place ≡ place) × Spells before spelled entry
    × AreEntries Spells (place + length spelled) entry rest entries

-- The bytes are a block of these entries: their spelling, restart offsets that are right for them, and
-- how many offsets there are.
pub record IsBlock {V : Type 0} (Spells : Spelling V) (nothing : V) (block : List ℕ) (entries : List (Entry V)) : Type 0 where
  pub spelled : List ℕ
  pub offsets : List ℕ
  pub parts : block ≡ spelled ++ (flat_map (fixed_of 4) offsets ++ fixed_of 4 (length offsets))
  pub few : length offsets < 2 ^ 31
  pub fit : AllByRecursion (λ offset. offset < 2 ^ 32) offsets
  pub are : AreEntries Spells 0 (no_entry nothing) spelled entries
  pub restarts : IsTrue (right_restarts entries offsets)

-- An entry is spelled by three lengths, each in any spelling, the rest of its key, and its value's bytes.
pub record SpellsEntryWith {V : Type 0} (SpellsEntryValue : List ℕ → V → Type 0) (before : Entry V) (bytes : List ℕ) (entry : Entry V) : Type 0 where
  pub shared_len : List ℕ
  pub rest_len : List ℕ
  pub value_len : List ℕ
  pub rest : List ℕ
  pub value_bytes : List ℕ
  pub spelled : bytes ≡ shared_len ++ (rest_len ++ (value_len ++ (rest ++ value_bytes)))
  pub shares : IsVarint32 shared_len entry.shared
  pub rests : IsVarint32 rest_len (length rest)
  pub holds : IsVarint32 value_len (length value_bytes)
  pub within : entry.shared ≤ length before.key
  pub key : entry.key ≡ take entry.shared before.key ++ rest
  pub value : SpellsEntryValue value_bytes entry.value

-- an entry whose value is its bytes
abbrev pub SpellsEntry : Spelling (List ℕ)
SpellsEntry before bytes entry = SpellsEntryWith (λ spelled value. spelled ≡ value) before bytes entry

-- the handle at the front of bytes: its offset, and its size
abbrev pub handle_at : List ℕ → Read Handle
handle_at bytes = do
  offset ← varint64_at bytes
  size ← varint64_at offset.1
  Ok (record { offset = offset.0; size = size.0 }, size.1)

-- a handle whose numbers fit 64 bits
abbrev pub fitting_handle : ℕ → ℤ → Result Handle NumFault
fitting_handle offset (pos size) =
    if nat_lt offset (2 ^ 64) && nat_lt size (2 ^ 64) then Ok (record { offset = offset; size = size }) else Err TooLarge
fitting_handle offset (negsuc size) = Err TooLarge

-- the handle of the block right after another block's trailer, of which the sizes' difference is written
abbrev pub handle_after : Handle → List ℕ → Read Handle
handle_after before bytes = do
  difference ← varint64_at bytes
  handle ← fitting_handle (before.offset + before.size + 5) (pos before.size +ℤ from_zigzag difference.0)
  Ok (handle, difference.1)

-- Where values are delta-encoded, an entry has no value length. This is what its key shares, and the key.
abbrev pub delta_key_at : List ℕ → List ℕ → Read (ℕ × List ℕ)
delta_key_at before bytes = do
  shared ← varint32_at bytes
  rest_len ← varint32_at shared.1
  front ← part_of shared.0 before
  rest ← part_of rest_len.0 rest_len.1
  Ok ((shared.0, front.0 ++ rest.0), rest.1)

-- After the key, the handle is whole where the key shares nothing.
abbrev pub delta_value_at : ℕ → Handle → List ℕ → Read Handle
delta_value_at zero before bytes = handle_at bytes
delta_value_at (suc shared) before bytes = handle_after before bytes

-- An entry of an index with delta-encoded handles: its key, and its handle after the one before.
abbrev pub next_delta_entry : ℕ → Entry Handle → List ℕ → Result (Entry Handle × List ℕ) IndexFault
next_delta_entry len before bytes = let place = len - length bytes in do
  key ← with_fault (λ fault. Block (BadEntry place)) (delta_key_at before.key bytes)
  handle ← with_fault (λ fault. BadHandle) (delta_value_at key.0.0 before.value key.1)
  Ok (record { place = place; shared = key.0.0; key = key.0.1; value = handle.0 }, handle.1)

-- before the first entry
abbrev pub no_handle : Handle
no_handle = record { offset = 0; size = 0 }

-- the entries of an index block with delta-encoded handles, or the first fault
abbrev pub delta_handles : List ℕ → Result (List (Entry Handle)) IndexFault
delta_handles block = block_with Block no_handle next_delta_entry block

-- The bytes are a handle: its offset, and its size.
pub record SpellsHandle (bytes : List ℕ) (handle : Handle) : Type 0 where
  pub offset_bytes : List ℕ
  pub size_bytes : List ℕ
  pub spelled : bytes ≡ offset_bytes ++ size_bytes
  pub offset : IsVarint64 offset_bytes handle.offset
  pub size : IsVarint64 size_bytes handle.size

-- The bytes say how much larger a block is than the one right before it.
pub record SpellsDifference (before : Handle) (bytes : List ℕ) (handle : Handle) : Type 0 where
  pub zigzag : ℕ
  pub difference : IsVarint64 bytes zigzag
  pub size : pos handle.size ≡ pos before.size +ℤ from_zigzag zigzag
  pub offset : handle.offset ≡ before.offset + before.size + 5
  pub size_fits : handle.size < 2 ^ 64
  pub offset_fits : handle.offset < 2 ^ 64

-- The bytes are an entry's handle: whole where the key shares nothing, else the difference of the sizes.
abbrev pub SpellsDeltaValue : ℕ → Handle → List ℕ → Handle → Type 0
SpellsDeltaValue zero before bytes handle = SpellsHandle bytes handle
SpellsDeltaValue (suc shared) before bytes handle = SpellsDifference before bytes handle

-- Where values are delta-encoded, a key is spelled by two lengths and the rest of it.
pub record SpellsDeltaKey (before bytes : List ℕ) (shared : ℕ) (key : List ℕ) : Type 0 where
  pub shared_len : List ℕ
  pub rest_len : List ℕ
  pub rest : List ℕ
  pub spelled : bytes ≡ shared_len ++ (rest_len ++ rest)
  pub shares : IsVarint32 shared_len shared
  pub rests : IsVarint32 rest_len (length rest)
  pub within : shared ≤ length before
  pub key_is : key ≡ take shared before ++ rest

-- Such an entry is spelled by its key and its handle.
pub record SpellsDeltaEntry (before : Entry Handle) (bytes : List ℕ) (entry : Entry Handle) : Type 0 where
  pub key_bytes : List ℕ
  pub handle_bytes : List ℕ
  pub spelled : bytes ≡ key_bytes ++ handle_bytes
  pub key : SpellsDeltaKey before.key key_bytes entry.shared entry.key
  pub value : SpellsDeltaValue entry.shared before.value handle_bytes entry.value

-- the entry with another value
abbrev pub with_value : {V W : Type 0} → Entry V → W → Entry W
with_value entry value = record { place = entry.place; shared = entry.shared; key = entry.key; value = value }

-- an entry whose value is one whole handle
abbrev pub with_handle : Entry (List ℕ) → Result (Entry Handle) IndexFault
with_handle entry = ok_or (option_map (with_value entry) (whole (handle_at entry.value))) BadHandle

-- Without delta encoding the handles are read once the block has passed its tests.
abbrev pub whole_handles : List ℕ → Result (List (Entry Handle)) IndexFault
whole_handles block = do
  entries ← with_fault Block (block_entries block)
  collected with_handle entries

-- an index's entry: its key is the separator, and its value is the data block's handle
abbrev pub index_entry : Entry Handle → IndexEntry
index_entry entry = record { separator = entry.key; block = entry.value }

-- the entries of an index block, or the first fault
unfoldable pub index_entries : Bool → List ℕ → Result (List IndexEntry) IndexFault
index_entries is_delta block = do
  entries ← if is_delta then delta_handles block else whole_handles block
  Ok (map index_entry entries)

-- how an index's entry is spelled, with delta-encoded handles or with whole ones
abbrev pub SpellsIndexEntry : Bool → Spelling Handle
SpellsIndexEntry true before bytes entry = SpellsDeltaEntry before bytes entry
SpellsIndexEntry false before bytes entry = SpellsEntryWith SpellsHandle before bytes entry

-- The bytes are an index block of these entries.
pub record IsIndex (is_delta : Bool) (block : List ℕ) (index : List IndexEntry) : Type 0 where
  pub entries : List (Entry Handle)
  pub are : IsBlock (SpellsIndexEntry is_delta) no_handle block entries
  pub shown : index ≡ map index_entry entries

-- a block of these entries with one restart, at 0
one_restart : List ℕ → List ℕ
one_restart entries = entries ++ 0 ∷ 0 ∷ 0 ∷ 0 ∷ 1 ∷ 0 ∷ 0 ∷ 0 ∷ []

-- three bytes, a hash index, and no restart
of_no_block : map block_entries ((0 ∷ 0 ∷ 0 ∷ []) ∷ (0 ∷ 0 ∷ 0 ∷ 0 ∷ 1 ∷ 0 ∷ 0 ∷ 0x80 ∷ []) ∷ (0 ∷ 0 ∷ 0 ∷ 0 ∷ []) ∷ []) ≡ Err Short ∷ Err HashIndex ∷ Err BadRestarts ∷ []
unfolding block_entries
of_no_block = refl

without_an_entry : block_entries (one_restart []) ≡ Ok []
unfolding block_entries entries_after one_restart
without_an_entry = refl

-- the second key is the first 1 byte of the first, and 1 more
of_two_entries : block_entries (one_restart (0 ∷ 2 ∷ 1 ∷ codes "abx" ++ 1 ∷ 1 ∷ 0 ∷ codes "c"))
    ≡ Ok (record { place = 0; shared = 0; key = codes "ab"; value = codes "x" } ∷ record { place = 6; shared = 1; key = codes "ac"; value = [] } ∷ [])
unfolding block_entries entries_after one_restart
of_two_entries = refl

shares_with_nothing : block_entries (one_restart (1 ∷ 1 ∷ 0 ∷ codes "a")) ≡ Err (BadEntry 0)
unfolding block_entries entries_after one_restart
shares_with_nothing = refl

past_the_end : block_entries (one_restart (0 ∷ 1 ∷ 0 ∷ codes "a" ++ 0 ∷ 1 ∷ 1 ∷ codes "b")) ≡ Err (BadEntry 4)
unfolding block_entries entries_after one_restart
past_the_end = refl

-- a second restart, at an entry that shares a byte
restarts_within_a_key : block_entries (0 ∷ 1 ∷ 0 ∷ codes "a" ++ 1 ∷ 1 ∷ 0 ∷ codes "b" ++ 0 ∷ 0 ∷ 0 ∷ 0 ∷ 4 ∷ 0 ∷ 0 ∷ 0 ∷ 2 ∷ 0 ∷ 0 ∷ 0 ∷ []) ≡ Err BadRestarts
unfolding block_entries entries_after
restarts_within_a_key = refl

of_whole_handles : index_entries false (one_restart (0 ∷ 1 ∷ 2 ∷ codes "a" ++ 0 ∷ 21 ∷ [])) ≡ Ok (record { separator = codes "a"; block = record { offset = 0; size = 21 } } ∷ [])
unfolding index_entries block_entries entries_after one_restart
of_whole_handles = refl

more_than_a_handle : index_entries false (one_restart (0 ∷ 1 ∷ 3 ∷ codes "a" ++ 0 ∷ 21 ∷ 0 ∷ [])) ≡ Err BadHandle
unfolding index_entries block_entries entries_after one_restart
more_than_a_handle = refl

-- the second size is 10 less than the first
of_delta_handles : index_entries true (one_restart (0 ∷ 5 ∷ codes "apple" ++ 0 ∷ 100 ∷ 2 ∷ 5 ∷ codes "ricot" ++ 19 ∷ []))
    ≡ Ok (record { separator = codes "apple"; block = record { offset = 0; size = 100 } } ∷ record { separator = codes "apricot"; block = record { offset = 105; size = 90 } } ∷ [])
unfolding index_entries entries_after one_restart
of_delta_handles = refl

-- the second size would be 101 less
below_nothing : index_entries true (one_restart (0 ∷ 1 ∷ codes "a" ++ 0 ∷ 100 ∷ 1 ∷ 1 ∷ codes "b" ++ 201 ∷ 1 ∷ [])) ≡ Err BadHandle
unfolding index_entries entries_after one_restart
below_nothing = refl

-- an entry of four bytes, where there may be none, and one
bound_by_their_number : map (λ n. entries_after (next_entry 4) n (no_entry []) (0 ∷ 1 ∷ 0 ∷ codes "a")) (0 ∷ 1 ∷ [])
    ≡ Err (BadEntry 4) ∷ Ok (record { place = 0; shared = 0; key = codes "a"; value = [] } ∷ []) ∷ []
unfolding entries_after
bound_by_their_number = refl
