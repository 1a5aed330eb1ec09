-- The data blocks of a written table are read in turn as its records.
use Rattle.std.proofs.Common.{◌≡◌, ℕ, ◌^◌, ◌<◌, true, false, List, [], ◌∷◌, ◌++◌, length, map, Option, Some, None, unwrap_or, Result, Ok, Err, refl, sym, ◌∙◌, ap, subst, arith}
use Rattle.std.specs.Prelude.{not}
use Rattle.std.specs.List.{AllByRecursion, last_or}
use Rattle.std.specs.List.Sorted.{IsStrictlySortedBy}
use Rattle.std.specs.declared.cmp.Ordering.{Ordering}
use Rattle.std.specs.declared.cmp.Ordering.TheVariants.{Less, Equal, Greater}
use Rattle.std.specs.Ordering.{is_gt, ordering_reverse}
use Rattle.std.proofs.lemmas.Bool.{and_from}
use Rattle.std.proofs.lemmas.List.{map-append}
use Rattle.rk_bytes.specs.declared.model.block.Handle.{Handle}
use Rattle.rk_bytes.specs.declared.model.block.IndexEntry.{IndexEntry}
use Rattle.rk_bytes.specs.declared.model.key.KeyFault.{KeyFault}
use Rattle.rk_bytes.specs.declared.model.key.Kind.TheVariants.{Value}
use Rattle.rk_bytes.specs.Model.Numbers.{◌>>=◌}
use Rattle.rk_bytes.specs.Model.BlockEntries.{Entry, with_fault, block_entries}
use Rattle.rk_bytes.specs.Model.InternalKey.{KeyParts, key_parts, key_cmp}
use Rattle.rk_bytes.specs.Model.TableStatus.{BlockReader, block_status, held, is_range_deletion, is_above, DataEntry, entry_after, records_after, last_key, are_separated, data_block, data_records}
use Rattle.rk_bytes.specs.Model.Writers.{KeyValue, block_bytes, handle_behind, last_entry_key}
use Rattle.rk_bytes.proofs.Callers.Readings.{first_step}
use Rattle.rk_laws.proofs.Orders.{key_cmp-total}
use Rattle.rk_laws.proofs.WrittenBlocks.{block_read}
use Rattle.rk_laws.proofs.WrittenGroups.{joined_groups, IsFilled}

-- the parts that were read, where they were
parts_read : Result KeyParts KeyFault → KeyParts
parts_read (Ok parts) = parts
parts_read (Err fault) = record { user = []; sequence = 0; kind = Value }

-- the data record of an entry
pub data_of : KeyValue → DataEntry
data_of entry = record { key = entry.0; parts = parts_read (key_parts entry.0); value = entry.1 }

-- The entry's key is that of a data record.
pub record IsData (entry : KeyValue) : Type 0 where
  pub parts : KeyParts
  pub read : key_parts entry.0 ≡ Ok parts
  pub kind : is_range_deletion parts.kind ≡ false

pub data_of-is : (entry : KeyValue) (parts : KeyParts) → key_parts entry.0 ≡ Ok parts → data_of entry ≡ record { key = entry.0; parts = parts; value = entry.1 }
unfolding data_of parts_read
data_of-is entry parts read = λ i. record { key = entry.0; parts = parts_read (read i); value = entry.1 }

-- Keys rise, the first of them above another key, where there is another.
abbrev pub Rise : Option (List ℕ) → List (List ℕ) → Type 0
Rise before [] = Unit
Rise before (key ∷ keys) = (is_above key_cmp key before ≡ true) × Rise (Some key) keys

-- the keys of entries
abbrev pub keys_of : List KeyValue → List (List ℕ)
keys_of entries = map (λ entry. entry.0) entries

-- keys in strict order rise
pub rise_of_sorted : (keys : List (List ℕ)) → IsStrictlySortedBy key_cmp keys → Rise None keys
unfolding IsStrictlySortedBy
rise_of_sorted [] sorted = tt
rise_of_sorted (key ∷ keys) sorted = (refl, by key keys sorted)
  where
    above : (a b : List ℕ) → key_cmp a b ≡ Less → is_gt (key_cmp b a) ≡ true
    above a b less = ap is_gt (key_cmp-total.antisymm b a ∙ ap ordering_reverse less)

    by : (key : List ℕ) (keys : List (List ℕ)) → IsStrictlySortedBy key_cmp (key ∷ keys) → Rise (Some key) keys
    by key [] sorted = tt
    by key (next ∷ keys) sorted = (above key next sorted.0.0, by next keys sorted.1)

rise_parts : (before : Option (List ℕ)) (some more : List (List ℕ)) → Rise before (some ++ more) → Rise before some × Rise (last_or before some) more
rise_parts before [] more rise = (tt, rise)
rise_parts before (key ∷ some) more rise = let (first, rest) = rise_parts (Some key) some more rise.1 in ((rise.0, first), rest)

-- the entry that was read shows this key and this value
entry_read : (place : ℕ) (before : Option (List ℕ)) (one : Entry (List ℕ)) (entry : KeyValue) → one.key ≡ entry.0 → one.value ≡ entry.1 → IsData entry → is_above key_cmp entry.0 before ≡ true
    → entry_after place before one (key_parts one.key) ≡ Ok (data_of entry)
entry_read place before one entry key value is above =
    let rises : is_above key_cmp one.key before ≡ true = ap (λ key. is_above key_cmp key before) key ∙ above in
    let made : (let parts : DataEntry = record { key = one.key; parts = is.parts; value = one.value } in parts) ≡ data_of entry = (λ i. record { key = key i; parts = is.parts; value = value i }) ∙ sym (data_of-is entry is.parts is.read) in
    ap (entry_after place before one) (ap key_parts key ∙ is.read) ∙ rw (is.kind, rises) (ap Ok made)

-- the records of a block's entries, after the key before them
records_read : (place : ℕ) (before : Option (List ℕ)) (read : List (Entry (List ℕ))) (entries : List KeyValue) → map (λ entry. (entry.key, entry.value)) read ≡ entries
    → AllByRecursion IsData entries → Rise before (keys_of entries) → records_after place before read ≡ Ok (map data_of entries)
records_read place before [] [] shown are rise = refl
records_read place before [] (entry ∷ entries) shown are rise = absurd cc
records_read place before (one ∷ read) [] shown are rise = absurd cc
records_read place before (one ∷ read) (entry ∷ entries) shown are rise =
    let first : (one.key, one.value) ≡ entry = cc in
    let rest : map (λ (entry : Entry (List ℕ)). (entry.key, entry.value)) read ≡ entries = cc in
    let key : one.key ≡ entry.0 = ap (λ (pair : KeyValue). pair.0) first in
    let here = entry_read place before one entry key (ap (λ (pair : KeyValue). pair.1) first) are.0 rise.0 in
    let more = records_read place (Some entry.0) read entries rest are.1 rise.1 in
    first_step (entry_after place before one (key_parts one.key)) _ (data_of entry) here
    ∙ ap (λ key. records_after place (Some key) read >>= λ more. Ok (data_of entry ∷ more)) key
    ∙ first_step (records_after place (Some entry.0) read) _ (map data_of entries) more

keys_kept : (entries : List KeyValue) → map (λ (entry : DataEntry). entry.key) (map data_of entries) ≡ keys_of entries
unfolding data_of
keys_kept [] = refl
keys_kept (entry ∷ entries) = ap (λ more. entry.0 ∷ more) (keys_kept entries)

-- the last of keys
last_some : (key : List ℕ) (keys : List (List ℕ)) → last_or (Some key) keys ≡ Some (unwrap_or (last_or None keys) key)
last_some key [] = refl
last_some key (next ∷ keys) = let more = last_some next keys in more ∙ ap (λ (last : Option (List ℕ)). Some (unwrap_or last key)) (sym more)

-- it is the separator
last_is : (before : Option (List ℕ)) (entries : List KeyValue) → IsFilled entries → last_or before (keys_of entries) ≡ Some (last_entry_key entries)
last_is before [] filled = absurd (omega arith)
last_is before (entry ∷ entries) filled =
    let last = last_some entry.0 (keys_of entries) in
    last ∙ ap (λ (last : Option (List ℕ)). Some (unwrap_or last [])) (sym last)

not_above_itself : (key : List ℕ) → not (is_gt (key_cmp key key)) ≡ true
not_above_itself key = by (key_cmp key key) (key_cmp-total.antisymm key key)
  where
    by : (order : Ordering) → order ≡ ordering_reverse order → not (is_gt order) ≡ true
    by Less same = refl
    by Equal same = refl
    by Greater same = cc

-- a block's records are separated by the last key before them and their own last key
separated : (before : Option (List ℕ)) (entries : List KeyValue) → IsFilled entries → Rise before (keys_of entries) → are_separated false before (last_entry_key entries) (map data_of entries) ≡ true
unfolding data_of
separated before [] filled rise = absurd (omega arith)
separated before (entry ∷ entries) filled rise =
    let last : unwrap_or (last_key (map data_of entries)) entry.0 ≡ last_entry_key (entry ∷ entries) =
    ap (λ keys. unwrap_or (last_or None keys) entry.0) (keys_kept entries) ∙ ap (λ (last : Option (List ℕ)). unwrap_or last []) (sym (last_some entry.0 (keys_of entries))) in
    and_from _ _ rise.0 (ap (λ last. not (is_gt (key_cmp last (last_entry_key (entry ∷ entries))))) last ∙ not_above_itself (last_entry_key (entry ∷ entries)))

-- the data block of a group
block_records : (block_of : BlockReader) (before : Option (List ℕ)) (group : List KeyValue) (at : IndexEntry) → block_of at.block ≡ Ok (block_bytes 16 group) → at.separator ≡ last_entry_key group → length (block_bytes 16 group) < 2 ^ 32
    → IsFilled group → AllByRecursion IsData group → Rise before (keys_of group) → data_block block_of false before before at ≡ Ok (map data_of group)
block_records block_of before group at held_is separator short filled are rise =
    let (read, entries_read, shown) = block_read 16 group short in
    let block : held block_of block_status block_entries at.block ≡ Ok read =
    first_step (block_of at.block) _ (block_bytes 16 group) held_is ∙ ap (with_fault (block_status at.block.offset)) entries_read in
    let records = records_read at.block.offset before read group shown are rise in
    let apart : are_separated false before at.separator (map data_of group) ≡ true = ap (λ separator. are_separated false before separator (map data_of group)) separator ∙ separated before group filled rise in
    first_step (held block_of block_status block_entries at.block) _ read block
    ∙ first_step (records_after at.block.offset before read) _ (map data_of group) records
    ∙ rw apart

-- the separators and the handles of groups' blocks, behind other blocks
unfoldable pub index_from : List (List ℕ) → List (List KeyValue) → List (List ℕ × Handle)
index_from before [] = []
index_from before (group ∷ groups) = (last_entry_key group, handle_behind before (block_bytes 16 group)) ∷ index_from (before ++ block_bytes 16 group ∷ []) groups

-- the reader reads their blocks
abbrev pub ReadsGroups : BlockReader → List (List ℕ) → List (List KeyValue) → Type 0
ReadsGroups block_of before [] = Unit
ReadsGroups block_of before (group ∷ groups) =
    (block_of (handle_behind before (block_bytes 16 group)) ≡ Ok (block_bytes 16 group)) × ReadsGroups block_of (before ++ block_bytes 16 group ∷ []) groups

abbrev pub index_shown : List (List ℕ × Handle) → List IndexEntry
index_shown entries = map (λ entry. record { separator = entry.0; block = entry.1 }) entries

-- what a group's block has to be
pub record IsDataGroup (group : List KeyValue) : Type 0 where
  pub filled : IsFilled group
  pub short : length (block_bytes 16 group) < 2 ^ 32
  pub are : AllByRecursion IsData group

pub groups_read : (block_of : BlockReader) (before : List (List ℕ)) (last : Option (List ℕ)) (groups : List (List KeyValue)) → ReadsGroups block_of before groups → AllByRecursion IsDataGroup groups → Rise last (keys_of (joined_groups groups))
    → data_records block_of false last last (index_shown (index_from before groups)) ≡ Ok (map data_of (joined_groups groups))
unfolding index_from
groups_read block_of before last [] reads are rise = refl
groups_read block_of before last (group ∷ groups) reads are rise =
    let at : IndexEntry = record { separator = last_entry_key group; block = handle_behind before (block_bytes 16 group) } in
    let behind = before ++ block_bytes 16 group ∷ [] in
    let index = index_shown (index_from behind groups) in
    let (here, rest) = rise_parts last (keys_of group) (keys_of (joined_groups groups)) (subst (λ keys. Rise last keys) (map-append (λ (entry : KeyValue). entry.0) group (joined_groups groups)) rise) in
    let first = block_records block_of last group at reads.0 refl are.0.short are.0.filled are.0.are here in
    let own : last_or last (keys_of group) ≡ Some (last_entry_key group) = last_is last group are.0.filled in
    let key : last_key (map data_of group) ≡ Some (last_entry_key group) = ap (last_or None) (keys_kept group) ∙ last_is None group are.0.filled in
    let more = groups_read block_of behind (Some (last_entry_key group)) groups reads.1 are.1 (subst (λ last. Rise last (keys_of (joined_groups groups))) own rest) in
    let after : data_records block_of false (last_key (map data_of group)) (Some (last_entry_key group)) index ≡ Ok (map data_of (joined_groups groups)) =
    ap (λ key. data_records block_of false key (Some (last_entry_key group)) index) key ∙ more in
    first_step (data_block block_of false last last at) _ (map data_of group) first
    ∙ first_step (data_records block_of false (last_key (map data_of group)) (Some (last_entry_key group)) index) _ (map data_of (joined_groups groups)) after
    ∙ ap Ok (sym (map-append data_of group (joined_groups groups)))
