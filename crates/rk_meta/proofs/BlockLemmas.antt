-- What the definitions make of a block, by its entries.
use Rattle.std.specs.Prelude.{if◌then◌else◌}
use Rattle.std.proofs.Common.{◌≡◌, ℕ, Bool, true, false, List, [], ◌∷◌, length, map, Result, Ok, Err, refl, sym, ap, ◌∙◌}
use Rattle.rk_bytes.specs.declared.model.block.BlockFault.{BlockFault}
use Rattle.rk_bytes.specs.declared.model.block.BlockFault.TheVariants.{BadRestarts}
use Rattle.rk_bytes.specs.declared.model.block.Handle.{Handle}
use Rattle.rk_bytes.specs.declared.model.block.IndexEntry.{IndexEntry}
use Rattle.rk_bytes.specs.declared.model.block.IndexFault.{IndexFault}
use Rattle.rk_bytes.specs.declared.model.block.IndexFault.TheVariants.{Block}
use Rattle.rk_bytes.specs.declared.model.block.RangeFault.TheVariants.{Block as RangeBlock}
use Rattle.rk_bytes.specs.Model.Numbers.{◌>>=◌}
use Rattle.rk_bytes.specs.Model.BlockEntries.{Entry, with_fault, collected, block_parts, block_entries, entries_after, no_entry, right_restarts, next_delta_entry, no_handle, with_handle, index_entry, index_entries}
use Rattle.rk_bytes.specs.Model.TableStatus.{property_list, range_list}
use Rattle.rk_meta.specs.Delta.{delta_index_in}
use Rattle.rk_meta.specs.Walk.{property_of, range_in, whole_entry}

-- handles are read and shown one by one, or all
collected_shown : (entries : List (Entry (List ℕ))) → collected whole_entry entries ≡ (collected with_handle entries >>= λ handles. Ok (map index_entry handles))
collected_shown [] = refl
collected_shown (entry ∷ entries) = by (with_handle entry) (collected with_handle entries) (collected whole_entry entries) (collected_shown entries)
  where
    by : (first : Result (Entry Handle) IndexFault) (rest : Result (List (Entry Handle)) IndexFault) (shown : Result (List IndexEntry) IndexFault) → shown ≡ (rest >>= λ handles. Ok (map index_entry handles))
        → ((first >>= λ one. Ok (index_entry one)) >>= λ one. shown >>= λ more. Ok (one ∷ more)) ≡ ((first >>= λ one. rest >>= λ more. Ok (one ∷ more)) >>= λ handles. Ok (map index_entry handles))
    by (Err why) rest shown is = refl
    by (Ok one) (Ok more) shown is = ap (λ shown. shown >>= λ more. Ok (index_entry one ∷ more)) is
    by (Ok one) (Err why) shown is = ap (λ shown. shown >>= λ more. Ok (index_entry one ∷ more)) is

pub whole_index : (delta : Bool) (block : List ℕ) (entries : List (Entry (List ℕ))) → delta ≡ false → Ok entries ≡ block_entries block → collected whole_entry entries ≡ index_entries delta block
unfolding index_entries
whole_index delta block entries whole is =
    collected_shown entries
    ∙ ap (λ entries. (with_fault Block entries >>= λ entries. collected with_handle entries) >>= λ handles. Ok (map index_entry handles)) is
    ∙ ap (λ delta. index_entries delta block) (sym whole)

pub whole_index-fault : (delta : Bool) (block : List ℕ) (fault : BlockFault) → delta ≡ false → Err fault ≡ block_entries block → Err (Block fault) ≡ index_entries delta block
unfolding index_entries
whole_index-fault delta block fault whole is =
    ap (λ entries. (with_fault Block entries >>= λ entries. collected with_handle entries) >>= λ handles. Ok (map index_entry handles)) is
    ∙ ap (λ delta. index_entries delta block) (sym whole)

-- the restarts are tested before the entries are shown, or after
tested_shown : (entries : Result (List (Entry Handle)) IndexFault) (offsets : List ℕ)
    → (entries >>= λ entries. if right_restarts entries offsets then Ok (map index_entry entries) else Err (Block BadRestarts))
    ≡ ((entries >>= λ entries. if right_restarts entries offsets then Ok entries else Err (Block BadRestarts)) >>= λ entries. Ok (map index_entry entries))
tested_shown (Err why) offsets = refl
tested_shown (Ok entries) offsets = by (right_restarts entries offsets)
  where
    by : (right : Bool) → (if right then Ok (map index_entry entries) else Err (Block BadRestarts)) ≡ ((if right then Ok entries else Err (Block BadRestarts)) >>= λ entries. Ok (map index_entry entries))
    by true = refl
    by false = refl

pub delta_index : (block part offsets : List ℕ) → Ok (part, offsets) ≡ block_parts block → delta_index_in part offsets ≡ index_entries true block
unfolding index_entries
delta_index block part offsets is =
    tested_shown (entries_after (next_delta_entry (length part)) (length part) (no_entry no_handle) part) offsets
    ∙ ap (λ parts. (with_fault Block parts >>= λ parts. entries_after (next_delta_entry (length parts.0)) (length parts.0) (no_entry no_handle) parts.0 >>= λ entries. if right_restarts entries parts.1 then Ok entries else Err (Block BadRestarts)) >>= λ entries. Ok (map index_entry entries)) is

pub delta_index-fault : (block : List ℕ) (fault : BlockFault) → Err fault ≡ block_parts block → Err (Block fault) ≡ index_entries true block
unfolding index_entries
delta_index-fault block fault is =
    ap (λ parts. (with_fault Block parts >>= λ parts. entries_after (next_delta_entry (length parts.0)) (length parts.0) (no_entry no_handle) parts.0 >>= λ entries. if right_restarts entries parts.1 then Ok entries else Err (Block BadRestarts)) >>= λ entries. Ok (map index_entry entries)) is

pub properties_of : {F : Type 0} (word : BlockFault → F) (block : List ℕ) (entries : List (Entry (List ℕ))) → Ok entries ≡ block_entries block → Ok (map property_of entries) ≡ with_fault word (property_list block)
unfolding property_list
properties_of word block entries is = ap (λ entries. with_fault word (entries >>= λ entries. Ok (map property_of entries))) is

pub properties_of-fault : {F : Type 0} (word : BlockFault → F) (block : List ℕ) (fault : BlockFault) → Err fault ≡ block_entries block → Err (word fault) ≡ with_fault word (property_list block)
unfolding property_list
properties_of-fault word block fault is = ap (λ entries. with_fault word (entries >>= λ entries. Ok (map property_of entries))) is

pub ranges_of : (block : List ℕ) (entries : List (Entry (List ℕ))) → Ok entries ≡ block_entries block → collected range_in entries ≡ range_list block
unfolding range_list
ranges_of block entries is = ap (λ entries. with_fault RangeBlock entries >>= λ entries. collected range_in entries) is

pub ranges_of-fault : (block : List ℕ) (fault : BlockFault) → Err fault ≡ block_entries block → Err (RangeBlock fault) ≡ range_list block
unfolding range_list
ranges_of-fault block fault is = ap (λ entries. with_fault RangeBlock entries >>= λ entries. collected range_in entries) is
