-- Blocks and handles as they are written.
use Rattle.std.specs.Prelude.{flat_map, fold, Result, Ok, Err, OnOk}
use Rattle.std.specs.List.{sum_by}
use Rattle.std.proofs.Common.{◌≡◌, ℕ, ◌+◌, ◌^◌, ◌<◌, ◌≤◌, List, [], ◌∷◌, ◌++◌, length, Option, Some, None, refl, sym, ap, ◌∙◌, arith, append_assoc, length-append}
use Rattle.std.proofs.lemmas.List.{append-nil}
use Rattle.std.proofs.lemmas.List.Concat.{flat_map-append, length-flat_map}
use Rattle.rk_bytes.specs.declared.model.block.Handle.{Handle}
use Rattle.rk_bytes.specs.declared.model.table.SumKind.TheVariants.{Crc32c}
use Rattle.rk_bytes.specs.Model.Numbers.{fixed_of, varint_of}
use Rattle.rk_bytes.specs.Model.Checksums.{block_sum}
use Rattle.rk_bytes.specs.Model.Writers.{KeyValue, stored, handle_behind, handle_bytes, block_bytes, footer_bytes, joined_table, metaindex_block}
use Rattle.rk_bytes.proofs.Callers.Varints.{IsVarint64-varint_of}
use Rattle.rk_bytes.specs.declared.memory.Memory.{Memory}
use Rattle.rk_block.specs.Building.{Building, with_entry}
use Rattle.rk_tablew.specs.Parts.{Puts, PutsAny, EndsWith, blocks_of, metaindex_entries, with_entries}

length-stored : (block : List ℕ) → length (stored block) ≡ length block + 5
length-stored block = length-append block (0 ∷ fixed_of 4 (block_sum Crc32c block 0)) ∙ refl

-- the blocks so far have 5 bytes each besides their own
fold-stored : (start : ℕ) (blocks : List (List ℕ)) → fold (λ n block. n + length (stored block)) start blocks ≡ fold (λ n block. n + (length block + 5)) start blocks
fold-stored start [] = refl
fold-stored start (block ∷ blocks) = ap (λ n. fold (λ n block. n + length (stored block)) (start + n) blocks) (length-stored block) ∙ fold-stored (start + (length block + 5)) blocks

length-stored_blocks : (blocks : List (List ℕ)) → length (flat_map stored blocks) ≡ sum_by (λ other. length other + 5) blocks
length-stored_blocks blocks = length-flat_map stored blocks ∙ fold-stored 0 blocks

pub flat_map-stored : (blocks : List (List ℕ)) (block : List ℕ) → flat_map stored (blocks ++ block ∷ []) ≡ flat_map stored blocks ++ stored block
flat_map-stored blocks block = flat_map-append stored blocks (block ∷ []) ∙ ap (λ last. flat_map stored blocks ++ last) (append-nil (stored block))

-- a block is put at the end
pub Puts-written : (old block new : List ℕ) (handle : Handle) → new ≡ old ++ (block ++ 0 ∷ []) ++ fixed_of 4 (block_sum Crc32c block 0) → handle.offset ≡ length old → handle.size ≡ length block → Puts old block handle new
Puts-written old block new handle is place size = record {
  at = λ i. record { offset = place i; size = size i };
  added =
      is
      ∙ append_assoc old (block ++ 0 ∷ []) (fixed_of 4 (block_sum Crc32c block 0))
      ∙ ap (λ more. old ++ more) (append_assoc block (0 ∷ []) (fixed_of 4 (block_sum Crc32c block 0)));
}

-- the handle of a block that is put behind others
pub handle-behind : (blocks : List (List ℕ)) (old block : List ℕ) → old ≡ flat_map stored blocks → record { offset = length old; size = length block } ≡ handle_behind blocks block
handle-behind blocks old block was i = record { offset = (ap length was ∙ length-stored_blocks blocks) i; size = length block }

pub Puts-new : (blocks : List (List ℕ)) (old block new : List ℕ) (handle : Handle) → Puts old block handle new → old ≡ flat_map stored blocks → new ≡ flat_map stored (blocks ++ block ∷ [])
Puts-new blocks old block new handle puts was = puts.added ∙ ap (λ old. old ++ stored block) was ∙ sym (flat_map-stored blocks block)

-- the end of a table, where there is no range deletions' block or where there is one
pub Ends-written : (out₀ out₁ out₂ out₃ out₄ table : List ℕ) (ranges : Option (List ℕ)) (ranges_handle : Option Handle) (properties metaindex index : List ℕ) (properties_handle metaindex_handle index_handle : Handle) → PutsAny out₀ ranges ranges_handle out₁
    → Puts out₁ properties properties_handle out₂ → metaindex ≡ block_bytes 1 (metaindex_entries properties_handle ranges_handle) → Puts out₂ metaindex metaindex_handle out₃ → Puts out₃ index index_handle out₄
    → table ≡ out₄ ++ footer_bytes metaindex_handle index_handle → EndsWith out₀ ranges properties index table
Ends-written out₀ out₁ out₂ out₃ out₄ table ranges ranges_handle properties metaindex index properties_handle metaindex_handle index_handle puts puts_properties metaindex_is puts_metaindex puts_index ends = record {
  joined = λ data_blocks was. by ranges ranges_handle data_blocks was puts metaindex_is;
}
  where
    rest : (data_blocks some : List (List ℕ)) → out₁ ≡ flat_map stored (data_blocks ++ some) → metaindex ≡ metaindex_block data_blocks some properties → table ≡ joined_table (data_blocks ++ some ++ properties ∷ []) (metaindex_block data_blocks some properties) index
    rest data_blocks some was meta_is =
        let front : List (List ℕ) = data_blocks ++ some ++ properties ∷ [] in
        let second : out₂ ≡ flat_map stored front = Puts-new (data_blocks ++ some) out₁ properties out₂ properties_handle puts_properties was in
        let third : out₃ ≡ flat_map stored (front ++ metaindex ∷ []) = Puts-new front out₂ metaindex out₃ metaindex_handle puts_metaindex second in
        let fourth : out₄ ≡ flat_map stored (front ++ metaindex ∷ [] ++ index ∷ []) = Puts-new (front ++ metaindex ∷ []) out₃ index out₄ index_handle puts_index third in
        let metaindex_at : metaindex_handle ≡ handle_behind front metaindex = puts_metaindex.at ∙ handle-behind front out₂ metaindex second in
        let index_at : index_handle ≡ handle_behind (front ++ metaindex ∷ []) index = puts_index.at ∙ handle-behind (front ++ metaindex ∷ []) out₃ index third in
        ends
        ∙ (λ i. (fourth ∙ ap (flat_map stored) (append_assoc front (metaindex ∷ []) (index ∷ []))) i ++ footer_bytes (metaindex_at i) (index_at i))
        ∙ ap (λ metaindex. joined_table front metaindex index) meta_is

    by : (ranges : Option (List ℕ)) (ranges_handle : Option Handle) (data_blocks : List (List ℕ)) → out₀ ≡ flat_map stored data_blocks → PutsAny out₀ ranges ranges_handle out₁ → metaindex ≡ block_bytes 1 (metaindex_entries properties_handle ranges_handle)
        → table ≡ joined_table (data_blocks ++ blocks_of ranges ++ properties ∷ []) (metaindex_block data_blocks (blocks_of ranges) properties) index
    by None None data_blocks was puts meta_is =
        let none : data_blocks ≡ data_blocks ++ [] = sym (append-nil data_blocks) in
        let second : out₁ ≡ flat_map stored (data_blocks ++ []) = puts ∙ was ∙ ap (flat_map stored) none in
        let at : properties_handle ≡ handle_behind (data_blocks ++ []) properties = puts_properties.at ∙ handle-behind (data_blocks ++ []) out₁ properties second in
        rest data_blocks [] second (meta_is ∙ ap (λ handle. block_bytes 1 (metaindex_entries handle None)) at)
    by (Some block) (Some handle) data_blocks was puts meta_is =
        let first : handle ≡ handle_behind data_blocks block = puts.at ∙ handle-behind data_blocks out₀ block was in
        let second : out₁ ≡ flat_map stored (data_blocks ++ block ∷ []) = Puts-new data_blocks out₀ block out₁ handle puts was in
        let at : properties_handle ≡ handle_behind (data_blocks ++ block ∷ []) properties = puts_properties.at ∙ handle-behind (data_blocks ++ block ∷ []) out₁ properties second in
        rest data_blocks (block ∷ []) second (meta_is ∙ (λ i. block_bytes 1 (metaindex_entries (at i) (Some (first i)))))
    by None (Some handle) data_blocks was puts meta_is = elim puts [ ]
    by (Some block) None data_blocks was puts meta_is = elim puts [ ]

pub length-varint64 : (n : ℕ) → n < 2 ^ 64 → length (varint_of n) ≤ 10
length-varint64 n fits = (IsVarint64-varint_of n fits).short

-- a handle has at most 20 bytes
pub length-handle : (handle : Handle) → handle.offset < 2 ^ 64 → handle.size < 2 ^ 64 → length (handle_bytes handle) ≤ 20
length-handle handle offset_fits size_fits =
    omega (arith, length-append (varint_of handle.offset) (varint_of handle.size), length-varint64 handle.offset offset_fits, length-varint64 handle.size size_fits)

-- one entry more behind others
pub added-more : (old mid new : Building) (front : List KeyValue) (entry : KeyValue) → mid ≡ with_entries old front → new ≡ with_entry mid entry.0 entry.1 → new ≡ with_entries old (front ++ entry ∷ [])
added-more old mid new front entry before is =
    is ∙ ap (λ (mid : Building). with_entry mid entry.0 entry.1) before ∙ ap (λ (entries : List KeyValue). record old { entries = entries }) (append_assoc old.entries front (entry ∷ []))

pub added-last : (result : Result (Unit {0}) Memory) (old mid new : Building) (front : List KeyValue) (entry : KeyValue) → mid ≡ with_entries old front → OnOk result (new ≡ with_entry mid entry.0 entry.1) → OnOk result (new ≡ with_entries old (front ++ entry ∷ []))
added-last (Ok done) old mid new front entry before is = added-more old mid new front entry before is
added-last (Err memory) old mid new front entry before is = is
