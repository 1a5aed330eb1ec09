-- A block that is handed in is the one that the definition reads.
use Rattle.std.proofs.Common.{◌≡◌, ℕ, List, [], ◌∷◌, map, find, Some, None, Bool, true, false, cond, Result, Ok, Err, refl, sym, ap, ◌∙◌}
use Rattle.std.specs.Prelude.{take, option_map, bytes_eq, codes}
use Rattle.rk_bytes.specs.declared.model.block.Handle.{Handle}
use Rattle.rk_bytes.specs.declared.model.block.IndexEntry.{IndexEntry}
use Rattle.rk_bytes.specs.declared.model.block.IndexFault.{IndexFault}
use Rattle.rk_bytes.specs.declared.model.table.Footer.{Footer}
use Rattle.rk_bytes.specs.declared.model.table.TableRef.{TableRef}
use Rattle.rk_bytes.specs.Model.Numbers.{◌>>=◌}
use Rattle.rk_bytes.specs.Model.BlockEntries.{Entry, with_fault, whole_handles, index_entry, index_entries}
use Rattle.rk_bytes.specs.Model.TableFooter.{checked_block}
use Rattle.rk_bytes.specs.Model.TableStatus.{TableFault, Good, BlockReader, reader_of, trailer_status, held, list_of, handle_named, index_status, range_status, range_list, properties_at, index_at, is_set, user_separators, data_records, good, table_with}
use Rattle.std.specs.Prelude.{IfOk}
use Rattle.rk_bytes.specs.Model.TableStatus.{damaged, unsupported}
use Rattle.rk_table.specs.declared.status.WalkErr.{WalkErr}
use Rattle.rk_table.specs.declared.status.WalkErr.TheVariants as err
use Rattle.rk_table.specs.declared.stage.Stage.{Stage}
use Rattle.rk_table.specs.Told.{known, Tells}
use Rattle.rk_table.specs.Steps.{meta_named, stopped_at, want_at, Hands, Continues}
use Rattle.rk_table.specs.Stages.{left_of, after_metaindex}

-- what the reader of a table gives, where the table has this block
pub reads : (table : List ℕ) (footer : Footer) (handle : Handle) (block : List ℕ) → checked_block (take footer.start table) handle footer.sum ≡ Ok block → reader_of table footer handle ≡ Ok block
reads table footer handle block e = ap (with_fault (trailer_status handle.offset)) e

pub held_is : {A F : Type 0} (block_of : BlockReader) (status : ℕ → F → TableFault) (parse : List ℕ → Result A F) (handle : Handle) (block : List ℕ) → block_of handle ≡ Ok block → held block_of status parse handle ≡ with_fault (status handle.offset) (parse block)
held_is block_of status parse handle block e = ap (λ r. r >>= (λ block. with_fault (status handle.offset) (parse block))) e

-- one step of reading, and what follows on it
step : {A H F : Type 0} (r : Result A F) (f : A → Result H F) (k : H → Result Good F) (known' : Result Good F → Result TableRef F) (g : A → Result TableRef F) → ((fault : F) → known' (Err fault) ≡ Err fault) → ((a : A) → known' (f a >>= k) ≡ g a) → known' ((r >>= f) >>= k) ≡ (r >>= g)
step (Ok a) f k known' g stays each = each a
step (Err fault) f k known' g stays each = stays fault

last_step : {A : Type 0} (r : Result A TableFault) (made : A → Good) → known (r >>= (λ a. Ok (made a))) ≡ (r >>= (λ a. Ok (made a).table))
last_step (Ok a) made = refl
last_step (Err fault) made = refl

-- a metaindex's handle under a name, among its entries as an index shows them
metas_named : (name : List ℕ) (entries : List (Entry Handle)) → handle_named name entries ≡ meta_named name (map index_entry entries)
metas_named name [] = refl
metas_named name (entry ∷ entries) = by (bytes_eq entry.key name) (metas_named name entries)
  where
    by : (found : Bool) → handle_named name entries ≡ meta_named name (map index_entry entries) → option_map (λ entry. entry.value) (cond found (Some entry) (find (λ entry. bytes_eq entry.key name) entries)) ≡ option_map (λ meta. meta.block) (cond found (Some (index_entry entry)) (find (λ meta. bytes_eq meta.separator name) (map index_entry entries)))
    by true later = refl
    by false later = later

-- what is left where the metaindex is to be read
pub metas_left : (block_of : BlockReader) (footer : Footer) → known (table_with block_of footer) ≡ (held block_of index_status whole_handles footer.metaindex >>= (λ metas. after_metaindex block_of footer (handle_named (codes "rocksdb.properties") metas) (handle_named (codes "rocksdb.range_del") metas)))
unfolding table_with
metas_left block_of footer =
    step (held block_of index_status whole_handles footer.metaindex) _ _ known _ (λ fault. refl) (λ metas.
    step (list_of (properties_at block_of) (handle_named (codes "rocksdb.properties") metas)) _ _ known _ (λ fault. refl) (λ properties.
    step (list_of (held block_of range_status range_list) (handle_named (codes "rocksdb.range_del") metas)) _ _ known _ (λ fault. refl) (λ ranges.
    step (index_at block_of properties footer.index) _ _ known _ (λ fault. refl) (λ index.
    last_step (data_records block_of (is_set (user_separators properties)) None None index) (good footer properties ranges index)))))

-- the metaindex as an index shows it
metas_ok : (word : IndexFault → TableFault) (r : Result (List (Entry Handle)) IndexFault) (metas : List IndexEntry) → with_fault word (r >>= (λ entries. Ok (map index_entry entries))) ≡ Ok metas → (entries : List (Entry Handle)) × (with_fault word r ≡ Ok entries) × (metas ≡ map index_entry entries)
metas_ok word (Ok entries) metas e = (entries, refl, cc)
metas_ok word (Err fault) metas e = absurd cc

metas_err : (word : IndexFault → TableFault) (r : Result (List (Entry Handle)) IndexFault) (fault : TableFault) → with_fault word (r >>= (λ entries. Ok (map index_entry entries))) ≡ Err fault → with_fault word r ≡ Err fault
metas_err word (Ok entries) fault e = absurd cc
metas_err word (Err other) fault e = cc

pub metaindex_read : (block_of : BlockReader) (footer : Footer) (block : List ℕ) (metas : List IndexEntry) → block_of footer.metaindex ≡ Ok block → with_fault (index_status footer.metaindex.offset) (index_entries false block) ≡ Ok metas → known (table_with block_of footer) ≡ after_metaindex block_of footer (meta_named (codes "rocksdb.properties") metas) (meta_named (codes "rocksdb.range_del") metas)
unfolding index_entries
metaindex_read block_of footer block metas handed told =
    let read = metas_ok (index_status footer.metaindex.offset) (whole_handles block) metas told in
    let is = held_is block_of index_status whole_handles footer.metaindex block handed ∙ read.1 in
    let at : (name : List ℕ) → handle_named name read.0 ≡ meta_named name metas = λ name. metas_named name read.0 ∙ ap (meta_named name) (sym read.2) in
    metas_left block_of footer
    ∙ ap (λ r. r >>= (λ metas. after_metaindex block_of footer (handle_named (codes "rocksdb.properties") metas) (handle_named (codes "rocksdb.range_del") metas))) is
    ∙ (λ i. after_metaindex block_of footer (at (codes "rocksdb.properties") i) (at (codes "rocksdb.range_del") i))

pub metaindex_faulty : (block_of : BlockReader) (footer : Footer) (block : List ℕ) (fault : TableFault) → block_of footer.metaindex ≡ Ok block → with_fault (index_status footer.metaindex.offset) (index_entries false block) ≡ Err fault → known (table_with block_of footer) ≡ Err fault
unfolding index_entries
metaindex_faulty block_of footer block fault handed told =
    metas_left block_of footer
    ∙ ap (λ r. r >>= (λ metas. after_metaindex block_of footer (handle_named (codes "rocksdb.properties") metas) (handle_named (codes "rocksdb.range_del") metas)))
    (held_is block_of index_status whole_handles footer.metaindex block handed ∙ metas_err (index_status footer.metaindex.offset) (whole_handles block) fault told)

-- Reading stops with the fault that is left to find out, or at the stage as it was.
pub stopped_continues : {A : Type 0} (stage : Stage) (block : List ℕ) (told : Result A TableFault) (error : WalkErr) → Tells {A = A} (Err error) told
    → ((fault : TableFault) → told ≡ Err fault → (len : ℕ) (table : List ℕ) → Hands table (want_at len stage) (Ok block) → left_of stage table ≡ Err fault)
    → IfOk (stopped_at error stage) (Continues stage block)
stopped_continues stage block told (err.Damaged why place) is left = λ len table hands. sym (left (damaged why place) is len table hands)
stopped_continues stage block told (err.Unsupported what) is left = λ len table hands. sym (left (unsupported what) is len table hands)
stopped_continues stage block told err.Memory is left = tt
