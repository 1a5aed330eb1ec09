-- What a run wants, and what a fault leaves to find out.
use Rattle.std.specs.Prelude.{◌||◌, nat_le, codes}
use Rattle.std.specs.List.{list_all}
use Rattle.std.proofs.Common.{◌≡◌, ℕ, cond, List, ◌∷◌, ◌++◌, length, take, Some, None, Result, Ok, Err, refl, sym, ap, subst, ◌∙◌}
use Rattle.rk_bytes.specs.declared.model.block.Handle.{Handle}
use Rattle.rk_bytes.specs.declared.model.block.IndexEntry.{IndexEntry}
use Rattle.rk_bytes.specs.declared.model.table.Footer.{Footer}
use Rattle.rk_bytes.specs.declared.model.table.TableWhy.TheVariants.{BadKey, BadSeparator}
use Rattle.rk_bytes.specs.declared.model.table.TrailerFault.{TrailerFault}
use Rattle.rk_bytes.specs.Model.Numbers.{◌>>=◌}
use Rattle.rk_bytes.specs.Model.BlockEntries.{with_fault, whole_handles, block_entries, index_entries}
use Rattle.rk_bytes.specs.Model.TableFooter.{checked_block}
use Rattle.rk_bytes.specs.Model.TableStatus.{TableFault, damaged, reader_of, trailer_status, held, handle_named, index_status, block_status, range_status, property_list, range_list, properties_at, tested_properties, index_at, is_set, user_separators, delta_values, records_after, last_key, are_separated, data_block, data_records, good}
use Rattle.rk_meta.specs.declared.want.Want.TheVariants as want
use Rattle.rk_table.specs.declared.status.Status.{Status}
use Rattle.rk_table.specs.declared.stage.Stage.{Stage}
use Rattle.rk_table.specs.declared.stage.Stage.TheVariants.{Tail, Metaindex, Properties, Ranges, Index, Data, Ended}
use Rattle.rk_table.specs.Stages.{left_of, after_metaindex, after_properties, after_ranges, with_entries, separator_before}
use Rattle.rk_table.specs.Steps.{IsSound, want_at, block_wanted, Hands}
use Rattle.rk_table.specs.Runs.{fault_at}
use Rattle.rk_table.proofs.StageLemmas.{metas_left}
use Rattle.rk_table.proofs.DataLemmas.{split_at}

-- where nothing is wanted, the reading has ended
pub nothing_left : (len : ℕ) (stage : Stage) → IsSound stage → want_at len stage ≡ want.Nothing → ((status : Status) → stage ≡ Ended status → ⊥) → ⊥
nothing_left len Tail sound e other = absurd cc
nothing_left len (Metaindex footer) sound e other = absurd cc
nothing_left len (Properties footer at ranges_at) sound e other = absurd cc
nothing_left len (Ranges footer properties at) sound e other = absurd cc
nothing_left len (Index footer properties ranges) sound e other = absurd cc
nothing_left len (Data footer table number) sound e other =
    let (at, later, dropped) = split_at number table.index sound.within in
    let is : want.Block at.block footer.start footer.sum ≡ want.Nothing = ap (block_wanted footer) (sym dropped) ∙ e in
    absurd cc
nothing_left len (Ended status) sound e other = other status refl

-- a block that doesn't read
reads_none : (table : List ℕ) (footer : Footer) (handle : Handle) (fault : TrailerFault) → checked_block (take footer.start table) handle footer.sum ≡ Err fault → reader_of table footer handle ≡ Err (trailer_status handle.offset fault)
reads_none table footer handle fault e = ap (with_fault (trailer_status handle.offset)) e

held_none : {A F : Type 0} (table : List ℕ) (footer : Footer) (status : ℕ → F → TableFault) (parse : List ℕ → Result A F) (handle : Handle) (fault : TrailerFault) → checked_block (take footer.start table) handle footer.sum ≡ Err fault → held (reader_of table footer) status parse handle ≡ Err (trailer_status handle.offset fault)
held_none table footer status parse handle fault e = ap (λ r. r >>= (λ block. with_fault (status handle.offset) (parse block))) (reads_none table footer handle fault e)

-- what follows on a fault is that fault
stops : {A B : Type 0} (r : Result A TableFault) (fault : TableFault) (f : A → Result B TableFault) → r ≡ Err fault → (r >>= f) ≡ Err fault
stops r fault f e = ap (λ r. r >>= f) e

-- the fault of the wanted block is that of the table
pub fault_left : (len : ℕ) (stage : Stage) (table : List ℕ) (fault : TrailerFault) (told : TableFault) → IsSound stage → Hands table (want_at len stage) (Err fault) → fault_at (want_at len stage) fault ≡ Some told → left_of stage table ≡ Err told
fault_left len Tail table fault told sound hands e = absurd hands
fault_left len (Metaindex footer) table fault told sound hands e =
    let same : trailer_status footer.metaindex.offset fault ≡ told = cc in
    let block_of = reader_of table footer in
    metas_left block_of footer ∙ stops (held block_of index_status whole_handles footer.metaindex) told (λ metas. after_metaindex block_of footer (handle_named (codes "rocksdb.properties") metas) (handle_named (codes "rocksdb.range_del") metas))
    (held_none table footer index_status whole_handles footer.metaindex fault hands ∙ ap Err same)
fault_left len (Properties footer at ranges_at) table fault told sound hands e =
    let same : trailer_status at.offset fault ≡ told = cc in
    let block_of = reader_of table footer in
    stops (properties_at block_of at) told (after_properties block_of footer ranges_at)
    (stops (held block_of block_status property_list at) told (tested_properties at.offset) (held_none table footer block_status property_list at fault hands ∙ ap Err same))
fault_left len (Ranges footer properties at) table fault told sound hands e =
    let same : trailer_status at.offset fault ≡ told = cc in
    let block_of = reader_of table footer in
    stops (held block_of range_status range_list at) told (after_ranges block_of footer properties) (held_none table footer range_status range_list at fault hands ∙ ap Err same)
fault_left len (Index footer properties ranges) table fault told sound hands e =
    let same : trailer_status footer.index.offset fault ≡ told = cc in
    let block_of = reader_of table footer in
    let delta = is_set (delta_values properties) in
    stops (index_at block_of properties footer.index) told (λ index. data_records block_of (is_set (user_separators properties)) None None index >>= (λ entries. Ok (good footer properties ranges index entries).table))
    (stops (held block_of index_status (index_entries delta) footer.index) told (λ index. cond (is_set (user_separators properties) || list_all (λ entry. nat_le 8 (length entry.separator)) index) (Ok index) (Err (damaged BadKey footer.index.offset)))
    (held_none table footer index_status (index_entries delta) footer.index fault hands ∙ ap Err same))
fault_left len (Data footer so_far number) table fault told sound hands e =
    let (at, later, dropped) = split_at number so_far.index sound.within in
    let hands' = subst (λ (index : List IndexEntry). Hands table (block_wanted footer index) (Err fault)) dropped hands in
    let e' : Some (trailer_status at.block.offset fault) ≡ Some told = ap (λ (index : List IndexEntry). fault_at (block_wanted footer index) fault) (sym dropped) ∙ e in
    let same : trailer_status at.block.offset fault ≡ told = cc in
    let block_of = reader_of table footer in
    let lower = separator_before number so_far.index in
    ap (λ (index : List IndexEntry). data_records block_of so_far.user_keys so_far.largest lower index >>= (λ entries. Ok (with_entries so_far entries))) dropped
    ∙ stops (data_records block_of so_far.user_keys so_far.largest lower (at ∷ later)) told (λ entries. Ok (with_entries so_far entries))
    (stops (data_block block_of so_far.user_keys so_far.largest lower at) told (λ records. data_records block_of so_far.user_keys (last_key records) (Some at.separator) later >>= (λ more. Ok (records ++ more)))
    (stops (held block_of block_status block_entries at.block) told (λ entries. records_after at.block.offset so_far.largest entries >>= (λ records. cond (are_separated so_far.user_keys lower at.separator records) (Ok records) (Err (damaged BadSeparator at.block.offset))))
    (held_none table footer block_status block_entries at.block fault hands' ∙ ap Err same)))
fault_left len (Ended status) table fault told sound hands e = absurd hands
