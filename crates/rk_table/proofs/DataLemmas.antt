-- The data blocks of a table, one after another.
use Rattle.std.proofs.Common.{◌≡◌, ℕ, zero, suc, ◌+◌, ◌-◌, ◌^◌, ◌<◌, ◌≤◌, Bool, true, false, cond, List, [], ◌∷◌, ◌++◌, length, map, fold, take, drop, min, max, Option, Some, None, Result, Ok, Err, refl, sym, ◌∙◌, ap, subst, arith}
use Rattle.std.proofs.lemmas.List.{length-append, drop_all}
use Rattle.std.specs.Prelude.{unwrap_or, nat_le, ◌&&◌, ◌||◌}
use Rattle.std.specs.List.{last_or, reduce, list_all, AllByRecursion}
use Rattle.std.proofs.lemmas.Bool.{leb-true}
use Rattle.std.specs.Ordering.{is_gt, is_lt, ordering_reverse}
use Rattle.std.specs.declared.cmp.Ordering.{Ordering}
use Rattle.std.specs.declared.cmp.Ordering.TheVariants.{Less, Equal, Greater}
use Rattle.std.specs.Cmp.{IsTotalOrder, on_total, back_total, then_total, nat_cmp_total, upto, tied_itself}
use Rattle.std.specs.Cmp.Lexicographic.{nat_list_cmp_total}
use Rattle.rk_bytes.specs.declared.model.block.IndexEntry.{IndexEntry}
use Rattle.rk_bytes.specs.declared.model.block.Property.{Property}
use Rattle.rk_bytes.specs.declared.model.block.RangeDel.{RangeDel}
use Rattle.rk_bytes.specs.declared.model.table.Footer.{Footer}
use Rattle.rk_bytes.specs.declared.model.table.TableRef.{TableRef}
use Rattle.rk_bytes.specs.declared.model.table.TableWhy.TheVariants.{BadKey, BadSeparator}
use Rattle.rk_bytes.specs.Model.Numbers.{◌>>=◌}
use Rattle.rk_bytes.specs.Model.BlockEntries.{Entry, with_fault, block_entries, index_entries}
use Rattle.rk_bytes.proofs.Callers.Readings.{both_steps, taken}
use Rattle.rk_bytes.specs.Model.InternalKey.{user_key, packed, key_cmp}
use Rattle.rk_bytes.specs.Model.TableStatus.{TableFault, damaged, BlockReader, DataEntry, index_status, block_status, is_set, user_separators, delta_values, is_above, reader_of, records_after, last_key, are_separated, data_block, data_records, start_key, end_key, lesser, greater, good}
use Rattle.rk_table.specs.declared.bounds.Bounds.{Bounds}
use Rattle.rk_table.specs.declared.records.Records.{Records}
use Rattle.rk_table.specs.Stages.{listed, with_entries, separator_before, after_blocks}
use Rattle.rk_table.specs.Steps.{AreBounds, IsBefore, Hands, block_wanted}
use Rattle.rk_table.specs.Blocks.{data_told, Rise, top_with, AreRecords}
use Rattle.rk_table.specs.Data.{index_told, new_table, advanced, closed, AreRangeBounds}
use Rattle.rk_table.proofs.StageLemmas.{held_is, reads}
use Rattle.rk_table.proofs.WalkLemmas.{last_of_more}

key_cmp-total : IsTotalOrder key_cmp
key_cmp-total = then_total (on_total user_key nat_list_cmp_total) (back_total (on_total packed nat_cmp_total))

-- what an ordering is when it is turned
turned : (r s : Ordering) → r ≡ ordering_reverse s → is_gt s ≡ true → (is_lt r ≡ true) × (is_gt r ≡ false)
turned r Less e above = absurd cc
turned r Equal e above = absurd cc
turned r Greater e above = (ap is_lt e, ap is_gt e)

below : (lower key : List ℕ) → is_above key_cmp key (Some lower) ≡ true → (is_lt (key_cmp lower key) ≡ true) × (is_gt (key_cmp lower key) ≡ false)
below lower key above = turned (key_cmp lower key) (key_cmp key lower) (key_cmp-total.antisymm lower key) above

-- the least key stays the least over rising keys
stays_least : (least last : List ℕ) (entries : List DataEntry) → is_gt (key_cmp least last) ≡ false → Rise (Some last) entries → fold lesser least (map (λ (entry : DataEntry). entry.key) entries) ≡ least
stays_least least last [] upto' rise = refl
stays_least least last (entry ∷ entries) upto' rise =
    let under = upto key_cmp-total least last entry.key upto' (below last entry.key rise.1).1 in
    ap (λ (test : Bool). fold lesser (cond test entry.key least) (map (λ (entry : DataEntry). entry.key) entries)) under ∙ stays_least least entry.key entries under rise.2

-- and at most the last
least_last : (least last : List ℕ) (entries : List DataEntry) → is_gt (key_cmp least last) ≡ false → Rise (Some last) entries → is_gt (key_cmp least (unwrap_or (last_key entries) last)) ≡ false
least_last least last [] upto' rise = upto'
least_last least last (entry ∷ entries) upto' rise =
    let under = upto key_cmp-total least last entry.key upto' (below last entry.key rise.1).1 in
    subst (λ (key : List ℕ). is_gt (key_cmp least key) ≡ false) (sym (last_of_more entry.key last (map (λ (entry : DataEntry). entry.key) entries))) (least_last least entry.key entries under rise.2)

-- the greatest of rising keys is the last
grows : (last : List ℕ) (entries : List DataEntry) → Rise (Some last) entries → fold greater last (map (λ (entry : DataEntry). entry.key) entries) ≡ unwrap_or (last_key entries) last
grows last [] rise = refl
grows last (entry ∷ entries) rise =
    ap (λ (test : Bool). fold greater (cond test entry.key last) (map (λ (entry : DataEntry). entry.key) entries)) (below last entry.key rise.1).0
    ∙ grows entry.key entries rise.2
    ∙ sym (last_of_more entry.key last (map (λ (entry : DataEntry). entry.key) entries))

itself : (key : List ℕ) → is_gt (key_cmp key key) ≡ false
itself key = ap is_gt (tied_itself key_cmp-total key)

-- the rest of a fold over keys
fold_on : (f : List ℕ → List ℕ → List ℕ) (key : List ℕ) (entries more : List DataEntry) (others : List (List ℕ)) → fold f key (map (λ (entry : DataEntry). entry.key) (entries ++ more) ++ others) ≡ fold f (fold f key (map (λ (entry : DataEntry). entry.key) entries)) (map (λ (entry : DataEntry). entry.key) more ++ others)
fold_on f key [] more others = refl
fold_on f key (entry ∷ entries) more others = fold_on f (f key entry.key) entries more others

least_so_far : (smallest largest : Option (List ℕ)) (first : DataEntry) (more rest : List DataEntry) (others : List (List ℕ)) → AreBounds smallest largest → Rise largest (first ∷ more)
    → reduce lesser (listed smallest ++ (map (λ (entry : DataEntry). entry.key) ((first ∷ more) ++ rest) ++ others)) ≡ reduce lesser (listed (Some (unwrap_or smallest first.key)) ++ (map (λ (entry : DataEntry). entry.key) rest ++ others))
least_so_far None None first more rest others bounds rise =
    ap Some (fold_on lesser first.key more rest others ∙ ap (λ key. fold lesser key (map (λ (entry : DataEntry). entry.key) rest ++ others)) (stays_least first.key first.key more (itself first.key) rise.2))
least_so_far (Some smallest) (Some largest) first more rest others bounds rise =
    ap Some (fold_on lesser smallest (first ∷ more) rest others ∙ ap (λ key. fold lesser key (map (λ (entry : DataEntry). entry.key) rest ++ others)) (stays_least smallest largest (first ∷ more) bounds.2 rise))
least_so_far None (Some largest) first more rest others bounds rise = absurd bounds
least_so_far (Some smallest) None first more rest others bounds rise = absurd bounds

most_so_far : (largest : Option (List ℕ)) (first : DataEntry) (more rest : List DataEntry) (others : List (List ℕ)) → Rise largest (first ∷ more)
    → reduce greater (listed largest ++ (map (λ (entry : DataEntry). entry.key) ((first ∷ more) ++ rest) ++ others)) ≡ reduce greater (listed (Some (unwrap_or (last_key more) first.key)) ++ (map (λ (entry : DataEntry). entry.key) rest ++ others))
most_so_far None first more rest others rise =
    ap Some (fold_on greater first.key more rest others ∙ ap (λ key. fold greater key (map (λ (entry : DataEntry). entry.key) rest ++ others)) (grows first.key more rise.2))
most_so_far (Some largest) first more rest others rise =
    ap Some (fold_on greater largest (first ∷ more) rest others
    ∙ ap (λ key. fold greater key (map (λ (entry : DataEntry). entry.key) rest ++ others)) (grows largest (first ∷ more) rise ∙ last_of_more first.key largest (map (λ (entry : DataEntry). entry.key) more)))

-- the greatest number of a list, and of a number besides
fold_max : (t s : ℕ) (xs : List ℕ) → fold max (max t s) xs ≡ max t (fold max s xs)
fold_max t s [] = refl
fold_max t s (x ∷ xs) = let e : max (max t s) x ≡ max t (max s x) = omega arith in ap (λ n. fold max n xs) e ∙ fold_max t (max s x) xs

top_on : (t : ℕ) (entries more : List DataEntry) (others : List ℕ) → fold max t (map (λ (entry : DataEntry). entry.parts.sequence) (entries ++ more) ++ others) ≡ fold max (fold max t (map (λ (entry : DataEntry). entry.parts.sequence) entries)) (map (λ (entry : DataEntry). entry.parts.sequence) more ++ others)
top_on t [] more others = refl
top_on t (entry ∷ entries) more others = top_on (max t entry.parts.sequence) entries more others

top_so_far : (t : ℕ) (entries more : List DataEntry) (others : List ℕ) → fold max t (map (λ (entry : DataEntry). entry.parts.sequence) (entries ++ more) ++ others) ≡ fold max (max t (top_with 0 entries)) (map (λ (entry : DataEntry). entry.parts.sequence) more ++ others)
top_so_far t entries more others =
    let zero' : t ≡ max t 0 = omega arith in
    top_on t entries more others
    ∙ ap (λ n. fold max n (map (λ (entry : DataEntry). entry.parts.sequence) more ++ others)) (ap (λ n. fold max n (map (λ (entry : DataEntry). entry.parts.sequence) entries)) zero' ∙ fold_max t 0 (map (λ (entry : DataEntry). entry.parts.sequence) entries))

entries_so_far : (n counted : ℕ) (entries more : List DataEntry) → counted ≡ min (length entries) (2 ^ 64 - 1) → min (n + length (entries ++ more)) (2 ^ 64 - 1) ≡ min (min (n + counted) (2 ^ 64 - 1) + length more) (2 ^ 64 - 1)
entries_so_far n counted entries more e = let both = length-append entries more in omega arith

-- What is known after a block's records, with those after them, is what was known before, with all of them.
joined : (table : TableRef) (records : Records) (told : Result (List DataEntry) TableFault) (are : AreRecords table.largest told records) (rest : List DataEntry) → AreBounds table.smallest table.largest → with_entries table ((are.first ∷ are.more) ++ rest) ≡ with_entries (advanced table records) rest
joined table records told are rest bounds =
    let entries' = entries_so_far table.entries records.entries (are.first ∷ are.more) rest are.entries_are in
    let least' = least_so_far table.smallest table.largest are.first are.more rest (map start_key table.ranges) bounds are.rise
    ∙ ap (λ key. reduce lesser (listed (Some (unwrap_or table.smallest key)) ++ (map (λ (entry : DataEntry). entry.key) rest ++ map start_key table.ranges))) (sym are.first_is) in
    let most' = most_so_far table.largest are.first are.more rest (map end_key table.ranges) are.rise
    ∙ ap (λ key. reduce greater (listed (Some key) ++ (map (λ (entry : DataEntry). entry.key) rest ++ map end_key table.ranges))) (sym are.last_is) in
    let top' = top_so_far table.top (are.first ∷ are.more) rest (map (λ (range : RangeDel). range.sequence) table.ranges)
    ∙ ap (λ n. fold max (max table.top n) (map (λ (entry : DataEntry). entry.parts.sequence) rest ++ map (λ (range : RangeDel). range.sequence) table.ranges)) (sym are.top_is) in
    λ i. record (with_entries (advanced table records) rest) { entries = entries' i; smallest = least' i; largest = most' i; top = top' i }

-- a data block that the table has
block_is : (block_of : BlockReader) (by_user : Bool) (before lower : Option (List ℕ)) (at : IndexEntry) (block : List ℕ) → block_of at.block ≡ Ok block → data_block block_of by_user before lower at ≡ data_told by_user before lower at block
block_is block_of by_user before lower at block handed =
    ap (λ r. r >>= (λ entries. records_after at.block.offset before entries >>= (λ records. cond (are_separated by_user lower at.separator records) (Ok records) (Err (damaged BadSeparator at.block.offset))))) (held_is block_of block_status block_entries at.block block handed)
    ∙ by (with_fault (block_status at.block.offset) (block_entries block))
  where
    by : (r : Result (List (Entry (List ℕ))) TableFault) → (r >>= (λ entries. records_after at.block.offset before entries >>= (λ records. cond (are_separated by_user lower at.separator records) (Ok records) (Err (damaged BadSeparator at.block.offset))))) ≡ ((r >>= (λ entries. records_after at.block.offset before entries)) >>= (λ records. cond (are_separated by_user lower at.separator records) (Ok records) (Err (damaged BadSeparator at.block.offset))))
    by (Ok entries) = refl
    by (Err fault) = refl

-- the index from its data block with this number on
last_there : (o : Option (List ℕ)) (xs : List (List ℕ)) (x : List ℕ) → last_or None xs ≡ Some x → last_or o xs ≡ Some x
last_there o [] x e = absurd cc
last_there o (y ∷ xs) x e = e

pub later_suc : (n : ℕ) (index later : List IndexEntry) (at : IndexEntry) → drop n index ≡ at ∷ later → (drop (suc n) index ≡ later) × (separator_before (suc n) index ≡ Some at.separator)
later_suc zero index later at e = subst (λ (index : List IndexEntry). (drop 1 index ≡ later) × (separator_before 1 index ≡ Some at.separator)) (sym e) (refl, refl)
later_suc (suc n) [] later at e = absurd cc
later_suc (suc n) (x ∷ index) later at e = let (rest, separator) = later_suc n index later at e in (rest, last_there (Some x.separator) (map (λ (at : IndexEntry). at.separator) (take (suc n) index)) at.separator separator)

pub later_is : (index later : List IndexEntry) (number : ℕ) (at : IndexEntry) → drop number index ≡ at ∷ later → (drop (number + 1) index ≡ later) × (separator_before (number + 1) index ≡ Some at.separator)
later_is index later number at e =
    let one : suc number ≡ number + 1 = omega arith in
    subst (λ (n : ℕ). (drop n index ≡ later) × (separator_before n index ≡ Some at.separator)) one (later_suc number index later at e)

rest_is : (table : TableRef) (records : Records) (told : Result (List DataEntry) TableFault) (are : AreRecords table.largest told records) → AreBounds table.smallest table.largest → (r : Result (List DataEntry) TableFault)
    → ((r >>= (λ more. Ok ((are.first ∷ are.more) ++ more))) >>= (λ entries. Ok (with_entries table entries))) ≡ (r >>= (λ entries. Ok (with_entries (advanced table records) entries)))
rest_is table records told are bounds (Ok rest) = ap Ok (joined table records told are rest bounds)
rest_is table records told are bounds (Err fault) = refl

-- As much is left after a block's records as before them.
pub advance : (block_of : BlockReader) (table : TableRef) (number : ℕ) (at : IndexEntry) (later : List IndexEntry) (block : List ℕ) (records : Records) → drop number table.index ≡ at ∷ later → block_of at.block ≡ Ok block
    → AreRecords table.largest (data_told table.user_keys table.largest (separator_before number table.index) at block) records → AreBounds table.smallest table.largest
    → after_blocks block_of table number ≡ after_blocks block_of (advanced table records) (number + 1)
advance block_of table number at later block records dropped handed are bounds =
    let lower = separator_before number table.index in
    let (dropped', separator) = later_is table.index later number at dropped in
    let last : last_key (are.first ∷ are.more) ≡ Some records.last = ap (λ (o : Option (List ℕ)). o) (last_is are.first are.more) ∙ ap Some (sym are.last_is) in
    ap (λ (index : List IndexEntry). data_records block_of table.user_keys table.largest lower index >>= (λ entries. Ok (with_entries table entries))) dropped
    ∙ ap (λ (r : Result (List DataEntry) TableFault). (r >>= (λ records'. data_records block_of table.user_keys (last_key records') (Some at.separator) later >>= (λ more. Ok (records' ++ more)))) >>= (λ entries. Ok (with_entries table entries)))
    (block_is block_of table.user_keys table.largest lower at block handed ∙ are.is)
    ∙ rest_is table records _ are bounds (data_records block_of table.user_keys (last_key (are.first ∷ are.more)) (Some at.separator) later)
    ∙ (λ i. data_records block_of table.user_keys (last i) (sym separator i) (sym dropped' i) >>= (λ entries. Ok (with_entries (advanced table records) entries)))
  where
    last_is : (first : DataEntry) (more : List DataEntry) → last_key (first ∷ more) ≡ Some (unwrap_or (last_key more) first.key)
    last_is first [] = refl
    last_is first (next ∷ more) = last_is next more ∙ ap Some (sym (last_of_more next.key first.key (map (λ (entry : DataEntry). entry.key) more)))

-- the bounds after a block's records
pub bounds_are : (table : TableRef) (records : Records) (told : Result (List DataEntry) TableFault) → AreRecords table.largest told records → AreBounds table.smallest table.largest → AreBounds (advanced table records).smallest (advanced table records).largest
bounds_are table records told are bounds =
    let (long, upto') = by table.smallest table.largest are.first are.more bounds are.rise in (
      subst (λ (first : List ℕ). 8 ≤ length (unwrap_or table.smallest first)) (sym are.first_is) long,
      are.last_long,
      subst (λ (first : List ℕ). is_gt (key_cmp (unwrap_or table.smallest first) records.last) ≡ false) (sym are.first_is)
          (subst (λ (last : List ℕ). is_gt (key_cmp (unwrap_or table.smallest are.first.key) last) ≡ false) (sym are.last_is) upto'),
    )
  where
    by : (smallest largest : Option (List ℕ)) (first : DataEntry) (more : List DataEntry) → AreBounds smallest largest → Rise largest (first ∷ more) → (8 ≤ length (unwrap_or smallest first.key)) × (is_gt (key_cmp (unwrap_or smallest first.key) (unwrap_or (last_key more) first.key)) ≡ false)
    by None None first more bounds rise = (rise.0, least_last first.key first.key more (itself first.key) rise.2)
    by (Some smallest) (Some largest) first more bounds rise = (bounds.0, subst (λ (last : List ℕ). is_gt (key_cmp smallest last) ≡ false) (last_of_more first.key largest (map (λ (entry : DataEntry). entry.key) more)) (least_last smallest largest (first ∷ more) bounds.2 rise))
    by None (Some largest) first more bounds rise = absurd bounds
    by (Some smallest) None first more bounds rise = absurd bounds

-- what is known of a table with its bounds
pub closed_is : (table : TableRef) (bounds : Bounds) → table.entries ≤ 2 ^ 64 - 1 → AreRangeBounds table.smallest table.largest table.ranges bounds → closed table bounds ≡ with_entries table []
closed_is table bounds fits are =
    let entries' : table.entries ≡ min (table.entries + 0) (2 ^ 64 - 1) = omega arith in
    λ i. record (closed table bounds) { entries = entries' i; smallest = are.least i; largest = are.most i }

-- what is known of a table with no data record so far
pub new_is : (footer : Footer) (properties : List Property) (ranges : List RangeDel) (index : List IndexEntry) (entries : List DataEntry) → with_entries (new_table footer properties ranges index) entries ≡ (good footer properties ranges index entries).table
new_is footer properties ranges index entries =
    let count : min (0 + length entries) (2 ^ 64 - 1) ≡ min (length entries) (2 ^ 64 - 1) = omega arith in
    λ i. record (good footer properties ranges index entries).table { entries = count i }

-- the entry of an index with a number
pub split_at : (n : ℕ) (index : List IndexEntry) → n < length index → (at : IndexEntry) × (later : List IndexEntry) × (drop n index ≡ at ∷ later)
split_at n [] within = absurd (omega arith)
split_at zero (at ∷ index) within = (at, index, refl)
split_at (suc n) (at ∷ index) within = split_at n index (omega arith)

-- what was read of the block that is wanted
abbrev pub ReadsNext : TableRef → ℕ → List ℕ → Records → Type 0
ReadsNext table number block records = (at : IndexEntry) (later : List IndexEntry) → drop number table.index ≡ at ∷ later → AreRecords table.largest (data_told table.user_keys table.largest (separator_before number table.index) at block) records

-- Where the block that is handed in is the table's, as much is left after it.
pub goes_on : (footer : Footer) (table : TableRef) (number : ℕ) (block : List ℕ) (records : Records) → IsBefore table number → ReadsNext table number block records → (bytes : List ℕ) → Hands bytes (block_wanted footer (drop number table.index)) (Ok block)
    → after_blocks (reader_of bytes footer) (advanced table records) (number + 1) ≡ after_blocks (reader_of bytes footer) table number
goes_on footer table number block records is next bytes hands =
    let (at, later, dropped) = split_at number table.index is.within in
    let handed = subst (λ (index : List IndexEntry). Hands bytes (block_wanted footer index) (Ok block)) dropped hands in
    sym (advance (reader_of bytes footer) table number at later block records dropped (reads bytes footer at.block block handed) (next at later dropped) is.bounds)

pub records_of : (table : TableRef) (number : ℕ) (block : List ℕ) (records : Records) → IsBefore table number → ReadsNext table number block records → (8 ≤ length records.first) × (8 ≤ length records.last) × AreBounds (advanced table records).smallest (advanced table records).largest
records_of table number block records is next =
    let (at, later, dropped) = split_at number table.index is.within in
    let are = next at later dropped in
    (subst (λ (key : List ℕ). 8 ≤ length key) (sym are.first_is) are.rise.0, are.last_long, bounds_are table records _ are is.bounds)

pub before_next : (table : TableRef) (number : ℕ) (block : List ℕ) (records : Records) → IsBefore table number → ReadsNext table number block records → number + 1 < length table.index → IsBefore (advanced table records) (number + 1)
before_next table number block records is next within = record {
  within = within;
  few = is.few;
  top = is.top;
  long = is.long;
  bounds = (records_of table number block records is next).2;
}

-- nothing is left after the last data block
pub all_read : (block_of : BlockReader) (table : TableRef) (number : ℕ) → length table.index ≤ number → after_blocks block_of table number ≡ Ok (with_entries table [])
all_read block_of table number all = ap (λ (index : List IndexEntry). data_records block_of table.user_keys table.largest (separator_before number table.index) index >>= (λ entries. Ok (with_entries table entries))) (drop_all number table.index all)

pub ends : (footer : Footer) (table : TableRef) (number : ℕ) (block : List ℕ) (records : Records) (bounds : Bounds) → IsBefore table number → ReadsNext table number block records → length table.index ≤ number + 1
    → AreRangeBounds (advanced table records).smallest (advanced table records).largest table.ranges bounds → (bytes : List ℕ) → Hands bytes (block_wanted footer (drop number table.index)) (Ok block)
    → after_blocks (reader_of bytes footer) table number ≡ Ok (closed (advanced table records) bounds)
ends footer table number block records bounds is next all are bytes hands =
    sym (goes_on footer table number block records is next bytes hands)
    ∙ all_read (reader_of bytes footer) (advanced table records) (number + 1) all
    ∙ ap Ok (sym (closed_is (advanced table records) bounds (omega arith) are))

-- separators that pass the test
long_by : (index : List IndexEntry) → list_all (λ (entry : IndexEntry). nat_le 8 (length entry.separator)) index ≡ true → AllByRecursion (λ (at : IndexEntry). 8 ≤ length at.separator) index
long_by [] e = tt
long_by (at ∷ index) e = by (nat_le 8 (length at.separator)) refl e (long_by index)
  where
    by : (test : Bool) → nat_le 8 (length at.separator) ≡ test → (test && list_all (λ (entry : IndexEntry). nat_le 8 (length entry.separator)) index) ≡ true → (list_all (λ (entry : IndexEntry). nat_le 8 (length entry.separator)) index ≡ true → AllByRecursion (λ (at : IndexEntry). 8 ≤ length at.separator) index) → AllByRecursion (λ (at : IndexEntry). 8 ≤ length at.separator) (at ∷ index)
    by true told e later = (leb-true 8 (length at.separator) told, later e)
    by false told e later = absurd cc

pub index_long : (place : ℕ) (properties : List Property) (block : List ℕ) (index : List IndexEntry) → index_told place properties block ≡ Ok index → is_set (user_separators properties) ≡ false → AllByRecursion (λ (at : IndexEntry). 8 ≤ length at.separator) index
index_long place properties block index e user =
    both_steps (with_fault (index_status place) (index_entries (is_set (delta_values properties)) block)) _ index e λ found read e1.
    let all = list_all (λ (entry : IndexEntry). nat_le 8 (length entry.separator)) found in
    let (test, same) = taken (is_set (user_separators properties) || all) (damaged BadKey place) found index e1 in
    subst (λ (index : List IndexEntry). AllByRecursion (λ (at : IndexEntry). 8 ≤ length at.separator) index) same (long_by found (ap (λ (user : Bool). user || all) (sym user) ∙ test))
