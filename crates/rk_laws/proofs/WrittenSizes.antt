-- How long written blocks are.
use Rattle.std.proofs.Common.{◌≡◌, ℕ, zero, suc, ◌+◌, ◌-◌, ◌*◌, ◌/◌, ◌%◌, ◌^◌, ◌<◌, ◌≤◌, Bool, true, false, cond, List, [], ◌∷◌, ◌++◌, length, flat_map, map, drop, refl, ap, arith}
use Rattle.std.specs.Prelude.{◌==◌, fold, reverse, sum_by, nat_lt, nat_le}
use Rattle.std.specs.List.{AllByRecursion, concat, zip}
use Rattle.std.proofs.lemmas.Bool.{leb-false}
use Rattle.std.proofs.lemmas.List.{append-nil, length-append, length-drop, length-map}
use Rattle.std.proofs.lemmas.List.Sums.{sum_by-cons}
use Rattle.std.proofs.lemmas.Grind.{flat_map-append}
use Rattle.rk_bytes.specs.Model.Numbers.{fixed_of, varint_with, varint_of}
use Rattle.rk_bytes.specs.Model.Writers.{KeyValue, run_bytes, with_item, grouped, beginnings, block_bytes}
use Rattle.rk_laws.proofs.WrittenGroups.{reverse_first, each_reverse}
use Rattle.rk_laws.proofs.WrittenBlocks.{Written, shares, pair_bytes, run_pairs, run_bytes-pairs, length-offsets, length-begins}

-- how much an entry may add to a block
abbrev pub cost : KeyValue → ℕ
cost entry = length entry.0 + length entry.1 + 34

-- a varint has so many bytes at most
pub varint_most : (more n : ℕ) → length (varint_with more n) ≤ suc more
varint_most zero n = omega arith
varint_most (suc more) n = by (nat_lt n 128) (varint_most more (n / 128))
  where
    by : (told : Bool) → length (varint_with more (n / 128)) ≤ suc more → length (cond told (n ∷ []) ((n % 128 + 128) ∷ varint_with more (n / 128))) ≤ suc (suc more)
    by true rest = omega arith
    by false rest = omega arith

pair_most : (pair : Written) → length (pair_bytes pair) + 4 ≤ cost pair.1
pair_most pair =
    let shared = shares pair in
    let a = varint_of shared in
    let b = varint_of (length pair.1.0 - shared) in
    let c = varint_of (length pair.1.1) in
    let rest = drop shared pair.1.0 in
    omega (arith, length-append (a ++ b ++ c ++ rest) pair.1.1, length-append (a ++ b ++ c) rest, length-append (a ++ b) c, length-append a b, length-drop shared pair.1.0, varint_most 9 shared, varint_most 9 (length pair.1.0 - shared), varint_most 9 (length pair.1.1))

-- a run with one more entry
pairs_more : (before : List ℕ) (run : List KeyValue) (item : KeyValue) → (key : List ℕ) × (zip (before ∷ map (λ entry. entry.0) (run ++ item ∷ [])) (run ++ item ∷ []) ≡ zip (before ∷ map (λ entry. entry.0) run) run ++ (key, item) ∷ [])
pairs_more before [] item = (before, refl)
pairs_more before (entry ∷ run) item = let (key, more) = pairs_more entry.0 run item in (key, ap (λ more. (before, entry) ∷ more) more)

run_more : (run : List KeyValue) (item : KeyValue) → length (run_bytes (run ++ item ∷ [])) + 4 ≤ length (run_bytes run) + cost item
run_more run item =
    let (key, more) = pairs_more [] run item in
    let pairs = run_pairs run in
    let bytes = ap length (run_bytes-pairs (run ++ item ∷ [])) in
    let parted = ap (λ pairs. length (flat_map pair_bytes pairs)) more in
    let joined = ap length (flat_map-append pair_bytes pairs ((key, item) ∷ [])) in
    let last = ap length (append-nil (pair_bytes (key, item))) in
    omega (arith, bytes, parted, joined, last, length-append (flat_map pair_bytes pairs) (flat_map pair_bytes ((key, item) ∷ [])), pair_most (key, item), ap length (run_bytes-pairs run))

-- how much runs fill, with their restart offsets
size : List (List KeyValue) → ℕ
size [] = 0
size (run ∷ runs) = length (run_bytes run) + 4 + size runs

size-append : (some more : List (List KeyValue)) → size (some ++ more) ≡ size some + size more
unfolding size
size-append [] more = omega arith
size-append (run ∷ some) more = omega (arith, size-append some more)

size-reverse : (runs : List (List KeyValue)) → size (reverse runs) ≡ size runs
unfolding size
size-reverse [] = refl
size-reverse (run ∷ runs) = omega (arith, ap size (reverse_first run runs), size-append (reverse runs) (run ∷ []), size-reverse runs)

size_of_runs : (runs : List (List KeyValue)) → length (concat (map run_bytes runs)) + 4 * length runs ≡ size runs
unfolding size
size_of_runs [] = refl
size_of_runs (run ∷ runs) = omega (arith, length-append (run_bytes run) (concat (map run_bytes runs)), size_of_runs runs)

module _ (is_full : List KeyValue → Bool) where
  item_size : (runs : List (List KeyValue)) (item : KeyValue) → size (with_item is_full runs item) ≤ size runs + cost item
  unfolding size
  item_size [] item = omega (arith, run_more [] item, ap length (run_bytes-pairs []))
  item_size (last ∷ runs) item = by (is_full last)
    where
      by : (told : Bool) → size (cond told ((item ∷ []) ∷ last ∷ runs) ((last ++ item ∷ []) ∷ runs)) ≤ size (last ∷ runs) + cost item
      by true = omega (arith, run_more [] item, ap length (run_bytes-pairs []))
      by false = omega (arith, run_more last item)

  items_size : (runs : List (List KeyValue)) (items : List KeyValue) → size (fold (with_item is_full) runs items) ≤ size runs + sum_by cost items
  items_size runs [] = omega arith
  items_size runs (item ∷ items) = omega (arith, items_size (with_item is_full runs item) items, item_size runs item, sum_by-cons cost item items)

-- how much the entries of a block fill
block_size : ℕ → List KeyValue → ℕ
block_size restart_every entries = size (fold (with_item (λ run. length run == restart_every)) [] entries)

length_of_runs : (runs : List (List KeyValue)) → length (concat (map run_bytes runs) ++ flat_map (fixed_of 4) (beginnings (map run_bytes runs)) ++ fixed_of 4 (length (map run_bytes runs))) ≡ size runs + 4
length_of_runs runs =
    let parts = map run_bytes runs in
    let front = length-append (concat parts) (flat_map (fixed_of 4) (beginnings parts)) in
    let whole = length-append (concat parts ++ flat_map (fixed_of 4) (beginnings parts)) (fixed_of 4 (length parts)) in
    omega (arith, front, whole, length-offsets (beginnings parts), length-begins 0 parts, length-map runs run_bytes, size_of_runs runs)

block_length : (restart_every : ℕ) (entries : List KeyValue) → (block_size restart_every entries + 4 ≤ length (block_bytes restart_every entries)) × (length (block_bytes restart_every entries) ≤ block_size restart_every entries + 8)
unfolding block_bytes block_size grouped size run_bytes
block_length restart_every [] = (omega arith, omega arith)
block_length restart_every (entry ∷ entries) =
    let runs = fold (with_item (λ run. length run == restart_every)) [] (entry ∷ entries) in
    let len = length_of_runs (reverse runs) in
    let same = size-reverse runs in
    (omega arith, omega arith)

-- a block is no longer than what its entries may add
pub block_most : (restart_every : ℕ) (entries : List KeyValue) → length (block_bytes restart_every entries) ≤ sum_by cost entries + 8
unfolding block_size size
block_most restart_every entries = omega (arith, (block_length restart_every entries).1, items_size (λ run. length run == restart_every) [] entries)

-- and with one entry more
fold_more : {A B : Type 0} (f : B → A → B) (b : B) (xs : List A) (x : A) → fold f b (xs ++ x ∷ []) ≡ f (fold f b xs) x
fold_more f b [] x = refl
fold_more f b (y ∷ xs) x = fold_more f (f b y) xs x

pub block_more : (restart_every : ℕ) (entries : List KeyValue) (item : KeyValue) → length (block_bytes restart_every (entries ++ item ∷ [])) ≤ length (block_bytes restart_every entries) + cost item + 4
unfolding block_size
block_more restart_every entries item =
    let is_full : List KeyValue → Bool = λ run. length run == restart_every in
    let runs = fold (with_item is_full) [] entries in
    let more = ap size (fold_more (with_item is_full) [] entries item) in
    omega (arith, (block_length restart_every entries).0, (block_length restart_every (entries ++ item ∷ [])).1, more, item_size is_full runs item)

-- the lengths of an entry of a data block
abbrev pub IsDataSize : KeyValue → Type 0
IsDataSize entry = (length entry.0 < 2 ^ 30 + 8) × (length entry.1 < 2 ^ 31)

-- a group's block is short
abbrev pub IsShortBlock : List KeyValue → Type 0
IsShortBlock group = length (block_bytes 16 group) < 2 ^ 32 - 2 ^ 16

abbrev pub is_full_block : List KeyValue → Bool
is_full_block entries = nat_le 4096 (length (block_bytes 16 entries))

one_short : (groups : List (List KeyValue)) (item : KeyValue) → IsDataSize item → AllByRecursion IsShortBlock groups → AllByRecursion IsShortBlock (with_item is_full_block groups item)
one_short [] item fits short = (omega (arith, block_most 16 (item ∷ []), sum_by-cons cost item [], fits.0, fits.1), tt)
one_short (last ∷ groups) item fits short = by (is_full_block last) refl
  where
    by : (told : Bool) → is_full_block last ≡ told → AllByRecursion IsShortBlock (cond told ((item ∷ []) ∷ last ∷ groups) ((last ++ item ∷ []) ∷ groups))
    by true told = (omega (arith, block_most 16 (item ∷ []), sum_by-cons cost item [], fits.0, fits.1), short)
    by false told = (omega (arith, block_more 16 last item, leb-false 4096 (length (block_bytes 16 last)) told, fits.0, fits.1), short.1)

all_short : (groups : List (List KeyValue)) (items : List KeyValue) → AllByRecursion IsDataSize items → AllByRecursion IsShortBlock groups → AllByRecursion IsShortBlock (fold (with_item is_full_block) groups items)
all_short groups [] fit short = short
all_short groups (item ∷ items) fit short = all_short (with_item is_full_block groups item) items fit.1 (one_short groups item fit.0 short)

-- the data blocks are short
pub groups_short : (items : List KeyValue) → AllByRecursion IsDataSize items → AllByRecursion IsShortBlock (grouped is_full_block items)
unfolding grouped
groups_short items fit = each_reverse IsShortBlock (fold (with_item is_full_block) [] items) (all_short [] items fit tt)
