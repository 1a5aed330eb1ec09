-- What is written of the entries of a block is a block of them.
use Rattle.std.proofs.Common.{◌≡◌, ◌⊎◌, inl, inr, ℕ, zero, suc, ◌+◌, ◌-◌, ◌*◌, ◌/◌, ◌%◌, ◌^◌, ◌<◌, ◌≤◌, Bool, true, false, cond, List, [], ◌∷◌, ◌++◌, length, flat_map, map, take, drop, Ok, refl, sym, ◌∙◌, ap, subst, arith, append_assoc}
use Rattle.std.specs.Prelude.{◌==◌, ◌&&◌, nat_eq, nat_lt}
use Rattle.std.specs.List.{AllByRecursion, common_prefix_len, concat, scan, zip, list_all}
use Rattle.std.proofs.lemmas.Bool.{lt-ltb, eqb-true, eq-eqb, and_from, or_left, or_right}
use Rattle.std.proofs.lemmas.List.{length-append, length-drop, take-append-drop, map-append}
use Rattle.std.proofs.lemmas.List.Sums.{common_prefix_len-le}
use Rattle.std.proofs.lemmas.Grind.{flat_map-append}
use Rattle.rk_bytes.specs.Model.Numbers.{AreBytes, IsVarint, IsVarint32, fixed_of, varint_with, varint_of}
use Rattle.rk_bytes.specs.Model.BlockEntries.{Entry, no_entry, block_entries, AreEntries, IsBlock, SpellsEntry, rises, is_restart, right_restarts}
use Rattle.rk_bytes.specs.Model.Writers.{KeyValue, entry_bytes, run_bytes, entry_runs, grouped, beginnings, block_bytes}
use Rattle.rk_bytes.proofs.Callers.FixedNumbers.{length-fixed_of}
use Rattle.rk_bytes.proofs.Callers.Varints.{IsVarint32-varint_of}
use Rattle.rk_laws.proofs.BlockLaw.{block_entries-block}
use Rattle.rk_laws.proofs.EachElement.{each_append}
use Rattle.rk_laws.proofs.Orders.{AreBytes-drop}
use Rattle.rk_laws.proofs.WrittenGroups.{joined_groups, IsFilled, grouped-joined, grouped-filled}

-- An entry, after the key that it is written after: nothing at a restart.
abbrev pub Written : Type 0
Written = List ℕ × KeyValue

-- how many bytes the entry's key shares with that key
abbrev pub shares : Written → ℕ
shares pair = common_prefix_len nat_eq pair.0 pair.1.0

abbrev pub pair_bytes : Written → List ℕ
pair_bytes pair = entry_bytes pair.0 pair.1

-- the entries of a run
abbrev pub run_pairs : List KeyValue → List Written
run_pairs run = zip ([] ∷ map (λ entry. entry.0) run) run

-- the entries that are read, from this place on
placed : ℕ → List Written → List (Entry (List ℕ))
placed place [] = []
placed place (pair ∷ pairs) = record { place = place; shared = shares pair; key = pair.1.0; value = pair.1.1 } ∷ placed (place + length (pair_bytes pair)) pairs

placed-shown : (place : ℕ) (pairs : List Written) → map (λ entry. (entry.key, entry.value)) (placed place pairs) ≡ map (λ pair. pair.1) pairs
unfolding placed
placed-shown place [] = refl
placed-shown place (pair ∷ pairs) = ap (λ more. pair.1 ∷ more) (placed-shown (place + length (pair_bytes pair)) pairs)

placed-append : (place : ℕ) (some more : List Written) → placed place (some ++ more) ≡ placed place some ++ placed (place + length (flat_map pair_bytes some)) more
unfolding placed
placed-append place [] more = ap (λ place. placed place more) (omega arith)
placed-append place (pair ∷ pairs) more =
    let first : Entry (List ℕ) = record { place = place; shared = shares pair; key = pair.1.0; value = pair.1.1 } in
    let after : place + length (pair_bytes pair) + length (flat_map pair_bytes pairs) ≡ place + length (flat_map pair_bytes (pair ∷ pairs)) = omega (arith, length-append (pair_bytes pair) (flat_map pair_bytes pairs)) in
    ap (λ rest. first ∷ rest) (placed-append (place + length (pair_bytes pair)) pairs more
    ∙ ap (λ behind. placed (place + length (pair_bytes pair)) pairs ++ placed behind more) after)

-- Each entry is written after nothing, or after the key before it.
abbrev Chain : List ℕ → List Written → Type 0
Chain before [] = Unit
Chain before (pair ∷ pairs) = ((pair.0 ≡ []) ⊎ (pair.0 ≡ before)) × Chain pair.1.0 pairs

run_chain : (before : List ℕ) (run : List KeyValue) (more : List Written) → ((key : List ℕ) → Chain key more) → Chain before (zip (before ∷ map (λ entry. entry.0) run) run ++ more)
run_chain before [] more so = so before
run_chain before (entry ∷ run) more so = (inr refl, run_chain entry.0 run more so)

runs_chain : (runs : List (List KeyValue)) (before : List ℕ) → Chain before (flat_map run_pairs runs)
runs_chain [] before = tt
runs_chain ([] ∷ runs) before = runs_chain runs before
runs_chain ((entry ∷ run) ∷ runs) before = (inl refl, run_chain entry.0 run (flat_map run_pairs runs) (runs_chain runs))

-- the entries of runs, and their bytes
run_shown : (before : List ℕ) (run : List KeyValue) → map (λ (pair : Written). pair.1) (zip (before ∷ map (λ entry. entry.0) run) run) ≡ run
run_shown before [] = refl
run_shown before (entry ∷ run) = ap (λ more. entry ∷ more) (run_shown entry.0 run)

runs_shown : (runs : List (List KeyValue)) → map (λ (pair : Written). pair.1) (flat_map run_pairs runs) ≡ joined_groups runs
runs_shown [] = refl
runs_shown (run ∷ runs) = map-append (λ (pair : Written). pair.1) (run_pairs run) (flat_map run_pairs runs) ∙ (λ i. run_shown [] run i ++ runs_shown runs i)

pub run_bytes-pairs : (run : List KeyValue) → run_bytes run ≡ flat_map pair_bytes (run_pairs run)
unfolding run_bytes
run_bytes-pairs run = refl

runs_bytes : (runs : List (List KeyValue)) → concat (map run_bytes runs) ≡ flat_map pair_bytes (flat_map run_pairs runs)
runs_bytes [] = refl
runs_bytes (run ∷ runs) = (λ i. run_bytes-pairs run i ++ runs_bytes runs i) ∙ sym (flat_map-append pair_bytes (run_pairs run) (flat_map run_pairs runs))

-- a varint has a byte at least
some_bytes : (more n : ℕ) → 1 ≤ length (varint_with more n)
some_bytes zero n = omega arith
some_bytes (suc more) n = by (nat_lt n 128)
  where
    by : (told : Bool) → 1 ≤ length (cond told (n ∷ []) ((n % 128 + 128) ∷ varint_with more (n / 128)))
    by true = omega arith
    by false = omega arith

-- an entry's bytes are as many as those of its key that aren't shared, those of its value and three more at least
pair_length : (pair : Written) → length pair.1.0 - shares pair + length pair.1.1 + 3 ≤ length (pair_bytes pair)
pair_length pair =
    let shared = shares pair in
    let a = varint_of shared in
    let b = varint_of (length pair.1.0 - shared) in
    let c = varint_of (length pair.1.1) in
    let rest = drop shared pair.1.0 in
    omega (arith, length-append (a ++ b ++ c ++ rest) pair.1.1, length-append (a ++ b ++ c) rest, length-append (a ++ b) c, length-append a b, length-drop shared pair.1.0, some_bytes 9 shared, some_bytes 9 (length pair.1.0 - shared), some_bytes 9 (length pair.1.1))

-- the lengths of an entry and of the key that it is written after
abbrev IsShort : Written → Type 0
IsShort pair = (length pair.0 < 2 ^ 32) × (length pair.1.0 < 2 ^ 32) × (length pair.1.1 < 2 ^ 32)

-- the entries stay short, since keys and values that are long have long bytes
pairs_short : (place : ℕ) (before : List ℕ) (pairs : List Written) → Chain before pairs → length before ≤ place → place + length (flat_map pair_bytes pairs) < 2 ^ 32 → AllByRecursion IsShort pairs
pairs_short place before [] chain within fits = tt
pairs_short place before (pair ∷ pairs) chain within fits =
    let whole = length-append (pair_bytes pair) (flat_map pair_bytes pairs) in
    let some = pair_length pair in
    let shared = common_prefix_len-le nat_eq pair.0 pair.1.0 in
    let front : length pair.0 ≤ place = front_length chain.0 in
    ((omega arith, omega arith, omega arith), pairs_short (place + length (pair_bytes pair)) pair.1.0 pairs chain.1 (omega arith) (omega arith))
  where
    front_length : (pair.0 ≡ []) ⊎ (pair.0 ≡ before) → length pair.0 ≤ place
    front_length (inl none) = omega (arith, ap length none)
    front_length (inr same) = omega (arith, ap length same)

-- the bytes that two lists share
shared_front : (xs ys : List ℕ) → take (common_prefix_len nat_eq xs ys) xs ≡ take (common_prefix_len nat_eq xs ys) ys
shared_front [] ys = refl
shared_front (x ∷ xs) [] = refl
shared_front (x ∷ xs) (y ∷ ys) = by (nat_eq x y) refl (shared_front xs ys)
  where
    by : (told : Bool) → nat_eq x y ≡ told → take (common_prefix_len nat_eq xs ys) xs ≡ take (common_prefix_len nat_eq xs ys) ys
        → take (cond told (1 + common_prefix_len nat_eq xs ys) 0) (x ∷ xs) ≡ take (cond told (1 + common_prefix_len nat_eq xs ys) 0) (y ∷ ys)
    by true told rest =
        let one : 1 + common_prefix_len nat_eq xs ys ≡ suc (common_prefix_len nat_eq xs ys) = omega arith in
        rw one (λ i. eqb-true x y told i ∷ rest i)
    by false told rest = refl

-- the entry of a pair, spelled after an entry whose key is the one before
pair_spelled : (place : ℕ) (before : Entry (List ℕ)) (pair : Written) → (pair.0 ≡ []) ⊎ (pair.0 ≡ before.key) → IsShort pair
    → SpellsEntry before (pair_bytes pair) (record { place = place; shared = shares pair; key = pair.1.0; value = pair.1.1 })
pair_spelled place before pair after short =
    let shared = shares pair in
    let lengths = common_prefix_len-le nat_eq pair.0 pair.1.0 in
    let front = kept after in
    record {
      shared_len = varint_of shared;
      rest_len = varint_of (length pair.1.0 - shared);
      value_len = varint_of (length pair.1.1);
      rest = drop shared pair.1.0;
      value_bytes = pair.1.1;
      spelled = simp append_assoc;
      shares = IsVarint32-varint_of shared (omega arith);
      rests = subst (λ n. IsVarint32 (varint_of (length pair.1.0 - shared)) n) (sym (length-drop shared pair.1.0)) (IsVarint32-varint_of (length pair.1.0 - shared) (omega arith));
      holds = IsVarint32-varint_of (length pair.1.1) short.2;
      within = front.0;
      key = sym (take-append-drop shared pair.1.0) ∙ ap (λ front. front ++ drop shared pair.1.0) (sym front.1);
      value = refl;
    }
  where
    kept : (pair.0 ≡ []) ⊎ (pair.0 ≡ before.key) → (shares pair ≤ length before.key) × (take (shares pair) before.key ≡ take (shares pair) pair.1.0)
    kept (inl none) =
        let nothing : shares pair ≡ 0 = ap (λ front. common_prefix_len nat_eq front pair.1.0) none in
        subst (λ n. (n ≤ length before.key) × (take n before.key ≡ take n pair.1.0)) (sym nothing) (omega arith, refl)
    kept (inr same) =
        subst (λ front. (shares pair ≤ length front) × (take (shares pair) front ≡ take (shares pair) pair.1.0)) same ((common_prefix_len-le nat_eq pair.0 pair.1.0).0, shared_front pair.0 pair.1.0)

pairs_spelled : (place : ℕ) (before : Entry (List ℕ)) (pairs : List Written) → Chain before.key pairs → AllByRecursion IsShort pairs → AreEntries SpellsEntry place before (flat_map pair_bytes pairs) (placed place pairs)
unfolding placed
pairs_spelled place before [] chain short = refl
pairs_spelled place before (pair ∷ pairs) chain short =
    let entry : Entry (List ℕ) = record { place = place; shared = shares pair; key = pair.1.0; value = pair.1.1 } in
    (pair_bytes pair, flat_map pair_bytes pairs, refl, refl, pair_spelled place before pair chain.0 short.0, pairs_spelled (place + length (pair_bytes pair)) entry pairs chain.1 short.1)

-- where parts begin rises, if each has a byte
abbrev begins : ℕ → List (List ℕ) → List ℕ
begins place parts = scan (λ place part. place + length part) (λ place part. place) place parts

begins_rise : (place : ℕ) (parts : List (List ℕ)) → AllByRecursion IsFilled parts → rises (begins place parts) ≡ true
begins_rise place [] filled = refl
begins_rise place (part ∷ []) filled = refl
begins_rise place (part ∷ next ∷ parts) filled =
    and_from _ _ (lt-ltb place (place + length part) (omega (arith, filled.0))) (begins_rise (place + length part) (next ∷ parts) filled.1)

begins_fit : (place : ℕ) (parts : List (List ℕ)) → place + length (concat parts) < 2 ^ 32 → AllByRecursion (λ offset. offset < 2 ^ 32) (begins place parts)
begins_fit place [] fits = tt
begins_fit place (part ∷ parts) fits =
    let whole = length-append part (concat parts) in
    (omega arith, begins_fit (place + length part) parts (omega arith))

pub length-begins : (place : ℕ) (parts : List (List ℕ)) → length (begins place parts) ≡ length parts
length-begins place [] = refl
length-begins place (part ∷ parts) = ap suc (length-begins (place + length part) parts)

-- a run has bytes
run_filled : (run : List KeyValue) → IsFilled run → IsFilled (run_bytes run)
run_filled [] filled = absurd (omega arith)
run_filled (entry ∷ run) filled =
    let rest = flat_map pair_bytes (zip (entry.0 ∷ map (λ entry. entry.0) run) run) in
    omega (arith, ap length (run_bytes-pairs (entry ∷ run)), length-append (pair_bytes ([], entry)) rest, pair_length ([], entry))

runs_filled : (runs : List (List KeyValue)) → AllByRecursion IsFilled runs → AllByRecursion IsFilled (map run_bytes runs)
runs_filled [] filled = tt
runs_filled (run ∷ runs) filled = (run_filled run filled.0, runs_filled runs filled.1)

-- a restart among later entries
is_restart_later : (front : List (Entry (List ℕ))) (entries : List (Entry (List ℕ))) (offset : ℕ) → is_restart entries offset ≡ true → is_restart (front ++ entries) offset ≡ true
is_restart_later [] entries offset is = is
is_restart_later (entry ∷ front) entries offset is = or_right _ _ (is_restart_later front entries offset is)

restarts_later : (front : List (Entry (List ℕ))) (entries : List (Entry (List ℕ))) (offsets : List ℕ) → list_all (is_restart entries) offsets ≡ true → list_all (is_restart (front ++ entries)) offsets ≡ true
restarts_later front entries [] are = refl
restarts_later front entries (offset ∷ offsets) are =
    let both = and_both (is_restart entries offset) (list_all (is_restart entries) offsets) are in
    and_from _ _ (is_restart_later front entries offset both.0) (restarts_later front entries offsets both.1)
  where
    and_both : (x y : Bool) → (x && y) ≡ true → (x ≡ true) × (y ≡ true)
    and_both true y e = (refl, e)
    and_both false y e = cc

-- each run begins at a restart
runs_restart : (place : ℕ) (runs : List (List KeyValue)) → AllByRecursion IsFilled runs → list_all (is_restart (placed place (flat_map run_pairs runs))) (begins place (map run_bytes runs)) ≡ true
unfolding placed
runs_restart place [] filled = refl
runs_restart place ([] ∷ runs) filled = absurd (omega (arith, filled.0))
runs_restart place ((entry ∷ run) ∷ runs) filled =
    let here : nat_eq place place ≡ true = eq-eqb place place refl in
    let first : is_restart (placed place (flat_map run_pairs ((entry ∷ run) ∷ runs))) place ≡ true = or_left _ _ (and_from _ _ here refl) in
    let pairs = run_pairs (entry ∷ run) in
    let after : place + length (flat_map pair_bytes pairs) ≡ place + length (run_bytes (entry ∷ run)) = ap (λ bytes. place + length bytes) (sym (run_bytes-pairs (entry ∷ run))) in
    let parted = placed-append place pairs (flat_map run_pairs runs) ∙ ap (λ place2. placed place pairs ++ placed place2 (flat_map run_pairs runs)) after in
    let later = restarts_later (placed place pairs) (placed (place + length (run_bytes (entry ∷ run))) (flat_map run_pairs runs)) _ (runs_restart (place + length (run_bytes (entry ∷ run))) runs filled.1) in
    and_from _ _ first (subst (λ entries. list_all (is_restart entries) (begins (place + length (run_bytes (entry ∷ run))) (map run_bytes runs)) ≡ true) (sym parted) later)

right_runs : (runs : List (List KeyValue)) → 0 < length runs → AllByRecursion IsFilled runs → right_restarts (placed 0 (flat_map run_pairs runs)) (beginnings (map run_bytes runs)) ≡ true
unfolding placed
right_runs [] some filled = absurd (omega arith)
right_runs ([] ∷ runs) some filled = absurd (omega (arith, filled.0))
right_runs ((entry ∷ run) ∷ runs) some filled =
    and_from _ _ (begins_rise 0 (map run_bytes ((entry ∷ run) ∷ runs)) (runs_filled ((entry ∷ run) ∷ runs) filled)) (runs_restart 0 ((entry ∷ run) ∷ runs) filled)

pub length-offsets : (offsets : List ℕ) → length (flat_map (fixed_of 4) offsets) ≡ 4 * length offsets
length-offsets [] = refl
length-offsets (offset ∷ offsets) = omega (arith, length-append (fixed_of 4 offset) (flat_map (fixed_of 4) offsets), length-fixed_of 4 offset, length-offsets offsets)

-- a block of runs that aren't empty
runs_block : (runs : List (List KeyValue)) → let block = concat (map run_bytes runs) ++ flat_map (fixed_of 4) (beginnings (map run_bytes runs)) ++ fixed_of 4 (length (map run_bytes runs)) in
    length block < 2 ^ 32 → right_restarts (placed 0 (flat_map run_pairs runs)) (beginnings (map run_bytes runs)) ≡ true → IsBlock SpellsEntry [] block (placed 0 (flat_map run_pairs runs))
runs_block runs fits right =
    let parts = map run_bytes runs in
    let spelled = concat parts in
    let offsets = beginnings parts in
    let count : length offsets ≡ length parts = length-begins 0 parts in
    let whole = length-append (spelled ++ flat_map (fixed_of 4) offsets) (fixed_of 4 (length parts)) in
    let front = length-append spelled (flat_map (fixed_of 4) offsets) in
    let four = length-offsets offsets in
    let same : spelled ≡ flat_map pair_bytes (flat_map run_pairs runs) = runs_bytes runs in
    let short = pairs_short 0 [] (flat_map run_pairs runs) (runs_chain runs []) (omega arith) (omega (arith, ap length same)) in
    record {
      spelled = spelled;
      offsets = offsets;
      parts = append_assoc spelled (flat_map (fixed_of 4) offsets) (fixed_of 4 (length parts)) ∙ ap (λ n. spelled ++ (flat_map (fixed_of 4) offsets ++ fixed_of 4 n)) (sym count);
      few = omega arith;
      fit = begins_fit 0 parts (omega arith);
      are = subst (λ bytes. AreEntries SpellsEntry 0 (no_entry []) bytes (placed 0 (flat_map run_pairs runs))) (sym same) (pairs_spelled 0 (no_entry []) (flat_map run_pairs runs) (runs_chain runs []) short);
      restarts = right;
    }

-- the entries that are read of what is written
pub read_again : ℕ → List KeyValue → List (Entry (List ℕ))
read_again restart_every entries = placed 0 (flat_map run_pairs (entry_runs restart_every entries))

-- the runs' restarts
right_written : (restart_every : ℕ) (entries : List KeyValue) → right_restarts (read_again restart_every entries) (beginnings (map run_bytes (entry_runs restart_every entries))) ≡ true
unfolding read_again placed run_bytes
right_written restart_every [] = refl
right_written restart_every (entry ∷ entries) =
    let is_full : List KeyValue → Bool = λ run. length run == restart_every in
    let runs = grouped is_full (entry ∷ entries) in
    right_runs runs (some_runs runs (grouped-joined is_full (entry ∷ entries))) (grouped-filled is_full (entry ∷ entries))
  where
    some_runs : (runs : List (List KeyValue)) → joined_groups runs ≡ entry ∷ entries → 0 < length runs
    some_runs [] e = absurd cc
    some_runs (run ∷ runs) e = omega arith

pub block_written : (restart_every : ℕ) (entries : List KeyValue) → length (block_bytes restart_every entries) < 2 ^ 32 → IsBlock SpellsEntry [] (block_bytes restart_every entries) (read_again restart_every entries)
unfolding block_bytes read_again
block_written restart_every entries fits = runs_block (entry_runs restart_every entries) fits (right_written restart_every entries)

-- the entries of the runs
runs_joined : (restart_every : ℕ) (entries : List KeyValue) → joined_groups (entry_runs restart_every entries) ≡ entries
runs_joined restart_every [] = refl
runs_joined restart_every (entry ∷ entries) = grouped-joined (λ run. length run == restart_every) (entry ∷ entries)

read_again-shown : (restart_every : ℕ) (entries : List KeyValue) → map (λ entry. (entry.key, entry.value)) (read_again restart_every entries) ≡ entries
unfolding read_again
read_again-shown restart_every entries = placed-shown 0 (flat_map run_pairs (entry_runs restart_every entries)) ∙ runs_shown (entry_runs restart_every entries) ∙ runs_joined restart_every entries

-- the entries are read of the block that is written of them
pub block_read : (restart_every : ℕ) (entries : List KeyValue) → length (block_bytes restart_every entries) < 2 ^ 32
    → (read : List (Entry (List ℕ))) × (block_entries (block_bytes restart_every entries) ≡ Ok read) × (map (λ entry. (entry.key, entry.value)) read ≡ entries)
block_read restart_every entries fits =
    (read_again restart_every entries, block_entries-block (block_bytes restart_every entries) (read_again restart_every entries) (block_written restart_every entries fits), read_again-shown restart_every entries)

-- a varint's bytes
pub varint_is_bytes : (bytes : List ℕ) → IsVarint bytes → AreBytes bytes
varint_is_bytes [] groups = tt
varint_is_bytes (b ∷ []) groups = (omega arith, tt)
varint_is_bytes (b ∷ next ∷ bytes) groups = (groups.1, varint_is_bytes (next ∷ bytes) groups.2)

pub fixed_is_bytes : (len n : ℕ) → AreBytes (fixed_of len n)
fixed_is_bytes zero n = tt
fixed_is_bytes (suc len) n = (omega arith, fixed_is_bytes len (n / 256))

-- an entry's bytes are bytes
pair_is_bytes : (pair : Written) → IsShort pair → AreBytes pair.1.0 → AreBytes pair.1.1 → AreBytes (pair_bytes pair)
pair_is_bytes pair short key value =
    let shared = shares pair in
    let lengths = common_prefix_len-le nat_eq pair.0 pair.1.0 in
    let a = varint_is_bytes (varint_of shared) (IsVarint32-varint_of shared (omega arith)).groups in
    let b = varint_is_bytes (varint_of (length pair.1.0 - shared)) (IsVarint32-varint_of (length pair.1.0 - shared) (omega arith)).groups in
    let c = varint_is_bytes (varint_of (length pair.1.1)) (IsVarint32-varint_of (length pair.1.1) short.2).groups in
    let rest = AreBytes-drop shared pair.1.0 key in
    both_bytes _ _ (both_bytes _ _ (both_bytes _ _ (both_bytes _ _ a b) c) rest) value
  where
    both_bytes : (front back : List ℕ) → AreBytes front → AreBytes back → AreBytes (front ++ back)
    both_bytes front back = each_append (λ n. n < 2 ^ 8) front back

pairs_are_bytes : (pairs : List Written) → AllByRecursion IsShort pairs → AllByRecursion (λ (entry : KeyValue). AreBytes entry.0 × AreBytes entry.1) (map (λ pair. pair.1) pairs) → AreBytes (flat_map pair_bytes pairs)
pairs_are_bytes [] short are = tt
pairs_are_bytes (pair ∷ pairs) short are =
    each_append (λ n. n < 2 ^ 8) (pair_bytes pair) (flat_map pair_bytes pairs) (pair_is_bytes pair short.0 are.0.0 are.0.1) (pairs_are_bytes pairs short.1 are.1)

runs_are_bytes : (runs : List (List KeyValue)) → length (concat (map run_bytes runs)) < 2 ^ 32 → AllByRecursion (λ (entry : KeyValue). AreBytes entry.0 × AreBytes entry.1) (joined_groups runs)
    → AreBytes (concat (map run_bytes runs) ++ flat_map (fixed_of 4) (beginnings (map run_bytes runs)) ++ fixed_of 4 (length (map run_bytes runs)))
runs_are_bytes runs fits are =
    let parts = map run_bytes runs in
    let pairs = flat_map run_pairs runs in
    let same : concat parts ≡ flat_map pair_bytes pairs = runs_bytes runs in
    let short = pairs_short 0 [] pairs (runs_chain runs []) (omega arith) (omega (arith, ap length same)) in
    let entries = subst (λ (entries : List KeyValue). AllByRecursion (λ (entry : KeyValue). AreBytes entry.0 × AreBytes entry.1) entries) (sym (runs_shown runs)) are in
    let front = subst (λ bytes. AreBytes bytes) (sym same) (pairs_are_bytes pairs short entries) in
    let IsByte : ℕ → Type 0 = λ n. n < 2 ^ 8 in
    each_append IsByte (concat parts ++ flat_map (fixed_of 4) (beginnings parts)) (fixed_of 4 (length parts))
    (each_append IsByte (concat parts) (flat_map (fixed_of 4) (beginnings parts)) front (offsets_are_bytes (beginnings parts)))
    (fixed_is_bytes 4 (length parts))
  where
    offsets_are_bytes : (offsets : List ℕ) → AreBytes (flat_map (fixed_of 4) offsets)
    offsets_are_bytes [] = tt
    offsets_are_bytes (offset ∷ offsets) = each_append (λ n. n < 2 ^ 8) (fixed_of 4 offset) (flat_map (fixed_of 4) offsets) (fixed_is_bytes 4 offset) (offsets_are_bytes offsets)

pub block_is_bytes : (restart_every : ℕ) (entries : List KeyValue) → AllByRecursion (λ entry. AreBytes entry.0 × AreBytes entry.1) entries → length (block_bytes restart_every entries) < 2 ^ 32 → AreBytes (block_bytes restart_every entries)
unfolding block_bytes
block_is_bytes restart_every entries are fits =
    let runs = entry_runs restart_every entries in
    let parts = map run_bytes runs in
    let entries_are = subst (λ (entries : List KeyValue). AllByRecursion (λ (entry : KeyValue). AreBytes entry.0 × AreBytes entry.1) entries) (sym (runs_joined restart_every entries)) are in
    runs_are_bytes runs (omega (arith, length-append (concat parts ++ flat_map (fixed_of 4) (beginnings parts)) (fixed_of 4 (length parts)), length-append (concat parts) (flat_map (fixed_of 4) (beginnings parts)))) entries_are
