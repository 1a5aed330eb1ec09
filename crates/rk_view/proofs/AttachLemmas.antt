-- A run among others that takes in a list of which no slot is held.
use Rattle.std.proofs.Common.{◌≡◌, ℕ, suc, ◌<◌, Bool, true, false, cond, List, [], ◌∷◌, ◌++◌, length, map, reverse, take, drop, get_or, set, refl, sym, ap, subst, ◌∙◌, inl, inr}
use Rattle.std.proofs.lemmas.List.{reverse-append, set-get_or, set_split}
use Rattle.std.proofs.lemmas.List.Concat.{flat_map-append}
use Rattle.std.proofs.lemmas.List.Elements.{recursion_from_All}
use Rattle.std.specs.Prelude.{◌⊎◌, Option, Some, None, flat_map, is_some}
use Rattle.std.specs.Option.{option_or}
use Rattle.std.specs.List.{All, AllByRecursion}
use Rattle.std.specs.Ordering.{eq_by_cmp}
use Rattle.std.specs.FinMap.{get, contains_key, get-from_entries}
use Rattle.std.specs.FinMap.Entries.{find as find_in}
use Rattle.rk_bytes.specs.declared.model.key.Record.{Record}
use Rattle.rk_bytes.specs.Model.Records.{Slot, RecordMap, slot_cmp, slot_cmp-total, slot_of, entry_of, last_records, over, find-append, get-over}
use Rattle.rk_view.specs.Maps.{entries_of, look, map_of, run_map}
use Rattle.rk_view.proofs.SlotOrder.{slot_cmp-only_equal}
use Rattle.rk_view.proofs.RunLemmas.{Rises}
use Rattle.rk_view.proofs.MapLemmas.{same_records, get-run_map}
use Rattle.rk_view.proofs.FirstLemmas.{equal}
use Rattle.rk_view.proofs.RunsLemmas.{last_records-run}

-- what is found in runs, of which the younger ones come last
pub get-append : (xs ys : List (List Record)) (q : Slot) → get (map_of (xs ++ ys)) q ≡ option_or (get (map_of ys) q) (get (map_of xs) q)
unfolding map_of
get-append xs ys q =
    let es = λ (run : List Record). map entry_of run in
    get-from_entries slot_cmp-total (entries_of (xs ++ ys)) q
    ∙ ap (λ rs. find_in slot_cmp q (flat_map es rs)) (reverse-append xs ys) ∙ ap (find_in slot_cmp q) (flat_map-append es (reverse ys) (reverse xs))
    ∙ find-append q (entries_of ys) (entries_of xs)
    ∙ (λ i. option_or (sym (get-from_entries slot_cmp-total (entries_of ys) q) i) (sym (get-from_entries slot_cmp-total (entries_of xs) q) i))

or_nothing : {A : Type 0} (o : Option A) → option_or o None ≡ o
or_nothing None = refl
or_nothing (Some x) = refl

get-one : (run : List Record) (q : Slot) → get (map_of (run ∷ [])) q ≡ get (run_map run) q
unfolding map_of
get-one run q =
    get-from_entries slot_cmp-total (map entry_of run ++ []) q ∙ find-append q (map entry_of run) [] ∙ or_nothing (look q run) ∙ sym (get-run_map run q)

get-split : (before : List (List Record)) (run : List Record) (after : List (List Record)) (q : Slot) → get (map_of (before ++ (run ∷ after))) q ≡ option_or (get (map_of after) q) (option_or (get (run_map run) q) (get (map_of before) q))
get-split before run after q =
    get-append before (run ∷ after) q ∙ ap (λ o. option_or o (get (map_of before) q)) (get-append (run ∷ []) after q ∙ ap (option_or (get (map_of after) q)) (get-one run q))
    ∙ or_three (get (map_of after) q) (get (run_map run) q) (get (map_of before) q)
  where
    or_three : {A : Type 0} (a b c : Option A) → option_or (option_or a b) c ≡ option_or a (option_or b c)
    or_three None b c = refl
    or_three (Some x) b c = refl

none_of : {A : Type 0} (o : Option A) → is_some o ≡ false → o ≡ None
none_of None e = refl
none_of (Some x) e = cc

-- no slot of the list is held
abbrev pub AreFree : RecordMap → List Record → Type 0
AreFree m list = AllByRecursion (λ r. contains_key m (slot_of r) ≡ false) list

free_at : (m : RecordMap) (list : List Record) → AreFree m list → (q : Slot) → (look q list ≡ None) ⊎ (get m q ≡ None)
free_at m [] free q = inl refl
free_at m (r ∷ list) free q = by (eq_by_cmp slot_cmp q (slot_of r)) refl (free_at m list free.1 q)
  where
    by : (b : Bool) → eq_by_cmp slot_cmp q (slot_of r) ≡ b → (look q list ≡ None) ⊎ (get m q ≡ None) → (cond b (Some r) (look q list) ≡ None) ⊎ (get m q ≡ None)
    by true e later = inr (ap (get m) (slot_cmp-only_equal q (slot_of r) (equal _ e)) ∙ none_of _ free.0)
    by false e later = later

first_none : {A : Type 0} (a b : Option A) → option_or a b ≡ None → a ≡ None
first_none None b e = refl
first_none (Some x) b e = cc

-- what comes first doesn't matter where one of both has nothing
swap : {A : Type 0} (after list old before : Option A) → (list ≡ None) ⊎ (after ≡ None) → option_or after (option_or (option_or list old) before) ≡ option_or list (option_or after (option_or old before))
swap after None old before free = refl
swap None (Some x) old before free = refl
swap (Some y) (Some x) old before (inl e) = cc
swap (Some y) (Some x) old before (inr e) = cc

map_of-taken : (before : List (List Record)) (old new list : List Record) (after : List (List Record)) → run_map new ≡ over (run_map old) (run_map list) → AreFree (map_of (before ++ (old ∷ after))) list
    → map_of (before ++ (new ∷ after)) ≡ over (map_of (before ++ (old ∷ after))) (run_map list)
map_of-taken before old new list after e free = same_records (map_of (before ++ (new ∷ after))) (over (map_of (before ++ (old ∷ after))) (run_map list)) (λ q.
    let whole = get-split before old after q in
    get-split before new after q
    ∙ ap (λ o. option_or (get (map_of after) q) (option_or o (get (map_of before) q))) (ap (λ m. get m q) e ∙ get-over (run_map old) (run_map list) q)
    ∙ swap (get (map_of after) q) (get (run_map list) q) (get (run_map old) q) (get (map_of before) q) (apart q whole (free_at (map_of (before ++ (old ∷ after))) list free q))
    ∙ ap (option_or (get (run_map list) q)) (sym whole) ∙ sym (get-over (map_of (before ++ (old ∷ after))) (run_map list) q))
  where
    apart : (q : Slot) → get (map_of (before ++ (old ∷ after))) q ≡ option_or (get (map_of after) q) (option_or (get (run_map old) q) (get (map_of before) q)) → (look q list ≡ None) ⊎ (get (map_of (before ++ (old ∷ after))) q ≡ None)
        → (get (run_map list) q ≡ None) ⊎ (get (map_of after) q ≡ None)
    apart q whole (inl none) = inl (get-run_map list q ∙ none)
    apart q whole (inr none) = inr (first_none _ _ (sym whole ∙ none))

-- the run at an index takes in the list
pub map_of-set : (runs : List (List Record)) (i : ℕ) (old new list : List Record) → i < length runs → old ≡ get_or runs i old → run_map new ≡ over (run_map old) (run_map list) → All (λ (r : Record). contains_key (map_of runs) (slot_of r) ≡ false) list → Rises list
    → map_of (set runs i new) ≡ over (map_of runs) (last_records list)
map_of-set runs i old new list inside is e free rises =
    let whole : runs ≡ take i runs ++ (old ∷ drop (suc i) runs) = sym (set-get_or runs i old) ∙ ap (set runs i) (sym is) ∙ set_split runs i old inside in
    let free_here : AreFree (map_of (take i runs ++ (old ∷ drop (suc i) runs))) list = subst (λ rs. AreFree (map_of rs) list) whole (recursion_from_All (λ (r : Record). contains_key (map_of runs) (slot_of r) ≡ false) list free) in
    ap map_of (set_split runs i new inside) ∙ map_of-taken (take i runs) old new list (drop (suc i) runs) e free_here
    ∙ ap (λ rs. over (map_of rs) (run_map list)) (sym whole) ∙ ap (over (map_of runs)) (sym (last_records-run list rises))
