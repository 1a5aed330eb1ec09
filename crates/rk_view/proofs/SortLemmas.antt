-- A stable sort of records turned round, and the first one of each slot: the last record of each slot, in their order.
use Rattle.std.proofs.Common.{◌≡◌, ◌≤◌, Bool, true, false, not, cond, List, [], ◌∷◌, reverse, length, refl, sym, ap, subst, ◌∙◌}
use Rattle.std.proofs.lemmas.List.Elements.{recursion_from_All}
use Rattle.std.proofs.lemmas.List.Sorted.{All-permutation}
use Rattle.std.proofs.lemmas.List.Kept.{IsStrictlySortedBy-dedup}
use Rattle.std.proofs.lemmas.Map.Keys.{sorted_from_all_adjacent}
use Rattle.std.specs.Prelude.{◌&&◌, Option, Some, None, filter, slice_get}
use Rattle.std.specs.List.{All, AllAdjacentBelow, AllByRecursion, dedup, dedup_from}
use Rattle.std.specs.List.Sorted.{IsPermutation, IsSorted, IsStrictlySortedBy, ties}
use Rattle.std.specs.Cmp.{IsTotalOrder, on_total}
use Rattle.std.specs.declared.cmp.Ordering.{Ordering}
use Rattle.std.specs.declared.cmp.Ordering.TheVariants.{Less, Equal, Greater}
use Rattle.std.specs.Ordering.{is_lt, is_eq, eq_by_cmp}
use Rattle.rk_bytes.specs.declared.model.key.Record.{Record}
use Rattle.rk_bytes.specs.Model.InternalKey.{top_sequence}
use Rattle.rk_bytes.specs.Model.Records.{Slot, slot_cmp, slot_cmp-total, slot_of, last_records, get-last_records}
use Rattle.rk_view.specs.Maps.{IsRun, AreNumbered, look, run_map}
use Rattle.rk_view.proofs.SlotOrder.{slot_cmp-only_equal, is_lt-Less}
use Rattle.rk_view.proofs.RunLemmas.{Rises, turned_order}
use Rattle.rk_view.proofs.MapLemmas.{same_records, get-run_map}
use Rattle.rk_view.proofs.FirstLemmas.{equal, own_run}
use Rattle.rk_view.proofs.RunsLemmas.{last_records-run}
use Rattle.rk_view.proofs.MergeLemmas.{IsBelow, both, less_lt}

-- the order of records by their slots
abbrev pub by_slot : Record → Record → Ordering
by_slot r s = slot_cmp (slot_of r) (slot_of s)

abbrev pub before : Record → Record → Bool
before r s = is_lt (by_slot r s)

abbrev pub of_one_slot : Record → Record → Bool
of_one_slot r s = is_eq (by_slot r s)

pub tied : (r s : Record) → ties before r s ≡ of_one_slot r s
tied r s = by (by_slot r s) refl
  where
    by : (o : Ordering) → by_slot r s ≡ o → ties before r s ≡ of_one_slot r s
    by Less e = ap (λ o. not (is_lt o) && not (before s r)) e ∙ sym (ap is_eq e)
    by Equal e = ap (λ o. not (is_lt o) && not (before s r)) e ∙ ap (λ o. not (is_lt o)) (turned_order (slot_of r) (slot_of s) Equal e) ∙ sym (ap is_eq e)
    by Greater e = ap (λ o. not (is_lt o) && not (before s r)) e ∙ ap (λ o. not (is_lt o)) (turned_order (slot_of r) (slot_of s) Greater e) ∙ sym (ap is_eq e)

-- the first record of a slot is the first of those that tie
head_tied : (r : Record) (xs : List Record) → slice_get (filter (ties before r) xs) 0 ≡ look (slot_of r) xs
head_tied r [] = refl
head_tied r (x ∷ xs) = ap (λ b. slice_get (cond b (x ∷ filter (ties before r) xs) (filter (ties before r) xs)) 0) (tied r x) ∙ by (of_one_slot r x) (head_tied r xs)
  where
    by : (b : Bool) → slice_get (filter (ties before r) xs) 0 ≡ look (slot_of r) xs → slice_get (cond b (x ∷ filter (ties before r) xs) (filter (ties before r) xs)) 0 ≡ cond b (Some x) (look (slot_of r) xs)
    by true later = refl
    by false later = later

-- lists with the same records of each slot, in the same order, have the same first ones
alike_look : (xs ys : List Record) → ((r : Record) → filter (ties before r) ys ≡ filter (ties before r) xs) → (q : Slot) → look q ys ≡ look q xs
alike_look xs ys stable q = by (look q ys) (look q xs) refl refl
  where
    at : (r : Record) → slot_of r ≡ q → look q ys ≡ look q xs
    at r is = subst (λ s. look s ys ≡ look s xs) is (sym (head_tied r ys) ∙ ap (λ rs. slice_get rs 0) (stable r) ∙ head_tied r xs)

    by : (o p : Option Record) → look q ys ≡ o → look q xs ≡ p → look q ys ≡ look q xs
    by None None e f = e ∙ sym f
    by (Some r) p e f = at r (own_run ys q r e)
    by None (Some r) e f = at r (own_run xs q r f)

same_slot : (q : Slot) (b : Bool) (r s : Record) (o : Option Record) → cond b (Some r) o ≡ cond b (Some r) (cond b (Some s) o)
same_slot q true r s o = refl
same_slot q false r s o = refl

-- of neighbours of one slot the first is kept
kept_look : (q : Slot) (r : Record) (xs : List Record) → look q (dedup_from of_one_slot r xs) ≡ look q (r ∷ xs)
kept_look q r [] = refl
kept_look q r (x ∷ xs) = by (kept_look q r xs) (kept_look q x xs) (of_one_slot x r) refl
  where
    by : look q (dedup_from of_one_slot r xs) ≡ look q (r ∷ xs) → look q (dedup_from of_one_slot x xs) ≡ look q (x ∷ xs) → (b : Bool) → of_one_slot x r ≡ b → look q (cond b (dedup_from of_one_slot r xs) (r ∷ dedup_from of_one_slot x xs)) ≡ look q (r ∷ x ∷ xs)
    by first second true e =
        let one : slot_of x ≡ slot_of r = slot_cmp-only_equal (slot_of x) (slot_of r) (equal _ e) in
        first ∙ same_slot q (eq_by_cmp slot_cmp q (slot_of r)) r x (look q xs)
        ∙ ap (λ s. cond (eq_by_cmp slot_cmp q (slot_of r)) (Some r) (cond (eq_by_cmp slot_cmp q s) (Some x) (look q xs))) (sym one)
    by first second false e = ap (cond (eq_by_cmp slot_cmp q (slot_of r)) (Some r)) second

dedup_look : (q : Slot) (xs : List Record) → look q (dedup of_one_slot xs) ≡ look q xs
dedup_look q [] = refl
dedup_look q (x ∷ xs) = kept_look q x xs

kept_numbered : (r : Record) (xs : List Record) → r.sequence ≤ top_sequence → AreNumbered xs → AreNumbered (dedup_from of_one_slot r xs)
kept_numbered r [] here all = (here, tt)
kept_numbered r (x ∷ xs) here all = by (kept_numbered r xs here all.1) (kept_numbered x xs all.0 all.1) (of_one_slot x r)
  where
    by : AreNumbered (dedup_from of_one_slot r xs) → AreNumbered (dedup_from of_one_slot x xs) → (b : Bool) → AreNumbered (cond b (dedup_from of_one_slot r xs) (r ∷ dedup_from of_one_slot x xs))
    by first second true = first
    by first second false = (here, second)

dedup_numbered : (xs : List Record) → AreNumbered xs → AreNumbered (dedup of_one_slot xs)
dedup_numbered [] all = tt
dedup_numbered (x ∷ xs) all = kept_numbered x xs all.0 all.1

pub by_slot-total : IsTotalOrder by_slot
by_slot-total = on_total slot_of slot_cmp-total

strictly_below : (r : Record) (xs : List Record) → AllByRecursion (λ y. by_slot r y ≡ Less) xs → IsBelow (slot_of r) xs
strictly_below r [] all = tt
strictly_below r (x ∷ xs) all = both _ _ (less_lt _ all.0) (strictly_below r xs all.1)

strictly_rises : (xs : List Record) → IsStrictlySortedBy by_slot xs → Rises xs
unfolding IsStrictlySortedBy
strictly_rises [] up = tt
strictly_rises (x ∷ xs) up = both _ _ (strictly_below x xs up.0) (strictly_rises xs up.1)

pub sorted_run : (xs ys : List Record) → All (λ (r : Record). r.sequence ≤ top_sequence) xs → IsPermutation (reverse xs) ys → IsPermutation xs (reverse xs) → IsSorted by_slot ys → IsRun (dedup of_one_slot ys)
sorted_run xs ys low moved turned sorted = record {
  rises = strictly_rises (dedup of_one_slot ys) (IsStrictlySortedBy-dedup by_slot-total (λ x y. refl) ys sorted);
  numbered = let P = λ (r : Record). r.sequence ≤ top_sequence in dedup_numbered ys (recursion_from_All P ys (All-permutation P (reverse xs) ys moved (All-permutation P xs (reverse xs) turned low)));
}

pub sorted_map : (xs ys : List Record) → IsRun (dedup of_one_slot ys) → ((r : Record) → filter (ties before r) ys ≡ filter (ties before r) (reverse xs)) → last_records (dedup of_one_slot ys) ≡ last_records xs
sorted_map xs ys run stable = last_records-run (dedup of_one_slot ys) run.rises ∙ same_records (run_map (dedup of_one_slot ys)) (last_records xs) (λ q.
    get-run_map (dedup of_one_slot ys) q ∙ dedup_look q ys ∙ alike_look (reverse xs) ys stable q ∙ sym (get-last_records xs q))

-- neighbours whose slots rise
pub strictly_sorted : (xs : List Record) → AllAdjacentBelow (λ x y. true ≡ before x y) xs (length xs) → IsStrictlySortedBy by_slot xs
unfolding IsStrictlySortedBy
strictly_sorted [] up = tt
strictly_sorted (x ∷ xs) up = sorted_from_all_adjacent by_slot-total (x ∷ xs) x (λ k within. is_lt-Less _ (sym (up k x within)))

-- records whose slots rise already, and so none of them is dropped
pub risen_run : (xs ys : List Record) → All (λ (r : Record). r.sequence ≤ top_sequence) xs → IsPermutation (reverse xs) ys → IsPermutation xs (reverse xs) → IsStrictlySortedBy by_slot ys → IsRun ys
risen_run xs ys low moved turned up = record {
  rises = strictly_rises ys up;
  numbered = let P = λ (r : Record). r.sequence ≤ top_sequence in recursion_from_All P ys (All-permutation P (reverse xs) ys moved (All-permutation P xs (reverse xs) turned low));
}

pub risen_map : (xs ys : List Record) → IsRun ys → ((r : Record) → filter (ties before r) ys ≡ filter (ties before r) (reverse xs)) → last_records ys ≡ last_records xs
risen_map xs ys run stable = last_records-run ys run.rises ∙ same_records (run_map ys) (last_records xs) (λ q.
    get-run_map ys q ∙ alike_look (reverse xs) ys stable q ∙ sym (get-last_records xs q))
