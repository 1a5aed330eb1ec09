-- The records of the map that runs make up stand as in a run.
use Rattle.std.proofs.Common.{◌≡◌, T, List, [], ◌∷◌, ◌++◌, map, reverse, refl, sym, ap, subst, ◌∙◌}
use Rattle.std.specs.Prelude.{Some, flat_map}
use Rattle.std.specs.List.{All, AllByRecursion}
use Rattle.std.proofs.lemmas.List.Elements.{recursion_from_All}
use Rattle.std.proofs.lemmas.List.{reverse-append}
use Rattle.std.specs.FinMap.{entries, entries_sorted, values, get-entries, from_entries, entries-insert}
use Rattle.std.specs.FinMap.Entries.{find as find_in, is_sorted, below_all}
use Rattle.std.specs.Cmp.{tied_itself}
use Rattle.std.specs.Ordering.{is_eq}
use Rattle.std.specs.Prelude.{cond}
use Rattle.rk_bytes.specs.declared.model.key.Record.{Record}
use Rattle.rk_bytes.specs.Model.Records.{Slot, RecordMap, slot_cmp, slot_cmp-total, slot_of, entry_of}
use Rattle.rk_view.specs.Maps.{IsRun, AreNumbered, map_of, entries_of}
use Rattle.rk_view.proofs.RunLemmas.{both_true}
use Rattle.rk_view.proofs.MapLemmas.{entries-run_map}
use Rattle.rk_view.proofs.FirstLemmas.{InOwnSlots, own_map_of, found_more}
use Rattle.rk_view.proofs.RunsLemmas.{NumberedEntries, put_numbered, numbered_entries}

pub in_place : (es : List (Slot × Record)) → T (is_sorted slot_cmp es) → InOwnSlots (λ q. find_in slot_cmp q es) → map entry_of (map (λ (e : Slot × Record). e.1) es) ≡ es
in_place [] sorted own = refl
in_place (e ∷ es) sorted own =
    let here : slot_of e.1 ≡ e.0 = own e.0 e.1 (ap (λ o. cond (is_eq o) (Some e.1) (find_in slot_cmp e.0 es)) (tied_itself slot_cmp-total e.0)) in
    let parts = both_true (below_all slot_cmp e.0 es) (is_sorted slot_cmp es) sorted in
    λ i. (here i, e.1) ∷ in_place es parts.1 (λ q x found. own q x (found_more q e es x parts.0 found)) i

numbered_append : (xs ys : List (Slot × Record)) → NumberedEntries xs → NumberedEntries ys → NumberedEntries (xs ++ ys)
numbered_append [] ys a b = b
numbered_append (x ∷ xs) ys a b = (a.0, numbered_append xs ys a.1 b)

from_numbered : (es : List (Slot × Record)) → NumberedEntries es → NumberedEntries (entries (from_entries {R = slot_cmp} es))
from_numbered [] all = subst NumberedEntries (sym (entries-run_map [] tt)) tt
from_numbered (e ∷ es) all = subst NumberedEntries (sym (entries-insert slot_cmp-total (from_entries es) e.0 e.1)) (put_numbered e.0 e.1 (entries (from_entries es)) all.0 (from_numbered es all.1))

flat_numbered : (runs : List (List Record)) → AllByRecursion AreNumbered runs → NumberedEntries (flat_map (λ run. map entry_of run) runs)
flat_numbered [] all = tt
flat_numbered (run ∷ runs) all = numbered_append (map entry_of run) _ (numbered_entries run all.0) (flat_numbered runs all.1)

values_numbered : (es : List (Slot × Record)) → NumberedEntries es → AreNumbered (map (λ (e : Slot × Record). e.1) es)
values_numbered [] all = tt
values_numbered (e ∷ es) all = (all.0, values_numbered es all.1)

each_numbered : (runs : List (List Record)) → AllByRecursion (λ (run : List Record). IsRun run) runs → AllByRecursion AreNumbered runs
each_numbered [] all = tt
each_numbered (run ∷ runs) all = (all.0.numbered, each_numbered runs all.1)

reversed : (runs : List (List Record)) → AllByRecursion AreNumbered runs → AllByRecursion AreNumbered (reverse runs)
reversed [] all = tt
reversed (run ∷ runs) all = subst (AllByRecursion AreNumbered) (sym (reverse-append (run ∷ []) runs)) (all_append (reverse runs) (reversed runs all.1) (all.0, tt))
  where
    all_append : (rs : List (List Record)) → AllByRecursion AreNumbered rs → AllByRecursion AreNumbered (run ∷ []) → AllByRecursion AreNumbered (rs ++ run ∷ [])
    all_append [] a b = b
    all_append (r ∷ rs) a b = (a.0, all_append rs a.1 b)

map_numbered : (runs : List (List Record)) → AllByRecursion AreNumbered runs → AreNumbered (values (map_of runs))
unfolding map_of
map_numbered runs all = values_numbered (entries (from_entries (entries_of runs))) (from_numbered (entries_of runs) (flat_numbered (reverse runs) (reversed runs all)))

pub values-run : (runs : List (List Record)) → All (λ (run : List Record). IsRun run) runs → IsRun (values (map_of runs))
values-run runs all = record {
  rises = let m : RecordMap = map_of runs in subst (λ es. T (is_sorted slot_cmp es)) (sym (in_place (entries m) (entries_sorted m) (λ q x found. own_map_of runs q x (get-entries m q ∙ found)))) (entries_sorted m);
  numbered = map_numbered runs (each_numbered runs (recursion_from_All (λ (run : List Record). IsRun run) runs all));
}
