-- Record maps that are made up of runs.
use Rattle.std.proofs.Common.{◌≡◌, Bool, true, false, cond, List, [], ◌∷◌, ◌++◌, map, refl, sym, ap, ◌∙◌}
use Rattle.std.proofs.lemmas.List.{reverse-append}
use Rattle.std.specs.Prelude.{Option, Some, None, flat_map}
use Rattle.std.specs.Option.{option_or}
use Rattle.std.specs.Ordering.{eq_by_cmp}
use Rattle.std.specs.FinMap.{entries, entries_sorted, values, get, insert, get-entries, get-from_entries, get-insert, same_map}
use Rattle.std.specs.FinMap.Entries.{find as find_in, same_entries}
use Rattle.rk_bytes.specs.declared.model.key.Record.{Record}
use Rattle.rk_bytes.specs.Model.Records.{Slot, RecordMap, slot_cmp, slot_cmp-total, entry_of, over, find-append, get-over}
use Rattle.rk_view.specs.Maps.{entries_of, map_of}
use Rattle.rk_view.proofs.SlotOrder.{slot_cmp-only_equal}
use Rattle.rk_view.proofs.RunLemmas.{Rises}
pub use Rattle.rk_view.specs.Maps.{run_map}

-- maps that answer alike are one
pub same_records : (a b : RecordMap) → ((q : Slot) → get a q ≡ get b q) → a ≡ b
same_records a b alike = same_map slot_cmp-total slot_cmp-only_equal a b alike

pub get-run_map : (run : List Record) (q : Slot) → get (run_map run) q ≡ find_in slot_cmp q (map entry_of run)
get-run_map run q = get-from_entries slot_cmp-total (map entry_of run) q

-- a run is what its map has
pub entries-run_map : (run : List Record) → Rises run → entries (run_map run) ≡ map entry_of run
entries-run_map run rises =
    same_entries slot_cmp slot_cmp-total slot_cmp-only_equal (entries (run_map run)) (map entry_of run) (entries_sorted (run_map run)) rises
    (λ q. sym (get-entries (run_map run) q) ∙ get-run_map run q)

values_entries : (run : List Record) → map (λ (e : Slot × Record). e.1) (map entry_of run) ≡ run
values_entries [] = refl
values_entries (r ∷ run) = ap (λ xs. r ∷ xs) (values_entries run)

pub values-run_map : (run : List Record) → Rises run → values (run_map run) ≡ run
values-run_map run rises = ap (map (λ (e : Slot × Record). e.1)) (entries-run_map run rises) ∙ values_entries run

-- a younger run over the older ones
pub map_of-more : (runs : List (List Record)) (run : List Record) → map_of (runs ++ run ∷ []) ≡ over (map_of runs) (run_map run)
unfolding map_of
map_of-more runs run = same_records (map_of (runs ++ run ∷ [])) (over (map_of runs) (run_map run)) (λ q.
    get-from_entries slot_cmp-total (entries_of (runs ++ run ∷ [])) q
    ∙ ap (λ rs. find_in slot_cmp q (flat_map (λ one. map entry_of one) rs)) (reverse-append runs (run ∷ []))
    ∙ find-append q (map entry_of run) (entries_of runs)
    ∙ (λ i. option_or (sym (get-run_map run q) i) (sym (get-from_entries slot_cmp-total (entries_of runs) q) i))
    ∙ sym (get-over (map_of runs) (run_map run) q))

pub or_assoc : {A : Type 0} (a b c : Option A) → option_or a (option_or b c) ≡ option_or (option_or a b) c
or_assoc None b c = refl
or_assoc (Some x) b c = refl

pub over-assoc : (a b c : RecordMap) → over (over a b) c ≡ over a (over b c)
over-assoc a b c = same_records (over (over a b) c) (over a (over b c)) (λ q.
    get-over (over a b) c q ∙ ap (option_or (get c q)) (get-over a b q) ∙ or_assoc (get c q) (get b q) (get a q)
    ∙ ap (λ o. option_or o (get a q)) (sym (get-over b c q)) ∙ sym (get-over a (over b c) q))

pub or_cond : {A : Type 0} (b : Bool) (x : A) (o p : Option A) → option_or (cond b (Some x) o) p ≡ cond b (Some x) (option_or o p)
or_cond true x o p = refl
or_cond false x o p = refl

pub over-insert : (a b : RecordMap) (k : Slot) (r : Record) → over a (insert b k r) ≡ insert (over a b) k r
over-insert a b k r = same_records (over a (insert b k r)) (insert (over a b) k r) (λ q.
    get-over a (insert b k r) q ∙ ap (λ o. option_or o (get a q)) (get-insert slot_cmp-total b k r q)
    ∙ or_cond (eq_by_cmp slot_cmp q k) r (get b q) (get a q) ∙ ap (cond (eq_by_cmp slot_cmp q k) (Some r)) (sym (get-over a b q))
    ∙ sym (get-insert slot_cmp-total (over a b) k r q))
