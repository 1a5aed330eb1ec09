-- What several sorted lists have in the order of slots.
use Rattle.std.proofs.Common.{◌≡◌, ℕ, zero, suc, ◌+◌, ◌<◌, ◌≤◌, Bool, true, false, not, cond, T, List, [], ◌∷◌, ◌++◌, length, map, reverse, take, drop, get_or, refl, sym, ap, subst, ◌∙◌, arith, add-one, set}
use Rattle.std.proofs.Math.Seq.{take-suc, take-suc-set, map-set_same}
use Rattle.std.proofs.lemmas.List.{reverse-append, map-append, map-set, get_or-map, length-map}
use Rattle.std.proofs.lemmas.List.Elements.{recursion_from_All, All-from_recursion, All-set}
use Rattle.std.specs.Prelude.{Option, Some, None, find, filter, flat_map, slice_get, ◌&&◌, IsSome, MatchOption}
use Rattle.std.specs.Option.{option_or}
use Rattle.std.specs.List.{AllByRecursion, AllWithin}
use Rattle.std.specs.Ordering.{is_lt, eq_by_cmp}
use Rattle.std.specs.FinMap.{values, get, entries, entries_sorted, get-entries, get-from_entries}
use Rattle.std.specs.FinMap.Entries.{find as find_in, below_all}
use Rattle.rk_bytes.specs.declared.model.key.Record.{Record}
use Rattle.rk_bytes.specs.Model.InternalKey.{top_sequence}
use Rattle.rk_bytes.specs.Model.Records.{Slot, slot_cmp, slot_cmp-total, slot_of, entry_of, find-append}
use Rattle.rk_view.specs.Places.{is_after}
use Rattle.rk_view.specs.Maps.{IsRun, map_of, entries_of, first_of}
use Rattle.rk_view.specs.Sources.{merged, AreRuns, IsBehind, IsLeast}
use Rattle.rk_view.proofs.SlotOrder.{slot_cmp-only_equal}
use Rattle.rk_view.proofs.RunLemmas.{both_true, Rises}
use Rattle.rk_view.proofs.MapLemmas.{run_map, same_records, get-run_map, values-run_map}
use Rattle.rk_view.proofs.FirstLemmas.{IsOfSlots, equal, own_run, own_entries, own_map_of, first-more, values-none, after_of_slots}
use Rattle.rk_view.proofs.ValuesLemmas.{in_place, values-run}
use Rattle.rk_view.proofs.ViewLemmas.{filter_all, each_later, follows, first_part, rest_part, all_filter}

turned_over : (b : Bool) → not b ≡ true → b ≡ false
turned_over true e = cc
turned_over false e = refl

turned_back : (b : Bool) → not b ≡ false → b ≡ true
turned_back true e = refl
turned_back false e = cc

drop-nil : {A : Type 0} (xs : List A) (i : ℕ) → xs ≡ [] → drop i xs ≡ []
drop-nil xs zero e = e
drop-nil xs (suc i) e = ap (drop (suc i)) e

-- where the first record comes after a place, all do
pub none_behind : (family : ℕ) (user : List ℕ) (below : ℕ) (run : List Record) → Rises run → IsBehind (is_after family user below) false run → filter (is_after family user below) run ≡ run
none_behind family user below [] rises behind = refl
none_behind family user below (r ∷ run) rises behind = filter_all (is_after family user below) (r ∷ run) (here, each_later (λ y. is_after family user below y ≡ true) r run (first_part r run rises) (λ y less. follows family user below r y here less))
  where
    back : (b : Bool) → false ≡ not b → b ≡ true
    back true e = refl
    back false e = cc

    here : is_after family user below r ≡ true
    here = back (is_after family user below r) behind

-- a part of a run that passes a test is one
below_filter : (p : Record → Bool) (q : Slot) (run : List Record) → T (below_all slot_cmp q (map entry_of run)) → T (below_all slot_cmp q (map entry_of (filter p run)))
below_filter p q [] below = tt
below_filter p q (r ∷ run) below = by (p r) (both_true (is_lt (slot_cmp q (slot_of r))) _ below).0 (below_filter p q run (both_true (is_lt (slot_cmp q (slot_of r))) _ below).1)
  where
    both : (a b : Bool) → T a → T b → T (a && b)
    both true b s t = t
    both false b s t = absurd s

    by : (b : Bool) → T (is_lt (slot_cmp q (slot_of r))) → T (below_all slot_cmp q (map entry_of (filter p run))) → T (below_all slot_cmp q (map entry_of (cond b (r ∷ filter p run) (filter p run))))
    by true less later = both (is_lt (slot_cmp q (slot_of r))) _ less later
    by false less later = later

pub rises_filter : (p : Record → Bool) (run : List Record) → Rises run → Rises (filter p run)
rises_filter p [] rises = tt
rises_filter p (r ∷ run) rises = by (p r) (below_filter p (slot_of r) run (first_part r run rises)) (rises_filter p run (rest_part r run rises))
  where
    both : (a b : Bool) → T a → T b → T (a && b)
    both true b s t = t
    both false b s t = absurd s

    by : (b : Bool) → T (below_all slot_cmp (slot_of r) (map entry_of (filter p run))) → Rises (filter p run) → Rises (cond b (r ∷ filter p run) (filter p run))
    by true below later = both (below_all slot_cmp (slot_of r) (map entry_of (filter p run))) _ below later
    by false below later = later

-- a record, if it passes a test
abbrev kept_if : (Record → Bool) → Option Record → Option Record
kept_if p None = None
kept_if p (Some r) = cond (p r) (Some r) None

module _ (p : Record → Bool) (of_slots : IsOfSlots p) where
  -- of a slot whose records fail the test nothing is kept
  failing : (q : Slot) (r : Record) (o : Option Record) → ((x : Record) → o ≡ Some x → slot_of x ≡ q) → slot_of r ≡ q → p r ≡ false → kept_if p o ≡ None
  failing q r None own same fails = refl
  failing q r (Some x) own same fails = by (p x) refl
    where
      by : (b : Bool) → p x ≡ b → cond b (Some x) None ≡ None
      by false e = refl
      by true e = absurd (let no : true ≡ false = sym (of_slots x r (own x refl ∙ sym same) e) ∙ fails in cc)

  kept_or : (q : Slot) (a b : Option Record) → ((x : Record) → a ≡ Some x → slot_of x ≡ q) → ((x : Record) → b ≡ Some x → slot_of x ≡ q) → option_or (kept_if p a) (kept_if p b) ≡ kept_if p (option_or a b)
  kept_or q None b own_a own_b = refl
  kept_or q (Some r) b own_a own_b = by (p r) refl
    where
      by : (c : Bool) → p r ≡ c → option_or (cond c (Some r) None) (kept_if p b) ≡ cond c (Some r) None
      by true e = refl
      by false e = failing q r b own_b (own_a r refl) e

  -- what a run keeps in a slot
  found_kept : (q : Slot) (run : List Record) → find_in slot_cmp q (map entry_of (filter p run)) ≡ kept_if p (find_in slot_cmp q (map entry_of run))
  found_kept q [] = refl
  found_kept q (r ∷ run) = by (p r) (eq_by_cmp slot_cmp q (slot_of r)) refl refl (found_kept q run)
    where
      by : (c b : Bool) → p r ≡ c → eq_by_cmp slot_cmp q (slot_of r) ≡ b → find_in slot_cmp q (map entry_of (filter p run)) ≡ kept_if p (find_in slot_cmp q (map entry_of run))
          → find_in slot_cmp q (map entry_of (cond c (r ∷ filter p run) (filter p run))) ≡ kept_if p (cond b (Some r) (find_in slot_cmp q (map entry_of run)))
      by true true passes same later = ap (λ e. cond e (Some r) (find_in slot_cmp q (map entry_of (filter p run)))) same ∙ sym (ap (λ e. cond e (Some r) None) passes)
      by true false passes other later = ap (λ e. cond e (Some r) (find_in slot_cmp q (map entry_of (filter p run)))) other ∙ later
      by false true fails same later = later ∙ failing q r (find_in slot_cmp q (map entry_of run)) (λ x found. own_run run q x found) (sym (slot_cmp-only_equal q (slot_of r) (equal _ same))) fails ∙ sym (ap (λ e. cond e (Some r) None) fails)
      by false false fails other later = later

  found_kept_of_all : (q : Slot) (runs : List (List Record)) → find_in slot_cmp q (flat_map (λ run. map entry_of run) (map (filter p) runs)) ≡ kept_if p (find_in slot_cmp q (flat_map (λ run. map entry_of run) runs))
  found_kept_of_all q [] = refl
  found_kept_of_all q (run ∷ runs) =
      find-append q (map entry_of (filter p run)) _ ∙ (λ i. option_or (found_kept q run i) (found_kept_of_all q runs i))
      ∙ kept_or q (find_in slot_cmp q (map entry_of run)) (find_in slot_cmp q (flat_map (λ one. map entry_of one) runs)) (own_run run q) (own_entries runs q)
      ∙ ap (kept_if p) (sym (find-append q (map entry_of run) _))

  turned : (runs : List (List Record)) → reverse (map (filter p) runs) ≡ map (filter p) (reverse runs)
  turned [] = refl
  turned (run ∷ runs) = reverse-append (filter p run ∷ []) (map (filter p) runs) ∙ ap (λ rs. rs ++ filter p run ∷ []) (turned runs) ∙ sym (ap (map (filter p)) (reverse-append (run ∷ []) runs) ∙ map-append (filter p) (reverse runs) (run ∷ []))

  kept_of_map : (q : Slot) (lefts : List (List Record)) → get (map_of (map (filter p) lefts)) q ≡ kept_if p (get (map_of lefts) q)
  unfolding map_of
  kept_of_map q lefts =
      get-from_entries slot_cmp-total (entries_of (map (filter p) lefts)) q ∙ ap (λ rs. find_in slot_cmp q (flat_map (λ run. map entry_of run) rs)) (turned lefts)
      ∙ found_kept_of_all q (reverse lefts) ∙ ap (kept_if p) (sym (get-from_entries slot_cmp-total (entries_of lefts) q))

  -- the records of lists that pass a test are those of what is merged
  pub merged-filter : (lefts : List (List Record)) → AreRuns lefts → merged (map (filter p) lefts) ≡ filter p (merged lefts)
  merged-filter lefts all =
      let all_of : List Record = merged lefts in
      let stands : map entry_of all_of ≡ entries (map_of lefts) = in_place (entries (map_of lefts)) (entries_sorted (map_of lefts)) (λ q x found. own_map_of lefts q x (get-entries (map_of lefts) q ∙ found)) in
      ap values (same_records (map_of (map (filter p) lefts)) (run_map (filter p all_of)) (λ q.
      kept_of_map q lefts ∙ ap (kept_if p) (get-entries (map_of lefts) q ∙ ap (find_in slot_cmp q) (sym stands)) ∙ sym (found_kept q all_of) ∙ sym (get-run_map (filter p all_of) q)))
      ∙ values-run_map (filter p all_of) (rises_filter p all_of (values-run lefts all).rises)

-- the same of what comes after a place
pub merged_after : (family : ℕ) (user : List ℕ) (below : ℕ) (lefts : List (List Record)) → AreRuns lefts → merged (map (filter (is_after family user below)) lefts) ≡ filter (is_after family user below) (merged lefts)
merged_after family user below = merged-filter (is_after family user below) (after_of_slots family user below)

-- the first of what is left is the one that is found by a test that all pass
find_any : (xs : List Record) → find (λ (r : Record). true) xs ≡ slice_get xs 0
find_any [] = refl
find_any (x ∷ xs) = refl

-- the first record, with one more source
pub first_of_more : (lefts : List (List Record)) (i : ℕ) → i < length lefts → AreRuns lefts
    → slice_get (merged (take (i + 1) lefts)) 0 ≡ first_of (slice_get (merged (take i lefts)) 0) (slice_get (get_or lefts i []) 0)
first_of_more lefts i within all =
    ap (λ k. slice_get (merged (take k lefts)) 0) (add-one i) ∙ ap (λ ls. slice_get (merged ls) 0) (take-suc lefts i [] within)
    ∙ sym (find_any (merged (take i lefts ++ get_or lefts i [] ∷ [])))
    ∙ first-more (λ r. true) (λ r s same e. refl) (take i lefts) (own_map_of (take i lefts)) (get_or lefts i []) (all i [] within).rises
    ∙ (λ j. first_of (find_any (merged (take i lefts)) j) (find_any (get_or lefts i []) j))

pub first_of_none : slice_get (merged []) 0 ≡ None
first_of_none = ap (λ rs. slice_get rs 0) values-none

-- the record that comes first, and the index of the list whose first it is
abbrev pub IsHeldAt : List (List Record) → ℕ → Option ℕ → Option Record → Type 0
IsHeldAt lefts n None None = Unit {0}
IsHeldAt lefts n None (Some r) = ⊥
IsHeldAt lefts n (Some i) None = ⊥
IsHeldAt lefts n (Some i) (Some r) = (i < n) × (slice_get (get_or lefts i []) 0 ≡ Some r)

pub held_new : (lefts : List (List Record)) (i : ℕ) (o : Option Record) → IsSome o → o ≡ slice_get (get_or lefts i []) 0 → IsHeldAt lefts (i + 1) (Some i) o
held_new lefts i None some e = cc
held_new lefts i (Some r) some e = (omega arith, sym e)

pub held_still : (lefts : List (List Record)) (i : ℕ) (l : Option ℕ) (o : Option Record) → IsHeldAt lefts i l o → IsHeldAt lefts (i + 1) l o
held_still lefts i None None held = tt
held_still lefts i None (Some r) held = held
held_still lefts i (Some k) None held = held
held_still lefts i (Some k) (Some r) held = (let less : k < i = held.0 in omega arith, held.1)

pub nothing_first : (xs : List Record) → None ≡ slice_get xs 0 → xs ≡ []
nothing_first [] e = refl
nothing_first (x ∷ xs) e = cc

pub least_held : (lefts : List (List Record)) (l : Option ℕ) (o : Option Record) → IsHeldAt lefts (length lefts) l o → o ≡ slice_get (merged lefts) 0 → MatchOption l (merged lefts ≡ []) (λ i. IsLeast lefts i)
least_held lefts None None held e = nothing_first (merged lefts) e
least_held lefts None (Some r) held e = absurd held
least_held lefts (Some i) None held e = absurd held
least_held lefts (Some i) (Some r) held e = record { first = r; within = held.0; head = held.1; least = sym e }

-- one source after another goes on
module _ {A : Type 0} (left : A → List Record) (keep : List Record → List Record) (sources : List A) (i : ℕ) (next d : A) where
  pub set_runs : AreRuns (map left sources) → IsRun (left next) → AreRuns (map left (set sources i next))
  set_runs all is = subst AreRuns (sym (map-set left sources i next)) (All-set IsRun (map left sources) i (left next) is all)

  pub set_same : i < length sources → keep (left next) ≡ keep (left (get_or sources i d)) → map keep (map left (set sources i next)) ≡ map keep (map left sources)
  set_same within same = ap (map keep) (map-set left sources i next) ∙ map-set_same keep (map left sources) i (left next) [] (same ∙ ap keep (sym (get_or-map left sources i d [] within)))

  pub set_done : i < length sources → left next ≡ keep (left (get_or sources i d)) → keep (left next) ≡ keep (left (get_or sources i d)) → map keep (take i (map left sources)) ≡ take i (map left sources)
      → map keep (take (i + 1) (map left (set sources i next))) ≡ take (i + 1) (map left (set sources i next))
  set_done within ok same done =
      let lefts : List (List Record) = map left sources in
      let inside : i < length lefts = subst (λ n. i < n) (sym (length-map sources left)) within in
      let more : take (i + 1) (map left (set sources i next)) ≡ take i lefts ++ left next ∷ [] = ap (λ k. take k (map left (set sources i next))) (add-one i) ∙ ap (take (suc i)) (map-set left sources i next) ∙ take-suc-set lefts i (left next) inside in
      ap (map keep) more ∙ map-append keep (take i lefts) (left next ∷ []) ∙ (λ j. done j ++ (same ∙ sym ok) j ∷ []) ∙ sym more

pub run_of_source : {A : Type 0} (left : A → List Record) (sources : List A) (i : ℕ) (d : A) → i < length sources → AreRuns (map left sources) → IsRun (left (get_or sources i d))
run_of_source left sources i d within all = subst IsRun (get_or-map left sources i d [] within) (all i [] (subst (λ n. i < n) (sym (length-map sources left)) within))

-- the record that a source lends, and the one that it is known to have first
pub lent_first : {A : Type 0} (left : A → List Record) (sources : List A) (i : ℕ) (x : A) (o : Option Record) (r : Record) → i < length (map left sources) → x ≡ get_or sources i x → o ≡ slice_get (left x) 0 → slice_get (get_or (map left sources) i []) 0 ≡ Some r → o ≡ Some r
lent_first left sources i x o r within is head first =
    let inside : i < length sources = subst (λ n. i < n) (length-map sources left) within in
    head ∙ ap (λ s. slice_get (left s) 0) is ∙ ap (λ l. slice_get l 0) (sym (get_or-map left sources i x [] inside)) ∙ first

-- what of a run comes after a place, where the place was found
pub dropped_at : {A : Type 0} (p : A → Bool) (xs : List A) (i : ℕ) → i ≤ length xs → AllWithin (λ y. not (p y) ≡ true) xs 0 i → AllWithin (λ y. not (p y) ≡ false) xs i (length xs) → drop i xs ≡ filter p xs
dropped_at p [] i inside before after = drop-nil [] i refl
dropped_at p (x ∷ xs) zero inside before after =
    sym (ap (λ b. cond b (x ∷ filter p xs) (filter p xs)) (turned_back (p x) (after 0 x (omega arith) (omega arith)))
    ∙ ap (λ ys. x ∷ ys) (sym (dropped_at p xs 0 (omega arith) (λ k d low high. absurd (omega arith)) (λ k d low high. after (suc k) d (omega arith) (omega arith)))))
dropped_at p (x ∷ xs) (suc i) inside before after =
    dropped_at p xs i (omega arith) (λ k d low high. before (suc k) d (omega arith) (omega arith)) (λ k d low high. after (suc k) d (omega arith) (omega arith))
    ∙ sym (ap (λ b. cond b (x ∷ filter p xs) (filter p xs)) (turned_over (p x) (before 0 x (omega arith) (omega arith))))

pub head_in : {A : Type 0} (left : A → List Record) (sources : List A) (i : ℕ) (d : A) (r : Record) → i < length (map left sources) → slice_get (get_or (map left sources) i []) 0 ≡ Some r → slice_get (left (get_or sources i d)) 0 ≡ Some r
head_in left sources i d r within first =
    let inside : i < length sources = subst (λ n. i < n) (length-map sources left) within in
    ap (λ l. slice_get l 0) (sym (get_or-map left sources i d [] inside)) ∙ first

-- what of several runs comes after a place
run_filter : (p : Record → Bool) (run : List Record) → IsRun run → IsRun (filter p run)
run_filter p run is = record { rises = rises_filter p run is.rises; numbered = all_filter (λ r. r.sequence ≤ top_sequence) p run is.numbered }

each_kept : (p : Record → Bool) (runs : List (List Record)) → AllByRecursion IsRun runs → AllByRecursion IsRun (map (filter p) runs)
each_kept p [] all = tt
each_kept p (run ∷ runs) all = (run_filter p run all.0, each_kept p runs all.1)

pub runs_kept : (p : Record → Bool) (runs : List (List Record)) → AreRuns runs → AreRuns (map (filter p) runs)
runs_kept p runs all = All-from_recursion IsRun (map (filter p) runs) (each_kept p runs (recursion_from_All IsRun runs all))

-- one more cursor
pub cursor_more : {A : Type 0} (left : A → List Record) (keep : List Record → List Record) (cursors : List A) (x : A) (runs : List (List Record)) (i : ℕ) (d : List Record) → i < length cursors → i < length runs
    → map left (take i cursors) ≡ map keep (take i runs) → left x ≡ keep (get_or runs i d) → map left (take (i + 1) (set cursors i x)) ≡ map keep (take (i + 1) runs)
cursor_more left keep cursors x runs i d inside within so here =
    ap (λ k. map left (take k (set cursors i x))) (add-one i) ∙ ap (map left) (take-suc-set cursors i x inside) ∙ map-append left (take i cursors) (x ∷ [])
    ∙ (λ j. so j ++ here j ∷ [])
    ∙ sym (ap (λ k. map keep (take k runs)) (add-one i) ∙ ap (map keep) (take-suc runs i d within) ∙ map-append keep (take i runs) (get_or runs i d ∷ []))
