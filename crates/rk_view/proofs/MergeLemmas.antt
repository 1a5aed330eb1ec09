-- Two runs become one, record by record.
use Rattle.std.proofs.Common.{◌≡◌, ◌+◌, ◌<◌, ◌≤◌, length, arith, Bool, true, false, cond, T, List, [], ◌∷◌, ◌++◌, map, refl, sym, ap, subst, ◌∙◌}
use Rattle.std.proofs.lemmas.List.{map-append}
use Rattle.std.specs.Prelude.{Option, Some, None, ◌&&◌}
use Rattle.std.specs.Option.{option_or}
use Rattle.std.specs.List.{AllByRecursion}
use Rattle.std.specs.declared.cmp.Ordering.{Ordering}
use Rattle.std.specs.declared.cmp.Ordering.TheVariants.{Less, Equal, Greater}
use Rattle.std.specs.Ordering.{is_lt, eq_by_cmp, ordering_reverse}
use Rattle.std.specs.FinMap.Entries.{find as find_in, below_all}
use Rattle.rk_bytes.specs.declared.model.key.Record.{Record}
use Rattle.rk_bytes.specs.Model.InternalKey.{top_sequence}
use Rattle.rk_bytes.specs.Model.Records.{Slot, slot_cmp, slot_cmp-total, slot_of, entry_of, over, find-append, get-over}
use Rattle.rk_view.specs.Maps.{IsRun, look, run_map}
use Rattle.rk_view.specs.Merged.{taken, first_taken}
use Rattle.rk_view.proofs.SlotOrder.{slot_cmp-only_equal}
use Rattle.rk_view.proofs.RunLemmas.{both_true, lt-Less}
use Rattle.rk_view.proofs.MapLemmas.{same_records, get-run_map, or_assoc, or_cond}
use Rattle.rk_view.proofs.RunsLemmas.{or_one, tied_none}

-- the slot is below all of a run
abbrev pub IsBelow : Slot → List Record → Type 0
IsBelow q run = T (below_all slot_cmp q (map entry_of run))

pub both : (a b : Bool) → T a → T b → T (a && b)
both true b s t = t
both false b s t = absurd s

pub less_lt : (o : Ordering) → o ≡ Less → T (is_lt o)
less_lt o e = subst (λ x. T (is_lt x)) (sym e) tt

pub below_less : (p q : Slot) (run : List Record) → slot_cmp p q ≡ Less → IsBelow q run → IsBelow p run
below_less p q [] less below = tt
below_less p q (r ∷ run) less below =
    let parts = both_true (is_lt (slot_cmp q (slot_of r))) _ below in
    both _ _ (less_lt _ (slot_cmp-total.trans p q (slot_of r) less (lt-Less _ parts.0))) (below_less p q run less parts.1)

pub head_below : (r : Record) (run : List Record) → IsRun (r ∷ run) → IsBelow (slot_of r) run
head_below r run is = (both_true (below_all slot_cmp (slot_of r) (map entry_of run)) _ is.rises).0

pub tail_run : (r : Record) (run : List Record) → IsRun (r ∷ run) → IsRun run
tail_run r run is = record { rises = (both_true (below_all slot_cmp (slot_of r) (map entry_of run)) _ is.rises).1; numbered = is.numbered.1 }

-- a record is taken out of two runs
pub record Step (older younger : List Record) (r : Record) (older_left younger_left : List Record) : Type 0 where
  pub older_run : IsRun older_left
  pub younger_run : IsRun younger_left
  pub numbered : r.sequence ≤ top_sequence
  pub below_older : IsBelow (slot_of r) older_left
  pub below_younger : IsBelow (slot_of r) younger_left
  pub least : (q : Slot) → IsBelow q older → IsBelow q younger → slot_cmp q (slot_of r) ≡ Less
  pub same : (q : Slot) → option_or (look q younger) (look q older) ≡ cond (eq_by_cmp slot_cmp q (slot_of r)) (Some r) (option_or (look q younger_left) (look q older_left))

take_older : (r : Record) (older younger : List Record) → IsRun (r ∷ older) → IsRun younger → IsBelow (slot_of r) younger → Step (r ∷ older) younger r older younger
take_older r older younger a b below = record {
  older_run = tail_run r older a;
  younger_run = b;
  numbered = a.numbered.0;
  below_older = head_below r older a;
  below_younger = below;
  least = λ q one two. lt-Less _ (both_true (is_lt (slot_cmp q (slot_of r))) _ one).0;
  same = λ q. or_one (look q younger) (look q older) (eq_by_cmp slot_cmp q (slot_of r)) r (tied_none q r younger below);
}

take_younger : (s : Record) (older younger : List Record) → IsRun older → IsRun (s ∷ younger) → IsBelow (slot_of s) older → Step older (s ∷ younger) s older younger
take_younger s older younger a b below = record {
  older_run = a;
  younger_run = tail_run s younger b;
  numbered = b.numbered.0;
  below_older = below;
  below_younger = head_below s younger b;
  least = λ q one two. lt-Less _ (both_true (is_lt (slot_cmp q (slot_of s))) _ two).0;
  same = λ q. or_cond (eq_by_cmp slot_cmp q (slot_of s)) s (look q younger) (look q older);
}

one_test : {A : Type 0} (t u : Bool) (x y : A) (o p : Option A) → u ≡ t → option_or (cond t (Some y) o) (cond u (Some x) p) ≡ cond t (Some y) (option_or o p)
one_test true u x y o p e = refl
one_test false u x y o p e = ap (λ b. option_or o (cond b (Some x) p)) e

take_both : (r s : Record) (older younger : List Record) → IsRun (r ∷ older) → IsRun (s ∷ younger) → slot_cmp (slot_of r) (slot_of s) ≡ Equal → Step (r ∷ older) (s ∷ younger) s older younger
take_both r s older younger a b tied =
    let one : slot_of r ≡ slot_of s = slot_cmp-only_equal (slot_of r) (slot_of s) tied in
    record {
      older_run = tail_run r older a;
      younger_run = tail_run s younger b;
      numbered = b.numbered.0;
      below_older = subst (λ q. IsBelow q older) one (head_below r older a);
      below_younger = head_below s younger b;
      least = λ q x y. lt-Less _ (both_true (is_lt (slot_cmp q (slot_of s))) _ y).0;
      same = λ q. one_test (eq_by_cmp slot_cmp q (slot_of s)) (eq_by_cmp slot_cmp q (slot_of r)) r s (look q younger) (look q older) (ap (eq_by_cmp slot_cmp q) one);
    }

pub same_one : (x r : Record) → Some x ≡ Some r → x ≡ r
same_one x r e = cc

-- the record that comes first is taken
pub first_step : (older younger : List Record) (r : Record) → IsRun older → IsRun younger → (first_taken older younger).0 ≡ Some r → Step older younger r (first_taken older younger).1 (first_taken older younger).2
first_step [] [] r a b e = cc
first_step (x ∷ older) [] r a b e = subst (λ y. Step (x ∷ older) [] y older []) (same_one x r e) (take_older x older [] a b tt)
first_step [] (y ∷ younger) r a b e = subst (λ z. Step [] (y ∷ younger) z [] younger) (same_one y r e) (take_younger y [] younger a b tt)
first_step (x ∷ older) (y ∷ younger) r a b e = by (slot_cmp (slot_of x) (slot_of y)) refl e
  where
    by : (o : Ordering) → slot_cmp (slot_of x) (slot_of y) ≡ o → (taken o (x ∷ older) (y ∷ younger)).0 ≡ Some r → Step (x ∷ older) (y ∷ younger) r (taken o (x ∷ older) (y ∷ younger)).1 (taken o (x ∷ older) (y ∷ younger)).2
    by Less is e =
        let below : IsBelow (slot_of x) (y ∷ younger) = both _ _ (less_lt _ is) (below_less (slot_of x) (slot_of y) younger is (head_below y younger b)) in
        subst (λ z. Step (x ∷ older) (y ∷ younger) z older (y ∷ younger)) (same_one x r e) (take_older x older (y ∷ younger) a b below)
    by Equal is e = subst (λ z. Step (x ∷ older) (y ∷ younger) z older younger) (same_one y r e) (take_both x y older younger a b is)
    by Greater is e =
        let less : slot_cmp (slot_of y) (slot_of x) ≡ Less = slot_cmp-total.antisymm (slot_of y) (slot_of x) ∙ ap ordering_reverse is in
        let below : IsBelow (slot_of y) (x ∷ older) = both _ _ (less_lt _ less) (below_less (slot_of y) (slot_of x) older less (head_below x older a)) in
        subst (λ z. Step (x ∷ older) (y ∷ younger) z (x ∷ older) younger) (same_one y r e) (take_younger y (x ∷ older) younger a b below)

-- and there are fewer left
pub fewer_left : (older younger : List Record) (r : Record) → (first_taken older younger).0 ≡ Some r → length (first_taken older younger).1 + length (first_taken older younger).2 < length older + length younger
fewer_left [] [] r e = cc
fewer_left (x ∷ older) [] r e = omega arith
fewer_left [] (y ∷ younger) r e = omega arith
fewer_left (x ∷ older) (y ∷ younger) r e = by (slot_cmp (slot_of x) (slot_of y))
  where
    by : (o : Ordering) → length (taken o (x ∷ older) (y ∷ younger)).1 + length (taken o (x ∷ older) (y ∷ younger)).2 < length (x ∷ older) + length (y ∷ younger)
    by Less = omega arith
    by Equal = omega arith
    by Greater = omega arith

-- where none comes first, both runs are empty
pub first_none : (older younger : List Record) → (first_taken older younger).0 ≡ None → (older ≡ []) × (younger ≡ [])
first_none [] [] e = (refl, refl)
first_none (x ∷ older) [] e = cc
first_none [] (y ∷ younger) e = cc
first_none (x ∷ older) (y ∷ younger) e = absurd (by (slot_cmp (slot_of x) (slot_of y)) e)
  where
    by : (o : Ordering) → (taken o (x ∷ older) (y ∷ younger)).0 ≡ None → ⊥
    by Less e = cc
    by Equal e = cc
    by Greater e = cc

-- what is kept while two runs are merged: what is left of both, and what was taken
pub record Merging (older younger older_left younger_left merged : List Record) : Type 0 where
  pub older_run : IsRun older_left
  pub younger_run : IsRun younger_left
  pub run : IsRun merged
  pub before : AllByRecursion (λ r. IsBelow (slot_of r) older_left × IsBelow (slot_of r) younger_left) merged
  pub same : (q : Slot) → option_or (look q merged) (option_or (look q younger_left) (look q older_left)) ≡ option_or (look q younger) (look q older)

pub merging-start : (older younger : List Record) → IsRun older → IsRun younger → Merging older younger older younger []
merging-start older younger a b = record { older_run = a; younger_run = b; run = record { rises = tt; numbered = tt }; before = tt; same = λ q. refl }

below_last : (q : Slot) (run : List Record) (r : Record) → IsBelow q run → slot_cmp q (slot_of r) ≡ Less → IsBelow q (run ++ r ∷ [])
below_last q [] r below less = both _ _ (less_lt _ less) tt
below_last q (x ∷ run) r below less = let parts = both_true (is_lt (slot_cmp q (slot_of x))) _ below in both _ _ parts.0 (below_last q run r parts.1 less)

run_last : (run : List Record) (r : Record) → IsRun run → r.sequence ≤ top_sequence → AllByRecursion (λ o. slot_cmp (slot_of o) (slot_of r) ≡ Less) run → IsRun (run ++ r ∷ [])
run_last [] r is low before = record { rises = tt; numbered = (low, tt) }
run_last (x ∷ run) r is low before =
    let later = run_last run r (tail_run x run is) low before.1 in
    record { rises = both _ _ (below_last (slot_of x) run r (head_below x run is) before.0) later.rises; numbered = (is.numbered.0, later.numbered) }

module _ (older younger r_older r_younger : List Record) (r : Record) (left_older left_younger : List Record) (step : Step r_older r_younger r left_older left_younger) where
  before_r : (merged : List Record) → AllByRecursion (λ o. IsBelow (slot_of o) r_older × IsBelow (slot_of o) r_younger) merged → AllByRecursion (λ o. slot_cmp (slot_of o) (slot_of r) ≡ Less) merged
  before_r [] all = tt
  before_r (o ∷ merged) all = (step.least (slot_of o) all.0.0 all.0.1, before_r merged all.1)

  before_left : (merged : List Record) → AllByRecursion (λ o. slot_cmp (slot_of o) (slot_of r) ≡ Less) merged → AllByRecursion (λ o. IsBelow (slot_of o) left_older × IsBelow (slot_of o) left_younger) (merged ++ r ∷ [])
  before_left [] all = ((step.below_older, step.below_younger), tt)
  before_left (o ∷ merged) all = ((below_less (slot_of o) (slot_of r) left_older all.0 step.below_older, below_less (slot_of o) (slot_of r) left_younger all.0 step.below_younger), before_left merged all.1)

  pub merging-step : (merged : List Record) → Merging older younger r_older r_younger merged → Merging older younger left_older left_younger (merged ++ r ∷ [])
  merging-step merged m =
      let before = before_r merged m.before in
      record {
        older_run = step.older_run;
        younger_run = step.younger_run;
        run = run_last merged r m.run step.numbered before;
        before = before_left merged before;
        same = λ q.
            let left = option_or (look q left_younger) (look q left_older) in
            ap (λ o. option_or o left) (ap (find_in slot_cmp q) (map-append entry_of merged (r ∷ [])) ∙ find-append q (map entry_of merged) (entry_of r ∷ []))
            ∙ sym (or_assoc (look q merged) (cond (eq_by_cmp slot_cmp q (slot_of r)) (Some r) None) left)
            ∙ ap (option_or (look q merged)) (or_cond (eq_by_cmp slot_cmp q (slot_of r)) r None left ∙ sym (step.same q)) ∙ m.same q;
      }

pub or_nothing : {A : Type 0} (o : Option A) → option_or o None ≡ o
or_nothing None = refl
or_nothing (Some x) = refl

pub merging-end : (older younger merged : List Record) → Merging older younger [] [] merged → run_map merged ≡ over (run_map older) (run_map younger)
merging-end older younger merged m = same_records (run_map merged) (over (run_map older) (run_map younger)) (λ q.
    get-run_map merged q ∙ sym (or_nothing (look q merged)) ∙ m.same q ∙ (λ i. option_or (sym (get-run_map younger q) i) (sym (get-run_map older q) i)) ∙ sym (get-over (run_map older) (run_map younger) q))
