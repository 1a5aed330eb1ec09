-- The first record of a map that passes a test, where records of one slot pass it alike.
use Rattle.std.proofs.Common.{◌≡◌, ℕ, Bool, true, false, cond, T, List, [], ◌∷◌, ◌++◌, map, reverse, refl, sym, ap, subst, ◌∙◌}
use Rattle.std.specs.Prelude.{Option, Some, None, ◌||◌, find, flat_map, is_some, if◌then◌else◌}
use Rattle.std.specs.Option.{option_or}
use Rattle.std.specs.declared.cmp.Ordering.{Ordering}
use Rattle.std.specs.declared.cmp.Ordering.TheVariants.{Less, Equal, Greater}
use Rattle.std.specs.Ordering.{is_lt, is_gt, is_eq, ordering_reverse, eq_by_cmp}
use Rattle.std.specs.Cmp.{tied_itself, alike_right, upto}
use Rattle.std.specs.FinMap.{entries, entries_sorted, values, get, contains_key, get-entries, get-from_entries}
use Rattle.std.specs.FinMap.Entries.{find as find_in, is_sorted, below_all}
use Rattle.rk_bytes.specs.declared.model.key.Record.{Record}
use Rattle.rk_bytes.specs.Model.Records.{Slot, RecordMap, slot_cmp, slot_cmp-total, slot_of, entry_of, over, get-over, find-append}
use Rattle.rk_view.specs.Maps.{entries_of, map_of, first_of}
use Rattle.rk_view.specs.Places.{is_after}
use Rattle.rk_view.proofs.SlotOrder.{slot_cmp-only_equal, after_rises}
use Rattle.rk_view.proofs.RunLemmas.{both_true, lt-Less, Rises}
use Rattle.rk_view.proofs.MapLemmas.{run_map, map_of-more, get-run_map, values-run_map}

-- a test that records of one slot pass alike
abbrev pub IsOfSlots : (Record → Bool) → Type 0
IsOfSlots p = (r s : Record) → slot_of r ≡ slot_of s → p r ≡ true → p s ≡ true

-- the record that is first among those of the entries that pass, if there is one
abbrev pub IsFirstIn : (Record → Bool) → (Slot → Option Record) → Option Record → Type 0
IsFirstIn p at None = (q : Slot) (x : Record) → at q ≡ Some x → p x ≡ false
IsFirstIn p at (Some r) = (at (slot_of r) ≡ Some r) × (p r ≡ true) × ((q : Slot) (x : Record) → at q ≡ Some x → p x ≡ true → is_gt (slot_cmp (slot_of r) (slot_of x)) ≡ false)

-- each record is found in its own slot
abbrev pub InOwnSlots : (Slot → Option Record) → Type 0
InOwnSlots at = (q : Slot) (x : Record) → at q ≡ Some x → slot_of x ≡ q

pub equal : (o : Ordering) → is_eq o ≡ true → o ≡ Equal
equal Less e = cc
equal Equal e = refl
equal Greater e = cc

-- what is found among greater slots has a greater slot
found_above : (k q : Slot) (es : List (Slot × Record)) (x : Record) → T (below_all slot_cmp k es) → find_in slot_cmp q es ≡ Some x → slot_cmp k q ≡ Less
found_above k q [] x below found = cc
found_above k q (e ∷ es) x below found = by (found_above k q es x (both_true (is_lt (slot_cmp k e.0)) _ below).1) (eq_by_cmp slot_cmp q e.0) refl found
  where
    by : (find_in slot_cmp q es ≡ Some x → slot_cmp k q ≡ Less) → (b : Bool) → eq_by_cmp slot_cmp q e.0 ≡ b → cond b (Some e.1) (find_in slot_cmp q es) ≡ Some x → slot_cmp k q ≡ Less
    by later true same here = alike_right slot_cmp-total q e.0 k (equal _ same) ∙ lt-Less _ (both_true _ _ below).0
    by later false other there = later there

less_uneven : (o : Ordering) → o ≡ Less → is_eq (ordering_reverse o) ≡ false
less_uneven Less e = refl
less_uneven Equal e = cc
less_uneven Greater e = cc

-- what is found behind an entry is found with it
pub found_more : (q : Slot) (e : Slot × Record) (es : List (Slot × Record)) (x : Record) → T (below_all slot_cmp e.0 es) → find_in slot_cmp q es ≡ Some x → find_in slot_cmp q (e ∷ es) ≡ Some x
found_more q e es x below found =
    ap (λ b. cond b (Some e.1) (find_in slot_cmp q es)) (ap is_eq (slot_cmp-total.antisymm q e.0) ∙ less_uneven _ (found_above e.0 q es x below found)) ∙ found

same_some : {A : Type 0} (x y : A) → Some x ≡ Some y → x ≡ y
same_some x y e = cc

first_here : (p : Record → Bool) (e : Slot × Record) (es : List (Slot × Record)) → T (below_all slot_cmp e.0 es) → InOwnSlots (λ q. find_in slot_cmp q (e ∷ es)) → p e.1 ≡ true → IsFirstIn p (λ q. find_in slot_cmp q (e ∷ es)) (Some e.1)
first_here p e es below own passes = (here (slot_of e.1) own_slot, passes, λ q x found _. least q x (eq_by_cmp slot_cmp q e.0) refl found)
  where
    own_slot : slot_of e.1 ≡ e.0
    own_slot = own e.0 e.1 (ap (λ o. cond (is_eq o) (Some e.1) (find_in slot_cmp e.0 es)) (tied_itself slot_cmp-total e.0))

    here : (q : Slot) → q ≡ e.0 → find_in slot_cmp q (e ∷ es) ≡ Some e.1
    here q same = ap (λ o. cond (is_eq o) (Some e.1) (find_in slot_cmp q es)) (ap (slot_cmp q) (sym same) ∙ tied_itself slot_cmp-total q)

    least : (q : Slot) (x : Record) (b : Bool) → eq_by_cmp slot_cmp q e.0 ≡ b → cond b (Some e.1) (find_in slot_cmp q es) ≡ Some x → is_gt (slot_cmp (slot_of e.1) (slot_of x)) ≡ false
    least q x true same found = ap is_gt (ap (λ r. slot_cmp (slot_of e.1) (slot_of r)) (sym (same_some e.1 x found)) ∙ tied_itself slot_cmp-total (slot_of e.1))
    least q x false other found =
        ap is_gt ((λ i. slot_cmp (own_slot i) (own q x (found_more q e es x below found) i)) ∙ found_above e.0 q es x below found)

first_later : (p : Record → Bool) (e : Slot × Record) (es : List (Slot × Record)) → T (below_all slot_cmp e.0 es) → p e.1 ≡ false → (o : Option Record) → IsFirstIn p (λ q. find_in slot_cmp q es) o → IsFirstIn p (λ q. find_in slot_cmp q (e ∷ es)) o
first_later p e es below fails None none = λ q x found. by q x (eq_by_cmp slot_cmp q e.0) found
  where
    by : (q : Slot) (x : Record) (b : Bool) → cond b (Some e.1) (find_in slot_cmp q es) ≡ Some x → p x ≡ false
    by q x true found = ap p (sym (same_some e.1 x found)) ∙ fails
    by q x false found = none q x found
first_later p e es below fails (Some r) first = (found_more (slot_of r) e es r below first.0, first.1, λ q x found passes. by q x (eq_by_cmp slot_cmp q e.0) found passes)
  where
    by : (q : Slot) (x : Record) (b : Bool) → cond b (Some e.1) (find_in slot_cmp q es) ≡ Some x → p x ≡ true → is_gt (slot_cmp (slot_of r) (slot_of x)) ≡ false
    by q x true found passes = absurd (let same : e.1 ≡ x = same_some e.1 x found in let both : p x ≡ false = ap p (sym same) ∙ fails in let no : true ≡ false = sym passes ∙ both in cc)
    by q x false found passes = first.2 q x found passes

-- what a search through entries finds first
first_found : (p : Record → Bool) (es : List (Slot × Record)) → T (is_sorted slot_cmp es) → InOwnSlots (λ q. find_in slot_cmp q es) → IsFirstIn p (λ q. find_in slot_cmp q es) (find p (map (λ e. e.1) es))
first_found p [] sorted own = λ q x found. cc
first_found p (e ∷ es) sorted own =
    by (first_found p es (both_true (below_all slot_cmp e.0 es) _ sorted).1 (λ q x found. own q x (found_more q e es x (both_true _ _ sorted).0 found))) (p e.1) refl
  where
    below : T (below_all slot_cmp e.0 es)
    below = (both_true _ _ sorted).0

    by : IsFirstIn p (λ q. find_in slot_cmp q es) (find p (map (λ x. x.1) es)) → (b : Bool) → p e.1 ≡ b → IsFirstIn p (λ q. find_in slot_cmp q (e ∷ es)) (cond b (Some e.1) (find p (map (λ x. x.1) es)))
    by later true passes = first_here p e es below own passes
    by later false fails = first_later p e es below fails (find p (map (λ x. x.1) es)) later

pub first_of_map : (p : Record → Bool) (m : RecordMap) → InOwnSlots (get m) → IsFirstIn p (get m) (find p (values m))
first_of_map p m own =
    subst (λ at. IsFirstIn p at (find p (values m))) (λ i q. sym (get-entries m q) i)
    (first_found p (entries m) (entries_sorted m) (λ q x found. own q x (get-entries m q ∙ found)))

no_gt : (o : Ordering) → is_gt o ≡ false → is_gt (ordering_reverse o) ≡ false → o ≡ Equal
no_gt Less e f = cc
no_gt Equal e f = refl
no_gt Greater e f = cc

-- there is one first record
pub one_first : (p : Record → Bool) (at : Slot → Option Record) (a b : Option Record) → IsFirstIn p at a → IsFirstIn p at b → a ≡ b
one_first p at None None x y = refl
one_first p at None (Some s) x y = absurd (let no : true ≡ false = sym y.1 ∙ x (slot_of s) s y.0 in cc)
one_first p at (Some r) None x y = absurd (let no : true ≡ false = sym x.1 ∙ y (slot_of r) r x.0 in cc)
one_first p at (Some r) (Some s) x y =
    let one = x.2 (slot_of s) s y.0 y.1 in
    let two = y.2 (slot_of r) r x.0 x.1 in
    let same : slot_of r ≡ slot_of s = slot_cmp-only_equal (slot_of r) (slot_of s) (no_gt _ one (ap is_gt (sym (slot_cmp-total.antisymm (slot_of s) (slot_of r))) ∙ two)) in
    sym x.0 ∙ ap at same ∙ y.0

or_some : {A : Type 0} (o p : Option A) (x : A) → o ≡ Some x → option_or o p ≡ Some x
or_some o p x e = ap (λ a. option_or a p) e

gt_less : (o : Ordering) → is_gt (ordering_reverse o) ≡ true → is_gt o ≡ false
gt_less Less e = refl
gt_less Equal e = cc
gt_less Greater e = cc

-- the first of one map and the first of another over it
module _ (p : Record → Bool) (of_slots : IsOfSlots p) (a b : RecordMap) (a_own : InOwnSlots (get a)) (b_own : InOwnSlots (get b)) where
  either : (q : Slot) (x : Record) → get (over a b) q ≡ Some x → (P : Type 0) → (get b q ≡ Some x → P) → (get a q ≡ Some x → P) → P
  either q x found P in_b in_a = by (get b q) refl (sym (get-over a b q) ∙ found)
    where
      by : (o : Option Record) → get b q ≡ o → option_or o (get a q) ≡ Some x → P
      by None is here = in_a here
      by (Some y) is here = in_b (is ∙ here)

  pub own_over : InOwnSlots (get (over a b))
  own_over q x found = either q x found (slot_of x ≡ q) (b_own q x) (a_own q x)

  -- a record of the first map that stands before the first one of the second map isn't overridden
  not_hidden : (r : Record) → p r ≡ true → get a (slot_of r) ≡ Some r → ((q : Slot) (x : Record) → get b q ≡ Some x → p x ≡ true → is_gt (slot_cmp (slot_of x) (slot_of r)) ≡ true) → get (over a b) (slot_of r) ≡ Some r
  not_hidden r passes here above = get-over a b (slot_of r) ∙ by (get b (slot_of r)) refl
    where
      by : (o : Option Record) → get b (slot_of r) ≡ o → option_or o (get a (slot_of r)) ≡ Some r
      by None is = here
      by (Some y) is = absurd (
          let same : slot_of y ≡ slot_of r = b_own (slot_of r) y is in
          let gt : is_gt (slot_cmp (slot_of y) (slot_of r)) ≡ true = above (slot_of r) y is (of_slots r y (sym same) passes) in
          let tied : is_gt (slot_cmp (slot_of y) (slot_of r)) ≡ false = ap is_gt (ap (λ s. slot_cmp s (slot_of r)) same ∙ tied_itself slot_cmp-total (slot_of r)) in
          let no : true ≡ false = sym gt ∙ tied in cc)

  pub first_over : (x y : Option Record) → IsFirstIn p (get a) x → IsFirstIn p (get b) y → IsFirstIn p (get (over a b)) (first_of x y)
  first_over None None x y = λ q z found. either q z found (p z ≡ false) (y q z) (x q z)
  first_over None (Some s) x y = (
    get-over a b (slot_of s) ∙ or_some _ _ s y.0,
    y.1,
    λ q z found passes.
        either q z found _ (λ in_b. y.2 q z in_b passes) (λ in_a. absurd (let no : true ≡ false = sym passes ∙ x q z in_a in cc)),
  )
  first_over (Some r) None x y = (
    not_hidden r x.1 x.0 (λ q z in_b passes. absurd (let no : true ≡ false = sym passes ∙ y q z in_b in cc)),
    x.1,
    λ q z found passes. either q z found _ (λ in_b. absurd (let no : true ≡ false = sym passes ∙ y q z in_b in cc)) (λ in_a. x.2 q z in_a passes),
  )
  first_over (Some r) (Some s) x y = by (is_gt (slot_cmp (slot_of s) (slot_of r))) refl
    where
      above : (z : Record) → is_gt (slot_cmp (slot_of s) (slot_of r)) ≡ true → is_gt (slot_cmp (slot_of s) (slot_of z)) ≡ false → is_gt (slot_cmp (slot_of z) (slot_of r)) ≡ true
      above z gt upto_z = if_not (is_gt (slot_cmp (slot_of z) (slot_of r))) refl
        where
          if_not : (b : Bool) → is_gt (slot_cmp (slot_of z) (slot_of r)) ≡ b → b ≡ true
          if_not true e = refl
          if_not false e = absurd (let no : true ≡ false = sym gt ∙ upto slot_cmp-total (slot_of s) (slot_of z) (slot_of r) upto_z e in cc)

      by : (gt : Bool) → is_gt (slot_cmp (slot_of s) (slot_of r)) ≡ gt → IsFirstIn p (get (over a b)) (if gt then Some r else Some s)
      by true gt = (
        not_hidden r x.1 x.0 (λ q z in_b passes. above z gt (y.2 q z in_b passes)),
        x.1,
        λ q z found passes. either q z found _
            (λ in_b. upto slot_cmp-total (slot_of r) (slot_of s) (slot_of z) (gt_less (slot_cmp (slot_of r) (slot_of s)) (ap is_gt (sym (slot_cmp-total.antisymm (slot_of s) (slot_of r))) ∙ gt)) (y.2 q z in_b passes))
            (λ in_a. x.2 q z in_a passes),
      )
      by false upto_r = (
        get-over a b (slot_of s) ∙ or_some _ _ s y.0,
        y.1,
        λ q z found passes. either q z found _ (λ in_b. y.2 q z in_b passes) (λ in_a. upto slot_cmp-total (slot_of s) (slot_of r) (slot_of z) upto_r (x.2 q z in_a passes)),
      )

pub own_run : (run : List Record) → InOwnSlots (λ q. find_in slot_cmp q (map entry_of run))
own_run [] q x found = cc
own_run (r ∷ run) q x found = by (own_run run q x) (eq_by_cmp slot_cmp q (slot_of r)) refl found
  where
    by : (find_in slot_cmp q (map entry_of run) ≡ Some x → slot_of x ≡ q) → (b : Bool) → eq_by_cmp slot_cmp q (slot_of r) ≡ b → cond b (Some r) (find_in slot_cmp q (map entry_of run)) ≡ Some x → slot_of x ≡ q
    by later true same here = ap slot_of (sym (same_some r x here)) ∙ sym (slot_cmp-only_equal q (slot_of r) (equal _ same))
    by later false other there = later there

pub own_run_map : (run : List Record) → InOwnSlots (get (run_map run))
own_run_map run q x found = own_run run q x (sym (get-run_map run q) ∙ found)

-- the first record, with one more run
pub first-more : (p : Record → Bool) → IsOfSlots p → (runs : List (List Record)) → InOwnSlots (get (map_of runs)) → (run : List Record) → Rises run
    → find p (values (map_of (runs ++ run ∷ []))) ≡ first_of (find p (values (map_of runs))) (find p run)
first-more p of_slots runs own run rises =
    let m = map_of runs in
    let a = first_of_map p m own in
    let b : IsFirstIn p (get (run_map run)) (find p run) = subst (λ rs. IsFirstIn p (get (run_map run)) (find p rs)) (values-run_map run rises) (first_of_map p (run_map run) (own_run_map run)) in
    let both : InOwnSlots (get (over m (run_map run))) = own_over p of_slots m (run_map run) own (own_run_map run) in
    ap (λ n. find p (values n)) (map_of-more runs run)
    ∙ one_first p (get (over m (run_map run))) _ _ (first_of_map p (over m (run_map run)) both) (first_over p of_slots m (run_map run) own (own_run_map run) (find p (values m)) (find p run) a b)

or_is_some : {A : Type 0} (o p : Option A) → is_some (option_or o p) ≡ (is_some p || is_some o)
or_is_some None None = refl
or_is_some None (Some y) = refl
or_is_some (Some x) None = refl
or_is_some (Some x) (Some y) = refl

-- whether a slot is held, with one more run
pub held-more : (runs : List (List Record)) (run : List Record) (q : Slot) → contains_key (map_of (runs ++ run ∷ [])) q ≡ (contains_key (map_of runs) q || is_some (find_in slot_cmp q (map entry_of run)))
held-more runs run q =
    ap (λ m. contains_key m q) (map_of-more runs run) ∙ ap is_some (get-over (map_of runs) (run_map run) q) ∙ or_is_some (get (run_map run) q) (get (map_of runs) q)
    ∙ ap (λ o. is_some (get (map_of runs) q) || is_some o) (get-run_map run q)

-- what the runs hold is found in its own slot
pub own_entries : (runs : List (List Record)) → InOwnSlots (λ q. find_in slot_cmp q (flat_map (λ run. map entry_of run) runs))
own_entries [] q x found = cc
own_entries (run ∷ runs) q x found = by (find_in slot_cmp q (map entry_of run)) refl (sym (find-append q (map entry_of run) _) ∙ found) (own_entries runs q x)
  where
    by : (o : Option Record) → find_in slot_cmp q (map entry_of run) ≡ o → option_or o (find_in slot_cmp q (flat_map (λ one. map entry_of one) runs)) ≡ Some x
        → (find_in slot_cmp q (flat_map (λ one. map entry_of one) runs) ≡ Some x → slot_of x ≡ q) → slot_of x ≡ q
    by None is there later = later there
    by (Some y) is there later = own_run run q x (is ∙ there)

pub own_map_of : (runs : List (List Record)) → InOwnSlots (get (map_of runs))
unfolding map_of
own_map_of runs q x found = own_entries (reverse runs) q x (sym (get-from_entries slot_cmp-total (entries_of runs) q) ∙ found)

-- what comes after a place does so by its slot
pub after_of_slots : (family : ℕ) (user : List ℕ) (below : ℕ) → IsOfSlots (is_after family user below)
after_of_slots family user below r s same = after_rises family user below r s (ap is_gt (ap (slot_cmp (slot_of r)) (sym same) ∙ tied_itself slot_cmp-total (slot_of r)))

-- no runs hold anything
pub values-none : values (map_of []) ≡ []
unfolding map_of
values-none = values-run_map [] tt

pub held-none : (q : Slot) → contains_key (map_of []) q ≡ false
unfolding map_of
held-none q = ap is_some (get-from_entries slot_cmp-total [] q)
