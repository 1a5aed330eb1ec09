-- Parts that are joined: what a run says of them, and what they are searched for.
use Rattle.std.proofs.Common.{◌≡◌, ℕ, zero, suc, ◌+◌, ◌-◌, ◌<◌, ◌≤◌, Bool, true, false, not, cond, List, [], ◌∷◌, ◌++◌, length, map, take, drop, get_or, refl, sym, ap, subst, ◌∙◌, arith}
use Rattle.std.proofs.lemmas.List.{drop_all, drop_more, map-append, take-append-drop}
use Rattle.std.proofs.lemmas.List.Concat.{flat_map-append}
use Rattle.std.proofs.lemmas.List.Elements.{All-from_recursion, recursion_from_All, All-append, All-cons}
use Rattle.std.proofs.lemmas.List.Folds.{find-append}
use Rattle.std.proofs.lemmas.Option.{slice_get-get_or}
use Rattle.std.specs.Prelude.{◌⊎◌, Option, Some, None, find, is_some, slice_get, Vec}
use Rattle.std.specs.Option.{option_or, option_map_or}
use Rattle.std.specs.declared.alloc.Global.{Global}
use Rattle.std.specs.List.{All, AllByRecursion, AllWithin, insert}
use Rattle.std.specs.List.Sorted.{IsPartitionedBy, IsPartitionPoint}
use Rattle.std.proofs.Common.{inl, inr}
use Rattle.std.proofs.Math.Nat.{eq-or-lt_of_le}
use Rattle.std.specs.declared.cmp.Ordering.{Ordering}
use Rattle.std.specs.declared.cmp.Ordering.TheVariants.{Less, Equal, Greater}
use Rattle.std.specs.Ordering.{is_lt, is_gt, is_eq, eq_by_cmp}
use Rattle.std.specs.FinMap.Entries.{find as find_in, below_all}
use Rattle.rk_bytes.specs.declared.model.key.Record.{Record}
use Rattle.rk_bytes.specs.Model.Records.{Slot, slot_cmp, slot_of, entry_of, over, get-over, find-append as look-entries}
use Rattle.rk_view.specs.Maps.{IsRun, AreNumbered, look, run_map}
use Rattle.rk_view.specs.Parts.{joined, last_is, AreParts, IsPartAt, ends_before}
use Rattle.rk_view.specs.Places.{is_from}
use Rattle.rk_view.proofs.SlotOrder.{is_lt-Less}
use Rattle.rk_view.proofs.RunLemmas.{both_true, lt-Less, Rises, back, below_at, found_at, turned, turned_back, turned_order, upto_at}
use Rattle.rk_view.proofs.MapLemmas.{same_records, get-run_map}
use Rattle.rk_view.proofs.RunsLemmas.{unfound, or_one, tied_none}
use Rattle.rk_view.proofs.MergeLemmas.{IsBelow, both, less_lt, below_less, same_one}
use Rattle.rk_view.proofs.SeekLemmas.{IsUpward, from_upward, earlier_fail, upto_less}

pub below_left : (q : Slot) (xs ys : List Record) → IsBelow q (xs ++ ys) → IsBelow q xs
below_left q [] ys below = tt
below_left q (x ∷ xs) ys below = let parts = both_true (is_lt (slot_cmp q (slot_of x))) _ below in both _ _ parts.0 (below_left q xs ys parts.1)

pub below_right : (q : Slot) (xs ys : List Record) → IsBelow q (xs ++ ys) → IsBelow q ys
below_right q [] ys below = below
below_right q (x ∷ xs) ys below = below_right q xs ys (both_true (is_lt (slot_cmp q (slot_of x))) _ below).1

pub below_both : (q : Slot) (xs ys : List Record) → IsBelow q xs → IsBelow q ys → IsBelow q (xs ++ ys)
below_both q [] ys a b = b
below_both q (x ∷ xs) ys a b = let parts = both_true (is_lt (slot_cmp q (slot_of x))) _ a in both _ _ parts.0 (below_both q xs ys parts.1 b)

-- the one list comes before the other
abbrev pub IsAllBelow : List Record → List Record → Type 0
IsAllBelow xs ys = AllByRecursion (λ r. IsBelow (slot_of r) ys) xs

pub rises_left : (xs ys : List Record) → Rises (xs ++ ys) → Rises xs
rises_left [] ys rises = tt
rises_left (x ∷ xs) ys rises = let parts = both_true (below_all slot_cmp (slot_of x) (map entry_of (xs ++ ys))) _ rises in both _ _ (below_left (slot_of x) xs ys parts.0) (rises_left xs ys parts.1)

pub rises_right : (xs ys : List Record) → Rises (xs ++ ys) → Rises ys
rises_right [] ys rises = rises
rises_right (x ∷ xs) ys rises = rises_right xs ys (both_true (below_all slot_cmp (slot_of x) (map entry_of (xs ++ ys))) _ rises).1

pub rises_across : (xs ys : List Record) → Rises (xs ++ ys) → IsAllBelow xs ys
rises_across [] ys rises = tt
rises_across (x ∷ xs) ys rises = let parts = both_true (below_all slot_cmp (slot_of x) (map entry_of (xs ++ ys))) _ rises in (below_right (slot_of x) xs ys parts.0, rises_across xs ys parts.1)

rises_both : (xs ys : List Record) → Rises xs → Rises ys → IsAllBelow xs ys → Rises (xs ++ ys)
rises_both [] ys a b below = b
rises_both (x ∷ xs) ys a b below =
    let parts = both_true (below_all slot_cmp (slot_of x) (map entry_of xs)) _ a in
    both _ _ (below_both (slot_of x) xs ys parts.0 below.0) (rises_both xs ys parts.1 b below.1)

numbered_left : (xs ys : List Record) → AreNumbered (xs ++ ys) → AreNumbered xs
numbered_left [] ys all = tt
numbered_left (x ∷ xs) ys all = (all.0, numbered_left xs ys all.1)

numbered_right : (xs ys : List Record) → AreNumbered (xs ++ ys) → AreNumbered ys
numbered_right [] ys all = all
numbered_right (x ∷ xs) ys all = numbered_right xs ys all.1

numbered_both : (xs ys : List Record) → AreNumbered xs → AreNumbered ys → AreNumbered (xs ++ ys)
numbered_both [] ys a b = b
numbered_both (x ∷ xs) ys a b = (a.0, numbered_both xs ys a.1 b)

-- each part is a run
pub part_run : (parts : List (Vec Record Global)) (i : ℕ) (d : Vec Record Global) → i < length parts → IsRun (joined parts) → IsRun (get_or parts i d).items
part_run [] i d inside is = absurd (omega arith)
part_run (part ∷ parts) zero d inside is = record { rises = rises_left part.items (joined parts) is.rises; numbered = numbered_left part.items (joined parts) is.numbered }
part_run (part ∷ parts) (suc i) d inside is = part_run parts i d (omega arith) (record { rises = rises_right part.items (joined parts) is.rises; numbered = numbered_right part.items (joined parts) is.numbered })

pub part_run_at : (parts : List (Vec Record Global)) (i : ℕ) (part : Vec Record Global) → i < length parts → ((d : Vec Record Global) → part ≡ get_or parts i d) → IsRun (joined parts) → IsRun part.items
part_run_at parts i part inside same is = subst (λ (v : Vec Record Global). IsRun v.items) (sym (same part)) (part_run parts i part inside is)

below_part : (q : Slot) (parts : List (Vec Record Global)) (j : ℕ) (d : Vec Record Global) → j < length parts → IsBelow q (joined parts) → IsBelow q (get_or parts j d).items
below_part q [] j d inside below = absurd (omega arith)
below_part q (part ∷ parts) zero d inside below = below_left q part.items (joined parts) below
below_part q (part ∷ parts) (suc j) d inside below = below_part q parts j d (omega arith) (below_right q part.items (joined parts) below)

-- none of the parts is empty
abbrev pub AreFull : List (Vec Record Global) → Type 0
AreFull parts = AllByRecursion (λ (part : Vec Record Global). 0 < length part.items) parts

full_at : (parts : List (Vec Record Global)) (j : ℕ) (d : Vec Record Global) → j < length parts → AreFull parts → 0 < length (get_or parts j d).items
full_at [] j d inside full = absurd (omega arith)
full_at (part ∷ parts) zero d inside full = full.0
full_at (part ∷ parts) (suc j) d inside full = full_at parts j d (omega arith) full.1

-- the last of some records
pub last_at : (p : Record → Bool) (xs : List Record) (d : Record) → 0 < length xs → last_is p xs ≡ p (get_or xs (length xs - 1) d)
last_at p xs d some = ap (λ o. option_map_or p o false) (slice_get-get_or xs (length xs - 1) d (omega arith))

none_found : (p : Record → Bool) (xs : List Record) → ((k : ℕ) (d : Record) → k < length xs → p (get_or xs k d) ≡ false) → find p xs ≡ None
none_found p [] fails = refl
none_found p (x ∷ xs) fails = ap (λ b. cond b (Some x) (find p xs)) (fails 0 x (omega arith)) ∙ none_found p xs (λ k d inside. fails (suc k) d (omega arith))

some_found : (p : Record → Bool) (xs : List Record) (k : ℕ) (d : Record) → k < length xs → p (get_or xs k d) ≡ true → is_some (find p xs) ≡ true
some_found p [] k d inside passes = absurd (omega arith)
some_found p (x ∷ xs) zero d inside passes = ap (λ b. is_some (cond b (Some x) (find p xs))) passes
some_found p (x ∷ xs) (suc k) d inside passes = by (p x) (some_found p xs k d (omega arith) passes)
  where
    by : (b : Bool) → is_some (find p xs) ≡ true → is_some (cond b (Some x) (find p xs)) ≡ true
    by true later = refl
    by false later = later

or_some : {A : Type 0} (o p : Option A) → is_some o ≡ true → option_or o p ≡ o
or_some (Some x) p e = refl
or_some None p e = cc

module _ (p : Record → Bool) (up : IsUpward p) where
  -- a part that ends with a record that fails has none that passes
  pub none_in : (xs : List Record) → Rises xs → last_is p xs ≡ false → find p xs ≡ None
  none_in [] rises fails = refl
  none_in (x ∷ xs) rises fails = none_found p (x ∷ xs) (λ k d inside.
      earlier_fail p up (x ∷ xs) rises k (length (x ∷ xs) - 1) d (omega arith) (omega arith) (sym (last_at p (x ∷ xs) d (omega arith)) ∙ fails))

  -- one that ends with a record that passes has the first that does
  pub found_in : (xs ys : List Record) → last_is p xs ≡ true → find p (xs ++ ys) ≡ find p xs
  found_in [] ys passes = cc
  found_in (x ∷ xs) ys passes = find-append p (x ∷ xs) ys ∙ or_some (find p (x ∷ xs)) (find p ys) (some_found p (x ∷ xs) (length (x ∷ xs) - 1) x (omega arith) (sym (last_at p (x ∷ xs) x (omega arith)) ∙ passes))

  skipped : (xs ys : List Record) → Rises xs → last_is p xs ≡ false → find p (xs ++ ys) ≡ find p ys
  skipped xs ys rises fails = find-append p xs ys ∙ ap (λ o. option_or o (find p ys)) (none_in xs rises fails)

  pub parts_none : (parts : List (Vec Record Global)) → Rises (joined parts) → ((k : ℕ) (d : Vec Record Global) → k < length parts → last_is p (get_or parts k d).items ≡ false) → find p (joined parts) ≡ None
  parts_none [] rises before = refl
  parts_none (part ∷ parts) rises before =
      skipped part.items (joined parts) (rises_left part.items (joined parts) rises) (before 0 part (omega arith))
      ∙ parts_none parts (rises_right part.items (joined parts) rises) (λ k d inside. before (suc k) d (omega arith))

  pub parts_found : (parts : List (Vec Record Global)) (i : ℕ) (d : Vec Record Global) → i < length parts → Rises (joined parts) → ((k : ℕ) (e : Vec Record Global) → k < i → last_is p (get_or parts k e).items ≡ false) → last_is p (get_or parts i d).items ≡ true
      → find p (joined parts) ≡ find p (get_or parts i d).items
  parts_found [] i d inside rises before here = absurd (omega arith)
  parts_found (part ∷ parts) zero d inside rises before here = found_in part.items (joined parts) here
  parts_found (part ∷ parts) (suc i) d inside rises before here =
      skipped part.items (joined parts) (rises_left part.items (joined parts) rises) (before 0 part (omega arith))
      ∙ parts_found parts i d (omega arith) (rises_right part.items (joined parts) rises) (λ k e low. before (suc k) e (omega arith)) here

  later_any : (xs ys all : List Record) (k : ℕ) (d : Record) → 0 < length xs → k < length ys → IsAllBelow xs all → ((q : Slot) → IsBelow q all → IsBelow q ys) → last_is p xs ≡ true → p (get_or ys k d) ≡ true
  later_any [] ys all k d some inside below low passes = absurd (omega arith)
  later_any (x ∷ xs) ys all k d some inside below low passes =
      let r : Record = get_or (x ∷ xs) (length (x ∷ xs) - 1) x in
      let under : IsBelow (slot_of r) all = All-from_recursion (λ o. IsBelow (slot_of o) all) (x ∷ xs) below (length (x ∷ xs) - 1) x (omega arith) in
      let less = below_at (slot_of r) ys (low (slot_of r) under) k d inside in
      up r (get_or ys k d) (ap is_gt less) (sym (last_at p (x ∷ xs) x (omega arith)) ∙ passes)

  -- a record behind a part that ends with one that passes does so, too
  parts_later : (parts : List (Vec Record Global)) → Rises (joined parts) → AreFull parts → (i j : ℕ) (d : Vec Record Global) (k : ℕ) (e : Record) → i < j → j < length parts → k < length (get_or parts j d).items
      → last_is p (get_or parts i d).items ≡ true → p (get_or (get_or parts j d).items k e) ≡ true
  parts_later [] rises full i j d k e before inside within passes = absurd (omega arith)
  parts_later (part ∷ parts) rises full i zero d k e before inside within passes = absurd (omega arith)
  parts_later (part ∷ parts) rises full zero (suc j) d k e before inside within passes =
      later_any part.items (get_or parts j d).items (joined parts) k e full.0 within (rises_across part.items (joined parts) rises) (λ q. below_part q parts j d (omega arith)) passes
  parts_later (part ∷ parts) rises full (suc i) (suc j) d k e before inside within passes = parts_later parts (rises_right part.items (joined parts) rises) full.1 i j d k e (omega arith) (omega arith) within passes

  -- a part behind one that ends with a record that passes ends with one, too
  parts_upward : (parts : List (Vec Record Global)) → Rises (joined parts) → AreFull parts → (i j : ℕ) (d : Vec Record Global) → i ≤ j → j < length parts → last_is p (get_or parts i d).items ≡ true → last_is p (get_or parts j d).items ≡ true
  parts_upward parts rises full i j d before inside passes = by (eq-or-lt_of_le before)
    where
      by : (i ≡ j) ⊎ (i < j) → last_is p (get_or parts j d).items ≡ true
      by (inl same) = ap (λ k. last_is p (get_or parts k d).items) (sym same) ∙ passes
      by (inr less) = all_of (get_or parts j d).items (full_at parts j d inside full) (λ k e within. parts_later parts rises full i j d k e less inside within passes)
        where
          all_of : (xs : List Record) → 0 < length xs → ((k : ℕ) (e : Record) → k < length xs → p (get_or xs k e) ≡ true) → last_is p xs ≡ true
          all_of [] some each = absurd (omega arith)
          all_of (x ∷ xs) some each = last_at p (x ∷ xs) x (omega arith) ∙ each (length (x ∷ xs) - 1) x (omega arith)

  pub parts_parted : (parts : List (Vec Record Global)) → Rises (joined parts) → AreFull parts → IsPartitionedBy (λ (part : Vec Record Global). not (last_is p part.items)) parts
  parts_parted parts rises full i j d before inside later = back (last_is p (get_or parts i d).items) (last_is p (get_or parts j d).items) (parts_upward parts rises full i j d before inside) later

  -- the part where the first record that passes lies
  pub part_at : (parts : List (Vec Record Global)) (i : ℕ) → IsPartitionPoint (λ (part : Vec Record Global). not (last_is p part.items) ≡ true) (λ (part : Vec Record Global). not (last_is p part.items) ≡ false) parts i → IsPartAt p parts i
  part_at parts i point = record { before = λ k d low high. turned _ (point.0 k d low high); after = λ k d low high. turned_back _ (point.1 k d low high) }

  pub found_part : (parts : List (Vec Record Global)) (i : ℕ) (part : Vec Record Global) → Rises (joined parts) → IsPartAt p parts i → i < length parts → ((d : Vec Record Global) → part ≡ get_or parts i d) → find p (joined parts) ≡ find p part.items
  found_part parts i part rises at inside same =
      parts_found parts i part inside rises (λ k e low. at.before k e (omega arith) low) (at.after i part (omega arith) inside) ∙ ap (λ (v : Vec Record Global). find p v.items) (sym (same part))

  pub no_part : (parts : List (Vec Record Global)) (i : ℕ) → Rises (joined parts) → IsPartAt p parts i → length parts ≤ i → find p (joined parts) ≡ None
  no_part parts i rises at past = parts_none parts rises (λ k d inside. at.before k d (omega arith) (omega arith))

  -- the first element that passes, where those before it don't and it does
  pub found_from : (xs : List Record) (i : ℕ) → i ≤ length xs → AllWithin (λ y. p y ≡ false) xs 0 i → AllWithin (λ y. p y ≡ true) xs i (length xs) → slice_get xs i ≡ find p xs
  found_from xs i inside before after = found_at p xs i inside (λ k d low high. ap not (before k d low high)) (λ k d low high. ap not (after k d low high))

  -- a record that passes behind one of its part that doesn't is the first of all parts
  pub found_near : (parts : List (Vec Record Global)) (i : ℕ) (part : Vec Record Global) → Rises (joined parts) → AreFull parts → i < length parts → ((d : Vec Record Global) → part ≡ get_or parts i d)
      → (k : ℕ) → 0 < k → k < length part.items → AllWithin (λ y. p y ≡ false) part.items 0 k → AllWithin (λ y. p y ≡ true) part.items k (length part.items) → slice_get part.items k ≡ find p (joined parts)
  found_near parts i part rises full inside same k some within before after =
      found_from part.items k (omega arith) before after ∙ ap (λ (v : Vec Record Global). find p v.items) (same part)
      ∙ sym (parts_found parts i part inside rises earlier (ap (λ (v : Vec Record Global). last_is p v.items) (sym (same part)) ∙ ends part.items within after))
    where
      some_of : (xs : List Record) → k < length xs → Record
      some_of [] inside = absurd (omega arith)
      some_of (x ∷ xs) inside = x

      ends : (xs : List Record) → k < length xs → AllWithin (λ y. p y ≡ true) xs k (length xs) → last_is p xs ≡ true
      ends [] inside after = absurd (omega arith)
      ends (x ∷ xs) inside after = last_at p (x ∷ xs) x (omega arith) ∙ after (length (x ∷ xs) - 1) x (omega arith) (omega arith)

      fails : (xs : List Record) (e : Record) → xs ≡ part.items → p (get_or xs 0 e) ≡ false
      fails xs e is = ap (λ ys. p (get_or ys 0 e)) is ∙ before 0 e (omega arith) some

      earlier : (j : ℕ) (e : Vec Record Global) → j < i → last_is p (get_or parts j e).items ≡ false
      earlier j e low = by (last_is p (get_or parts j e).items) refl
        where
          by : (b : Bool) → last_is p (get_or parts j e).items ≡ b → b ≡ false
          by false is = refl
          by true is =
              let first : Record = some_of part.items within in
              let wide : 0 < length (get_or parts i e).items = subst (λ (v : Vec Record Global). 0 < length v.items) (same e) (omega arith) in
              let yes : p (get_or (get_or parts i e).items 0 first) ≡ true = parts_later parts rises full j i e 0 first low inside wide is in
              let no : p (get_or (get_or parts i e).items 0 first) ≡ false = fails (get_or parts i e).items first (ap (λ (v : Vec Record Global). v.items) (sym (same e))) in
              let both : true ≡ false = sym yes ∙ no in cc

-- a slot is held where the first record from it on has it
pub held_first : (q : Slot) (xs : List Record) → Rises xs → is_some (look q xs) ≡ option_map_or (λ r. is_eq (slot_cmp (slot_of r) q)) (find (is_from q) xs) false
held_first q [] rises = refl
held_first q (x ∷ xs) rises = by (slot_cmp (slot_of x) q) refl (held_first q xs (both_true (below_all slot_cmp (slot_of x) (map entry_of xs)) _ rises).1)
  where
    found : Option Record
    found = find (is_from q) xs

    by : (o : Ordering) → slot_cmp (slot_of x) q ≡ o → is_some (look q xs) ≡ option_map_or (λ r. is_eq (slot_cmp (slot_of r) q)) found false
        → is_some (look q (x ∷ xs)) ≡ option_map_or (λ r. is_eq (slot_cmp (slot_of r) q)) (find (is_from q) (x ∷ xs)) false
    by Less e later =
        ap (λ o. is_some (cond (is_eq o) (Some x) (look q xs))) (turned_order (slot_of x) q Less e) ∙ later
        ∙ sym (ap (λ o. option_map_or (λ r. is_eq (slot_cmp (slot_of r) q)) (cond (not (is_lt o)) (Some x) found) false) e)
    by Equal e later =
        ap (λ o. is_some (cond (is_eq o) (Some x) (look q xs))) (turned_order (slot_of x) q Equal e)
        ∙ sym (ap is_eq e) ∙ sym (ap (λ o. option_map_or (λ r. is_eq (slot_cmp (slot_of r) q)) (cond (not (is_lt o)) (Some x) found) false) e)
    by Greater e later =
        let less : slot_cmp q (slot_of x) ≡ Less = turned_order (slot_of x) q Greater e in
        let none : look q xs ≡ None = unfound q x xs (below_less q (slot_of x) xs less (both_true (below_all slot_cmp (slot_of x) (map entry_of xs)) _ rises).0) in
        ap (λ o. is_some (cond (is_eq o) (Some x) (look q xs))) less ∙ ap is_some none
        ∙ sym (ap is_eq e) ∙ sym (ap (λ o. option_map_or (λ r. is_eq (slot_cmp (slot_of r) q)) (cond (not (is_lt o)) (Some x) found) false) e)

-- a list that stands between two
rises_within : (before list after : List Record) → Rises (before ++ after) → Rises list → IsAllBelow before list → IsAllBelow list after → Rises (before ++ (list ++ after))
rises_within [] list after rises up low high = rises_both list after up rises high
rises_within (x ∷ before) list after rises up low high =
    let parts = both_true (below_all slot_cmp (slot_of x) (map entry_of (before ++ after))) _ rises in
    both _ _ (below_both (slot_of x) before (list ++ after) (below_left (slot_of x) before after parts.0) (below_both (slot_of x) list after low.0 (below_right (slot_of x) before after parts.0)))
    (rises_within before list after parts.1 up low.1 high)

run_within : (before list after : List Record) → IsRun (before ++ after) → IsRun list → IsAllBelow before list → IsAllBelow list after → IsRun (before ++ (list ++ after))
run_within before list after is run low high = record {
  rises = rises_within before list after is.rises run.rises low high;
  numbered = numbered_both before (list ++ after) (numbered_left before after is.numbered) (numbered_both list after run.numbered (numbered_right before after is.numbered));
}

-- what is found in one of the lists
pub look_within : (q : Slot) (before list after : List Record) → Rises (before ++ (list ++ after)) → look q (before ++ (list ++ after)) ≡ option_or (look q list) (look q (before ++ after))
look_within q [] list after rises = ap (find_in slot_cmp q) (map-append entry_of list after) ∙ look-entries q (map entry_of list) (map entry_of after)
look_within q (x ∷ before) list after rises =
    let parts = both_true (below_all slot_cmp (slot_of x) (map entry_of (before ++ (list ++ after)))) _ rises in
    let low = below_left (slot_of x) list after (below_right (slot_of x) before (list ++ after) parts.0) in
    ap (cond (eq_by_cmp slot_cmp q (slot_of x)) (Some x)) (look_within q before list after parts.1)
    ∙ sym (or_one (look q list) (look q (before ++ after)) (eq_by_cmp slot_cmp q (slot_of x)) x (tied_none q x list low))

-- the records of a run before and behind a part
pub joined_at : (parts : List (Vec Record Global)) (at : ℕ) → joined (take at parts) ++ joined (drop at parts) ≡ joined parts
joined_at parts at = sym (flat_map-append (λ (part : Vec Record Global). part.items) (take at parts) (drop at parts)) ∙ ap joined (take-append-drop at parts)

pub joined-insert : (parts : List (Vec Record Global)) (at : ℕ) (part : Vec Record Global) → joined (insert parts at part) ≡ joined (take at parts) ++ (part.items ++ joined (drop at parts))
joined-insert parts at part = flat_map-append (λ (one : Vec Record Global). one.items) (take at parts) (part ∷ drop at parts)

less_below : (q : Slot) (x : Record) (xs : List Record) → slot_cmp q (slot_of x) ≡ Less → Rises (x ∷ xs) → IsBelow q (x ∷ xs)
less_below q x xs less rises = both _ _ (less_lt _ less) (below_less q (slot_of x) xs less (both_true (below_all slot_cmp (slot_of x) (map entry_of xs)) _ rises).0)

not_from : (b : Bool) → not b ≡ false → b ≡ true
not_from true e = refl
not_from false e = cc

-- records that come before the first one of a run come before all of it
before_list : (x : Record) (xs part : List Record) → Rises (x ∷ xs) → Rises part → last_is (is_from (slot_of x)) part ≡ false → IsAllBelow part (x ∷ xs)
before_list x xs [] rises up fails = tt
before_list x xs (y ∷ part) rises up fails = recursion_from_All (λ r. IsBelow (slot_of r) (x ∷ xs)) (y ∷ part) (λ k d inside.
    let early = earlier_fail (is_from (slot_of x)) (from_upward (slot_of x)) (y ∷ part) up k (length (y ∷ part) - 1) d (omega arith) (omega arith) (sym (last_at (is_from (slot_of x)) (y ∷ part) d (omega arith)) ∙ fails) in
    less_below (slot_of (get_or (y ∷ part) k d)) x xs (is_lt-Less _ (not_from _ early)) rises)

all_below_both : (xs ys zs : List Record) → IsAllBelow xs zs → IsAllBelow ys zs → IsAllBelow (xs ++ ys) zs
all_below_both [] ys zs a b = b
all_below_both (x ∷ xs) ys zs a b = (a.0, all_below_both xs ys zs a.1 b)

parts_before : (x : Record) (xs : List Record) (parts : List (Vec Record Global)) (at : ℕ) → Rises (x ∷ xs) → Rises (joined parts) → at ≤ length parts → ((k : ℕ) (d : Vec Record Global) → k < at → last_is (is_from (slot_of x)) (get_or parts k d).items ≡ false) → IsAllBelow (joined (take at parts)) (x ∷ xs)
parts_before x xs parts zero rises up bound fails = tt
parts_before x xs [] (suc at) rises up bound fails = absurd (omega arith)
parts_before x xs (part ∷ parts) (suc at) rises up bound fails =
    all_below_both part.items (joined (take at parts)) (x ∷ xs)
    (before_list x xs part.items rises (rises_left part.items (joined parts) up) (fails 0 part (omega arith)))
    (parts_before x xs parts at rises (rises_right part.items (joined parts) up) (omega arith) (λ k d low. fails (suc k) d (omega arith)))

-- a list whose last record comes before the first one of a run
before_rest : (list : List Record) (y : Record) (ys : List Record) → Rises list → Rises (y ∷ ys) → ends_before (slice_get list (length list - 1)) (Some y) ≡ true → IsAllBelow list (y ∷ ys)
before_rest [] y ys up rises ends = tt
before_rest (x ∷ list) y ys up rises ends = recursion_from_All (λ r. IsBelow (slot_of r) (y ∷ ys)) (x ∷ list) (λ k d inside.
    let n : ℕ = length (x ∷ list) - 1 in
    let last : Record = get_or (x ∷ list) n d in
    let less : slot_cmp (slot_of last) (slot_of y) ≡ Less = is_lt-Less _ (sym (ap (λ o. ends_before o (Some y)) (slice_get-get_or (x ∷ list) n d (omega arith))) ∙ ends) in
    less_below (slot_of (get_or (x ∷ list) k d)) y ys (upto_less (slot_of (get_or (x ∷ list) k d)) (slot_of last) (slot_of y) _ refl (upto_at (x ∷ list) up k n d (omega arith) (omega arith)) less) rises)

-- a list with a first record lies between two parts, or behind all
pub gap_at : (parts : List (Vec Record Global)) (list : List Record) (at : ℕ) (first : Record) → IsRun (joined parts) → IsRun list → Some first ≡ slice_get list 0 → at ≤ length parts → IsPartAt (is_from (slot_of first)) parts at
    → IsAllBelow list (joined (drop at parts)) → (at ≤ length parts) × (0 < length list) × IsRun (joined (take at parts) ++ (list ++ joined (drop at parts)))
gap_at parts [] at first is run e bound place high = cc
gap_at parts (x ∷ list) at first is run e bound place high =
    let same : first ≡ x = same_one first x e in
    let low = parts_before x list parts at run.rises is.rises bound (λ k d below. ap (λ r. last_is (is_from (slot_of r)) (get_or parts k d).items) (sym same) ∙ place.before k d (omega arith) below) in
    (bound, omega arith, run_within (joined (take at parts)) (x ∷ list) (joined (drop at parts)) (subst IsRun (sym (joined_at parts at)) is) run low high)

all_below_none : (list : List Record) → IsAllBelow list []
all_below_none [] = tt
all_below_none (x ∷ list) = (tt, all_below_none list)

pub behind_all : (parts : List (Vec Record Global)) (list : List Record) (at : ℕ) → length parts ≤ at → IsAllBelow list (joined (drop at parts))
behind_all parts list at past = subst (λ ps. IsAllBelow list (joined ps)) (sym (drop_all at parts past)) (all_below_none list)

pub before_part : (parts : List (Vec Record Global)) (list : List Record) (at : ℕ) (part : Vec Record Global) → IsRun (joined parts) → IsRun list → at < length parts → ((d : Vec Record Global) → part ≡ get_or parts at d)
    → ends_before (slice_get list (length list - 1)) (slice_get part.items 0) ≡ true → IsAllBelow list (joined (drop at parts))
before_part parts list at part is run inside same ends =
    subst (λ ps. IsAllBelow list (joined ps)) (sym (drop_more parts at part inside))
    (by (get_or parts at part).items (joined (drop (at + 1) parts)) (subst Rises (ap joined (drop_more parts at part inside)) (rises_right (joined (take at parts)) (joined (drop at parts)) (subst Rises (sym (joined_at parts at)) is.rises)))
    (ap (λ (v : Vec Record Global). ends_before (slice_get list (length list - 1)) (slice_get v.items 0)) (sym (same part)) ∙ ends))
  where
    none : (o : Option Record) → ends_before o None ≡ true → ⊥
    none None e = cc
    none (Some x) e = cc

    by : (xs ys : List Record) → Rises (xs ++ ys) → ends_before (slice_get list (length list - 1)) (slice_get xs 0) ≡ true → IsAllBelow list (xs ++ ys)
    by [] ys rises ends = absurd (none _ ends)
    by (x ∷ xs) ys rises ends = before_rest list x (xs ++ ys) run.rises rises ends

-- the parts of a run with one more
pub full-insert : (parts : List (Vec Record Global)) (at : ℕ) (part : Vec Record Global) → All (λ (one : Vec Record Global). 0 < length one.items) parts → 0 < length part.items → All (λ (one : Vec Record Global). 0 < length one.items) (insert parts at part)
full-insert parts at part all some =
    let P = λ (one : Vec Record Global). 0 < length one.items in
    All-append P (take at parts) (part ∷ drop at parts) (All-from_recursion P (take at parts) (front at parts (recursion_from_All P parts all))) (All-cons P part (drop at parts) some (All-from_recursion P (drop at parts) (back_part at parts (recursion_from_All P parts all))))
  where
    front : (n : ℕ) (ps : List (Vec Record Global)) → AreFull ps → AreFull (take n ps)
    front zero ps each = tt
    front (suc n) [] each = tt
    front (suc n) (p ∷ ps) each = (each.0, front n ps each.1)

    back_part : (n : ℕ) (ps : List (Vec Record Global)) → AreFull ps → AreFull (drop n ps)
    back_part zero ps each = each
    back_part (suc n) [] each = tt
    back_part (suc n) (p ∷ ps) each = back_part n ps each.1

-- a run that takes in a list
pub parts-insert : (parts : List (Vec Record Global)) (at : ℕ) (part : Vec Record Global) → AreParts parts → 0 < length part.items → IsRun (joined (take at parts) ++ (part.items ++ joined (drop at parts))) → AreParts (insert parts at part)
parts-insert parts at part are some is = record { run = subst IsRun (sym (joined-insert parts at part)) is; filled = full-insert parts at part are.filled some }

pub map-insert : (parts : List (Vec Record Global)) (at : ℕ) (part : Vec Record Global) → IsRun (joined (take at parts) ++ (part.items ++ joined (drop at parts))) → run_map (joined (insert parts at part)) ≡ over (run_map (joined parts)) (run_map part.items)
map-insert parts at part is = same_records (run_map (joined (insert parts at part))) (over (run_map (joined parts)) (run_map part.items)) (λ q.
    get-run_map (joined (insert parts at part)) q ∙ ap (look q) (joined-insert parts at part)
    ∙ look_within q (joined (take at parts)) part.items (joined (drop at parts)) is.rises
    ∙ ap (λ rs. option_or (look q part.items) (look q rs)) (joined_at parts at)
    ∙ (λ i. option_or (sym (get-run_map part.items q) i) (sym (get-run_map (joined parts) q) i))
    ∙ sym (get-over (run_map (joined parts)) (run_map part.items) q))

-- a list in a gap has none of the slots that are held
below_front : (xs list after : List Record) → IsAllBelow xs (list ++ after) → IsAllBelow xs list
below_front [] list after all = tt
below_front (x ∷ xs) list after all = (below_left (slot_of x) list after all.0, below_front xs list after all.1)

below_tail : (xs : List Record) (y : Record) (ys : List Record) → IsAllBelow xs (y ∷ ys) → IsAllBelow xs ys
below_tail [] y ys all = tt
below_tail (x ∷ xs) y ys all = ((both_true (is_lt (slot_cmp (slot_of x) (slot_of y))) _ all.0).1, below_tail xs y ys all.1)

look_behind : (xs : List Record) (y : Record) (ys : List Record) → IsAllBelow xs (y ∷ ys) → look (slot_of y) xs ≡ None
look_behind [] y ys all = refl
look_behind (x ∷ xs) y ys all =
    let less : slot_cmp (slot_of x) (slot_of y) ≡ Less = lt-Less _ (both_true (is_lt (slot_cmp (slot_of x) (slot_of y))) _ all.0).0 in
    ap (λ o. cond (is_eq o) (Some x) (look (slot_of y) xs)) (turned_order (slot_of x) (slot_of y) Less less) ∙ look_behind xs y ys all.1

list_apart : (before list after : List Record) → IsAllBelow before list → IsAllBelow list after → AllByRecursion (λ r. look (slot_of r) (before ++ after) ≡ None) list
list_apart before [] after low high = tt
list_apart before (x ∷ list) after low high = (
  ap (find_in slot_cmp (slot_of x)) (map-append entry_of before after) ∙ look-entries (slot_of x) (map entry_of before) (map entry_of after)
      ∙ ap (λ o. option_or o (look (slot_of x) after)) (look_behind before x list low) ∙ unfound (slot_of x) x after high.0,
  list_apart before list after (below_tail before x list low) high.1,
)

pub gap_apart : (parts : List (Vec Record Global)) (list : List Record) (at : ℕ) → IsRun (joined (take at parts) ++ (list ++ joined (drop at parts))) → All (λ (r : Record). look (slot_of r) (joined parts) ≡ None) list
gap_apart parts list at is =
    let before = joined (take at parts) in
    let after = joined (drop at parts) in
    subst (λ rs. All (λ (r : Record). look (slot_of r) rs ≡ None) list) (joined_at parts at)
    (All-from_recursion (λ (r : Record). look (slot_of r) (before ++ after) ≡ None) list (list_apart before list after (below_front before list after (rises_across before (list ++ after) is.rises)) (rises_across list after (rises_right before (list ++ after) is.rises))))
