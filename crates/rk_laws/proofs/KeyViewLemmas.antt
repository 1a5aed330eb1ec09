-- What is shown of a key, and the rows of a family.
use Rattle.std.proofs.Common.{◌≡◌, ℕ, ◌+◌, Bool, true, false, not, T, List, [], ◌∷◌, map, reverse, All, cond, refl, sym, ap, subst, ◌∙◌, arith}
use Rattle.std.proofs.lemmas.List.Elements.{All-nil, All-cons}
use Rattle.std.proofs.lemmas.List.Kept.{AllPairs-cons, IsStrictlySortedBy-filter, IsStrictlySortedBy-dedup}
use Rattle.std.proofs.lemmas.Map.Text.{is_eq-slice_cmp}
use Rattle.std.proofs.lemmas.Bool.{eqb-true}
use Rattle.std.specs.Prelude.{Option, filter, filter_map, ◌&&◌, ◌==◌}
use Rattle.std.specs.List.{AllByRecursion, AllPairs, cons_option}
use Rattle.std.specs.List.Sorted.{IsSorted, IsStrictlySortedBy}
use Rattle.std.specs.declared.cmp.Ordering.{Ordering}
use Rattle.std.specs.declared.cmp.Ordering.TheVariants.{Less, Equal, Greater}
use Rattle.std.specs.Ordering.{is_lt, nat_cmp, ordering_then, ordering_reverse}
use Rattle.std.specs.Cmp.{nat_cmp_total, tied_itself}
use Rattle.std.specs.Cmp.Lexicographic.{slice_cmp, nat_list_cmp_total}
use Rattle.std.specs.FinMap.{entries, entries_sorted, values}
use Rattle.std.specs.FinMap.Entries.{put, is_sorted, below_all, by_order}
use Rattle.rk_bytes.specs.declared.model.key.Record.{Record}
use Rattle.rk_bytes.specs.declared.model.view.Tomb.{Tomb}
use Rattle.rk_bytes.specs.Model.Records.{Slot, slot_cmp, slot_of, last_records}
use Rattle.rk_bytes.specs.Model.Salvage.{placed}
use Rattle.rk_bytes.specs.Model.KeyView.{State, Answer, found, absent, merge, is_of_key, is_covered, deciding, view_records, answer, keys_in, is_between, row_of, rows}
use Rattle.rk_laws.proofs.Orders.{slot_cmp-only_equal}
use Rattle.rk_laws.proofs.RecordMaps.{entry_of}
use Rattle.rk_laws.proofs.SalvageLemmas.{last_placed-entries}

-- a list is parted alike by tests that agree on it
same_filter : {A : Type 0} (p q : A → Bool) (xs : List A) → AllByRecursion (λ x. p x ≡ q x) xs → filter p xs ≡ filter q xs
same_filter p q [] same = refl
same_filter p q (x ∷ xs) same = λ i. cond (same.0 i) (x ∷ same_filter p q xs same.1 i) (same_filter p q xs same.1 i)

-- a test that adds nothing where no range deletion covers
same_tests : (tombs : List Tomb) (family : ℕ) (key : List ℕ) (records : List Record) → AllByRecursion (λ r. is_covered tombs r ≡ false) records
    → AllByRecursion (λ r. (is_of_key family key r && not (is_covered tombs r)) ≡ (is_of_key family key r && not (is_covered [] r))) records
same_tests tombs family key [] none = tt
same_tests tombs family key (r ∷ records) none = (ap (λ b. is_of_key family key r && not b) none.0, same_tests tombs family key records none.1)

pub shown_alike : (state : State) (family : ℕ) (key : List ℕ) → AllByRecursion (λ r. is_covered state.tombs r ≡ false) (values state.records) → view_records state family key ≡ view_records (record state { tombs = [] }) family key
unfolding view_records
shown_alike state family key none = ap deciding (same_filter _ _ (values state.records) (same_tests state.tombs family key (values state.records) none))

-- each record of the entries stands in its own slot
abbrev pub InSlots : List (Slot × Record) → Type 0
InSlots es = AllByRecursion (λ e. slot_of e.1 ≡ e.0) es

put_in_slot : (r : Record) (es : List (Slot × Record)) → InSlots es → InSlots (put slot_cmp (slot_of r) r es)
put_in_slot r [] in_slots = (refl, tt)
put_in_slot r (e ∷ es) in_slots = by (slot_cmp (slot_of r) e.0) refl (put_in_slot r es in_slots.1)
  where
    by : (o : Ordering) → slot_cmp (slot_of r) e.0 ≡ o → InSlots (put slot_cmp (slot_of r) r es) → InSlots (by_order o ((slot_of r, r) ∷ e ∷ es) ((e.0, r) ∷ es) (e ∷ put slot_cmp (slot_of r) r es))
    by Less is later = (refl, in_slots)
    by Equal is later = (slot_cmp-only_equal (slot_of r) e.0 is, in_slots.1)
    by Greater is later = (in_slots.0, later)

pub placed_in_slots : (records : List Record) → InSlots (placed (map entry_of records))
unfolding placed
placed_in_slots [] = tt
placed_in_slots (r ∷ records) = put_in_slot r (placed (map entry_of records)) (placed_in_slots records)

last_in_slots : (records : List Record) → InSlots (entries (last_records records))
last_in_slots records = subst InSlots (last_placed-entries records) (placed_in_slots (reverse records))

family_is : (a b : ℕ) → (a == b) ≡ true → a ≡ b
family_is a b e = eqb-true a b e

-- of one family the user keys don't fall
both_true : (a b : Bool) → T (a && b) → T a × T b
both_true true b t = (tt, t)
both_true false b t = absurd t

not_below : (o : Ordering) (rest : Ordering) → T (is_lt (ordering_then o rest)) → is_lt (ordering_reverse o) ≡ false
not_below Less rest t = refl
not_below Equal rest t = refl
not_below Greater rest t = absurd t

users_rise : (p q : Slot) → p.family ≡ q.family → T (is_lt (slot_cmp p q)) → is_lt (slice_cmp nat_cmp q.user p.user) ≡ false
unfolding slot_cmp
users_rise p q same t =
    let rest = ordering_then (nat_cmp q.packed p.packed) (slice_cmp nat_cmp p.end q.end) in
    let tied : nat_cmp p.family q.family ≡ Equal = ap (nat_cmp p.family) (sym same) ∙ tied_itself nat_cmp_total p.family in
    let later : T (is_lt (ordering_then (slice_cmp nat_cmp p.user q.user) rest)) = subst (λ o. T (is_lt (ordering_then o (ordering_then (slice_cmp nat_cmp p.user q.user) rest)))) tied t in
    ap is_lt (nat_list_cmp_total.antisymm q.user p.user) ∙ not_below (slice_cmp nat_cmp p.user q.user) rest later

abbrev family_keys : ℕ → List (Slot × Record) → List (List ℕ)
family_keys family es = map (λ r. r.key) (filter (λ r. r.family == family) (map (λ e. e.1) es))

NotBelow : List ℕ → List ℕ → Type 0
NotBelow a b = is_lt (slice_cmp nat_cmp b a) ≡ false

none_below : (family : ℕ) (p : Slot) → p.family ≡ family → (es : List (Slot × Record)) → T (below_all slot_cmp p es) → InSlots es → All (NotBelow p.user) (family_keys family es)
unfolding NotBelow
none_below family p is [] below in_slots = All-nil (NotBelow p.user)
none_below family p is (e ∷ es) below in_slots =
    let parts = both_true (is_lt (slot_cmp p e.0)) (below_all slot_cmp p es) below in
    by parts.0 (none_below family p is es parts.1 in_slots.1) (e.1.family == family) refl
  where
    by : T (is_lt (slot_cmp p e.0)) → All (NotBelow p.user) (family_keys family es) → (b : Bool) → (e.1.family == family) ≡ b
        → All (NotBelow p.user) (map (λ r. r.key) (cond b (e.1 ∷ filter (λ r. r.family == family) (map (λ x. x.1) es)) (filter (λ r. r.family == family) (map (λ x. x.1) es))))
    by less later false other = later
    by less later true mine =
        let here : e.0.family ≡ family = sym (ap (λ (q : Slot). q.family) in_slots.0) ∙ family_is e.1.family family mine in
        let key : e.0.user ≡ e.1.key = sym (ap (λ (q : Slot). q.user) in_slots.0) in
        All-cons (NotBelow p.user) e.1.key _ (subst (λ k. is_lt (slice_cmp nat_cmp k p.user) ≡ false) key (users_rise p e.0 (is ∙ sym here) less)) later

keys_up : (family : ℕ) (es : List (Slot × Record)) → T (is_sorted slot_cmp es) → InSlots es → AllPairs NotBelow (family_keys family es)
keys_up family [] sorted in_slots = λ i j d before inside. absurd (omega arith)
keys_up family (e ∷ es) sorted in_slots =
    let parts = both_true (below_all slot_cmp e.0 es) (is_sorted slot_cmp es) sorted in
    by parts.0 (keys_up family es parts.1 in_slots.1) (e.1.family == family) refl
  where
    by : T (below_all slot_cmp e.0 es) → AllPairs NotBelow (family_keys family es) → (b : Bool) → (e.1.family == family) ≡ b
        → AllPairs NotBelow (map (λ r. r.key) (cond b (e.1 ∷ filter (λ r. r.family == family) (map (λ x. x.1) es)) (filter (λ r. r.family == family) (map (λ x. x.1) es))))
    by below later false other = later
    by below later true mine =
        let here : e.0.family ≡ family = sym (ap (λ (q : Slot). q.family) in_slots.0) ∙ family_is e.1.family family mine in
        let key : e.0.user ≡ e.1.key = sym (ap (λ (q : Slot). q.user) in_slots.0) in
        AllPairs-cons NotBelow e.1.key _ (subst (λ k. All (NotBelow k) (family_keys family es)) key (none_below family e.0 here es below in_slots.1)) later

keys_sorted : (keys : List (List ℕ)) → AllPairs NotBelow keys → IsSorted (slice_cmp nat_cmp) keys
unfolding NotBelow
keys_sorted keys up = λ k d low inside. up k (k + 1) d (omega arith) inside

keys_rise : (records : List Record) (family : ℕ) → IsStrictlySortedBy (slice_cmp nat_cmp) (keys_in (values (last_records records)) family)
keys_rise records family =
    let es = entries (last_records records) in
    IsStrictlySortedBy-dedup nat_list_cmp_total (λ x y. sym (is_eq-slice_cmp x y)) (family_keys family es)
    (keys_sorted (family_keys family es) (keys_up family es (entries_sorted (last_records records)) (last_in_slots records)))

-- a row has its key
below_rows : (k : List ℕ) (shows : List ℕ → Answer) (keys : List (List ℕ)) → AllByRecursion (λ y. slice_cmp nat_cmp k y ≡ Less) keys
    → AllByRecursion (λ y. slice_cmp nat_cmp k y ≡ Less) (map (λ row. row.key) (filter_map (λ key. row_of key (shows key)) keys))
below_rows k shows [] below = tt
below_rows k shows (key ∷ keys) below = by (below_rows k shows keys below.1) (shows key)
  where
    by : AllByRecursion (λ y. slice_cmp nat_cmp k y ≡ Less) (map (λ row. row.key) (filter_map (λ key. row_of key (shows key)) keys)) → (a : Answer)
        → AllByRecursion (λ y. slice_cmp nat_cmp k y ≡ Less) (map (λ row. row.key) (cons_option (row_of key a) (filter_map (λ key. row_of key (shows key)) keys)))
    by later (found value) = (below.0, later)
    by later absent = later
    by later (merge operands base) = (below.0, later)

rising_rows : (shows : List ℕ → Answer) (keys : List (List ℕ)) → IsStrictlySortedBy (slice_cmp nat_cmp) keys → IsStrictlySortedBy (slice_cmp nat_cmp) (map (λ row. row.key) (filter_map (λ key. row_of key (shows key)) keys))
unfolding IsStrictlySortedBy
rising_rows shows [] rising = tt
rising_rows shows (key ∷ keys) rising = by (below_rows key shows keys rising.0) (rising_rows shows keys rising.1) (shows key)
  where
    by : AllByRecursion (λ y. slice_cmp nat_cmp key y ≡ Less) (map (λ row. row.key) (filter_map (λ k. row_of k (shows k)) keys))
        → IsStrictlySortedBy (slice_cmp nat_cmp) (map (λ row. row.key) (filter_map (λ k. row_of k (shows k)) keys))
        → (a : Answer) → IsStrictlySortedBy (slice_cmp nat_cmp) (map (λ row. row.key) (cons_option (row_of key a) (filter_map (λ k. row_of k (shows k)) keys)))
    by below later (found value) = (below, later)
    by below later absent = later
    by below later (merge operands base) = (below, later)

pub rows_rising : (state : State) (records : List Record) → state.records ≡ last_records records → (family : ℕ) (from to : Option (List ℕ)) → IsStrictlySortedBy (slice_cmp nat_cmp) (map (λ row. row.key) (rows state family from to))
unfolding rows
rows_rising state records is family from to =
    let keys = keys_in (values state.records) family in
    let rise : IsStrictlySortedBy (slice_cmp nat_cmp) keys = subst (λ m. IsStrictlySortedBy (slice_cmp nat_cmp) (keys_in (values m) family)) (sym is) (keys_rise records family) in
    rising_rows (answer state family) (filter (is_between from to) keys) (IsStrictlySortedBy-filter (slice_cmp nat_cmp) (is_between from to) keys rise)
