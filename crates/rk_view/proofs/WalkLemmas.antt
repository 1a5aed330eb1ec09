-- The keys and the rows of a family after a place, among records in the order of their slots.
use Rattle.std.proofs.Common.{◌≡◌, ◌≢◌, ℕ, ◌+◌, ◌^◌, ◌≤◌, Bool, true, false, cond, T, List, [], ◌∷◌, length, map, refl, sym, ap, subst, ◌∙◌, arith, eq-eqb}
use Rattle.std.proofs.lemmas.Bool.{eqb-true}
use Rattle.std.proofs.lemmas.Map.Text.{is_eq-slice_cmp}
use Rattle.std.specs.Prelude.{Option, Some, None, find, filter, filter_map, bytes_eq, nat_lt, ◌==◌, ◌&&◌, unwrap_or}
use Rattle.std.proofs.lemmas.Bool.Decides.{nat_tests}
use Rattle.std.specs.List.{AllByRecursion, dedup, dedup_from, cons_option}
use Rattle.std.specs.declared.cmp.Ordering.{Ordering}
use Rattle.std.specs.declared.cmp.Ordering.TheVariants.{Less, Equal, Greater}
use Rattle.std.specs.Ordering.{nat_cmp, ordering_then, is_lt, is_le, is_gt, is_eq}
use Rattle.std.specs.Cmp.{nat_cmp_total, tied_itself, upto}
use Rattle.std.specs.Cmp.Lexicographic.{slice_cmp, nat_list_cmp_total}
use Rattle.std.specs.FinMap.{values, nat_cmp-IsAntisymmetric}
use Rattle.rk_bytes.specs.declared.model.key.Record.{Record}
use Rattle.rk_bytes.specs.Model.InternalKey.{packed_of, top_sequence}
use Rattle.rk_bytes.specs.Model.Records.{slot_cmp, slot_of}
use Rattle.rk_bytes.specs.Model.KeyView.{State, Answer, Row, found as a_value, absent, merge, answer, row_of, rows, keys_in, is_between, is_from}
use Rattle.rk_view.specs.Places.{is_after}
use Rattle.rk_view.specs.Maps.{IsRun, AreNumbered}
use Rattle.rk_view.specs.Shown.{is_below}
use Rattle.rk_view.proofs.SlotOrder.{same_text, head_cmp, head_cmp-total, head_of, place_of, lt_upto, is_lt-Less, heads_upto, upto_head}
use Rattle.rk_view.proofs.FirstLemmas.{equal}
use Rattle.rk_view.proofs.RunLemmas.{both_true, lt-Less, Rises}
use Rattle.rk_view.proofs.ViewLemmas.{filter_none, filter_all, each_later, less_not_gt, follows, after_of, not_after, past_key, all_filter, same_record, first_part, rest_part, number_fits, not_lt, is_lt_of}

-- the keys of a family's records, in their order
abbrev pub keys_of : ℕ → List Record → List (List ℕ)
keys_of family run = map (λ (r : Record). r.key) (filter (λ (r : Record). r.family == family) run)

-- a record's key, if it is of the family
keys_first : (family : ℕ) (x : Record) (run : List Record) (b : Bool) → (x.family == family) ≡ b → keys_of family (x ∷ run) ≡ cond b (x.key ∷ keys_of family run) (keys_of family run)
keys_first family x run b e = ap (λ c. map (λ (r : Record). r.key) (cond c (x ∷ filter (λ (r : Record). r.family == family) run) (filter (λ (r : Record). r.family == family) run))) e ∙ by b
  where
    by : (b : Bool) → map (λ (r : Record). r.key) (cond b (x ∷ filter (λ (r : Record). r.family == family) run) (filter (λ (r : Record). r.family == family) run)) ≡ cond b (x.key ∷ keys_of family run) (keys_of family run)
    by true = refl
    by false = refl

family_less : (family : ℕ) (user : List ℕ) (below : ℕ) (r : Record) → is_after family user below r ≡ true → (r.family ≡ family → ⊥) → nat_cmp family r.family ≡ Less
family_less family user below r after other = by (nat_cmp family r.family) refl after
  where
    by : (o : Ordering) → nat_cmp family r.family ≡ o → is_lt (ordering_then o (ordering_then (slice_cmp nat_cmp user r.key) (nat_cmp (packed_of r.sequence r.kind) below))) ≡ true → o ≡ Less
    by Less is after = refl
    by Equal is after = absurd (other (sym (nat_cmp-IsAntisymmetric family r.family is)))
    by Greater is after = cc

later_family : (r y : Record) → slot_cmp (slot_of r) (slot_of y) ≡ Less → is_gt (nat_cmp r.family y.family) ≡ false
later_family r y less = upto_head (nat_cmp r.family y.family) _ (heads_upto r y (less_not_gt _ less))

uneven : (family other : ℕ) → nat_cmp family other ≡ Less → (other == family) ≡ false
uneven family other less = by (other == family) refl
  where
    by : (b : Bool) → (other == family) ≡ b → b ≡ false
    by false e = refl
    by true e = absurd (let same : other ≡ family = eqb-true other family e in let tied : nat_cmp family other ≡ Equal = ap (nat_cmp family) same ∙ tied_itself nat_cmp_total family in let no : Less ≡ Equal = sym less ∙ tied in cc)

-- past a family there are none of its keys
no_keys : (family : ℕ) (run : List Record) → AllByRecursion (λ (y : Record). (y.family == family) ≡ false) run → keys_of family run ≡ []
no_keys family run all = ap (map (λ (r : Record). r.key)) (filter_none (λ (r : Record). r.family == family) run all)

keys_none : (family : ℕ) (run : List Record) → keys_of family run ≡ [] → keys_in run family ≡ []
keys_none family run e = ap (dedup bytes_eq) e

module _ (family : ℕ) (user : List ℕ) (below : ℕ) where
  -- where the next record is of a later family, the family has no more keys
  pub keys_past : (run : List Record) (r : Record) → Rises run → find (is_after family user below) run ≡ Some r → (r.family ≡ family → ⊥) → keys_in (filter (is_after family user below) run) family ≡ []
  keys_past [] r rises found other = cc
  keys_past (x ∷ run) r rises found other = by (is_after family user below x) refl found (λ later. keys_past run r (rest_part x run rises) later other)
    where
      by : (b : Bool) → is_after family user below x ≡ b → cond b (Some x) (find (is_after family user below) run) ≡ Some r
          → (find (is_after family user below) run ≡ Some r → keys_in (filter (is_after family user below) run) family ≡ [])
          → keys_in (cond b (x ∷ filter (is_after family user below) run) (filter (is_after family user below) run)) family ≡ []
      by false is found later = later found
      by true is found later =
          let same : x ≡ r = same_record x r found in
          let less : nat_cmp family x.family ≡ Less = family_less family user below x is (λ f. other (ap (λ (y : Record). y.family) (sym same) ∙ f)) in
          keys_none family (x ∷ filter (is_after family user below) run) (no_keys family (x ∷ filter (is_after family user below) run) (
            uneven family x.family less,
            all_filter (λ (y : Record). (y.family == family) ≡ false) (is_after family user below) run (each_later (λ (y : Record). (y.family == family) ≡ false) x run (first_part x run rises)
                (λ y before. uneven family y.family (is_lt-Less _ (lt_upto nat_cmp_total family x.family y.family _ refl less (later_family x y before))))),
          ))

  -- what comes after all of the next key comes after the place
  beyond : (r y : Record) → is_after family user below r ≡ true → r.family ≡ family → is_after family r.key 0 y ≡ true → is_after family user below y ≡ true
  beyond r y after f past =
      let start : head_cmp (head_of r) (place_of family r.key 0) ≡ nat_cmp 0 (packed_of r.sequence r.kind) =
      ap (λ o. ordering_then o (ordering_then (slice_cmp nat_cmp r.key r.key) (nat_cmp 0 (packed_of r.sequence r.kind)))) (ap (λ n. nat_cmp n family) f ∙ tied_itself nat_cmp_total family)
      ∙ ap (λ o. ordering_then o (nat_cmp 0 (packed_of r.sequence r.kind))) (tied_itself nat_list_cmp_total r.key) in
      let low : is_gt (head_cmp (head_of r) (place_of family r.key 0)) ≡ false = ap is_gt start ∙ never_gt (packed_of r.sequence r.kind) in
      let ahead : is_gt (head_cmp (head_of r) (head_of y)) ≡ false = upto head_cmp-total (head_of r) (place_of family r.key 0) (head_of y) low (ap is_gt (is_lt-Less _ past)) in
      lt_upto head_cmp-total (place_of family user below) (head_of r) (head_of y) _ refl (is_lt-Less _ after) ahead
    where
      never_gt : (n : ℕ) → is_gt (nat_cmp 0 n) ≡ false
      never_gt n = go (nat_lt 0 n) (0 == n) refl refl
        where
          go : (l m : Bool) → nat_lt 0 n ≡ l → (0 == n) ≡ m → is_gt (cond l Less (cond m Equal Greater)) ≡ false
          go true m a b = refl
          go false true a b = refl
          go false false a b = absurd (let zero : n ≡ 0 = grind (arith, nat_tests) in let other : 0 ≢ n = grind (arith, nat_tests) in other (sym zero))

  -- the next record, and what comes after it
  pub record Split (run : List Record) (r : Record) : Type 0 where
    pub tail : List Record
    pub here : filter (is_after family user below) run ≡ r ∷ tail
    pub rest : filter (is_after family r.key 0) run ≡ filter (is_after family r.key 0) tail
    pub rises : Rises (r ∷ tail)

  pub split : (run : List Record) (r : Record) → Rises run → find (is_after family user below) run ≡ Some r → is_after family user below r ≡ true → r.family ≡ family → Split run r
  split [] r rises found after f = cc
  split (x ∷ run) r rises found after f = by (is_after family user below x) refl found (λ later. split run r (rest_part x run rises) later after f)
    where
      by : (b : Bool) → is_after family user below x ≡ b → cond b (Some x) (find (is_after family user below) run) ≡ Some r → (find (is_after family user below) run ≡ Some r → Split run r) → Split (x ∷ run) r
      by false is found later =
          let s = later found in
          let kept : is_after family r.key 0 x ≡ false = not_beyond (is_after family r.key 0 x) refl in
          record {
            tail = s.tail;
            here = ap (λ b. cond b (x ∷ filter (is_after family user below) run) (filter (is_after family user below) run)) is ∙ s.here;
            rest = ap (λ b. cond b (x ∷ filter (is_after family r.key 0) run) (filter (is_after family r.key 0) run)) kept ∙ s.rest;
            rises = s.rises;
          }
        where
          not_beyond : (b : Bool) → is_after family r.key 0 x ≡ b → b ≡ false
          not_beyond false e = refl
          not_beyond true e = absurd (let no : true ≡ false = sym (beyond r x after f e) ∙ is in cc)
      by true is found later =
          let same : x ≡ r = same_record x r found in
          let own : is_after family r.key 0 x ≡ false = ap (is_after family r.key 0) same ∙ not_after family r.key 0 r f refl (omega arith) in
          let all = filter_all (is_after family user below) run (each_later (λ y. is_after family user below y ≡ true) x run (first_part x run rises) (λ y less. follows family user below x y is less)) in
          record {
            tail = run;
            here = ap (λ b. cond b (x ∷ filter (is_after family user below) run) (filter (is_after family user below) run)) is ∙ (λ i. same i ∷ all i);
            rest = ap (λ b. cond b (x ∷ filter (is_after family r.key 0) run) (filter (is_after family r.key 0) run)) own;
            rises = subst (λ y. Rises (y ∷ run)) same rises;
          }

same_key : (a b : List ℕ) → bytes_eq a b ≡ true → a ≡ b
same_key a b e = same_text a b (equal _ (is_eq-slice_cmp a b ∙ e))

apart_key : (a b : List ℕ) → bytes_eq a b ≡ false → a ≡ b → ⊥
apart_key a b e same =
    let yes : bytes_eq a b ≡ true = sym (is_eq-slice_cmp a b) ∙ ap is_eq (ap (slice_cmp nat_cmp a) (sym same) ∙ tied_itself nat_list_cmp_total a) in
    let no : true ≡ false = sym yes ∙ e in cc

-- a later record of another key comes after all of the key
after_key : (family : ℕ) (r y : Record) → r.family ≡ family → slot_cmp (slot_of r) (slot_of y) ≡ Less → (y.family ≡ family → y.key ≡ r.key → ⊥) → is_after family r.key 0 y ≡ true
after_key family r y f less other =
    let own : is_after family r.key (packed_of r.sequence r.kind + 1) r ≡ true = after_of family r.key (packed_of r.sequence r.kind + 1) r f refl (omega arith) in
    past_key family r.key (packed_of r.sequence r.kind + 1) y (follows family r.key (packed_of r.sequence r.kind + 1) r y own less) other

-- a key counts once
once : (family : ℕ) (r : Record) (run : List Record) → r.family ≡ family → Rises (r ∷ run) → dedup_from bytes_eq r.key (keys_of family run) ≡ r.key ∷ dedup bytes_eq (keys_of family (filter (is_after family r.key 0) run))
once family r [] f rises = refl
once family r (y ∷ run) f rises = by (y.family == family) (bytes_eq y.key r.key) refl refl (once family r run f without)
  where
    less : slot_cmp (slot_of r) (slot_of y) ≡ Less
    less = lt-Less _ (both_true (is_lt (slot_cmp (slot_of r) (slot_of y))) _ (first_part r (y ∷ run) rises)).0

    without : Rises (r ∷ run)
    without = both _ _ (both_true (is_lt (slot_cmp (slot_of r) (slot_of y))) _ (first_part r (y ∷ run) rises)).1 (rest_part y run (rest_part r (y ∷ run) rises))
      where
        both : (a b : Bool) → T a → T b → T (a && b)
        both true b s t = t
        both false b s t = absurd s

    by : (b c : Bool) → (y.family == family) ≡ b → bytes_eq y.key r.key ≡ c → dedup_from bytes_eq r.key (keys_of family run) ≡ r.key ∷ dedup bytes_eq (keys_of family (filter (is_after family r.key 0) run))
        → dedup_from bytes_eq r.key (keys_of family (y ∷ run)) ≡ r.key ∷ dedup bytes_eq (keys_of family (filter (is_after family r.key 0) (y ∷ run)))
    by true true mine same later =
        let own : is_after family r.key 0 y ≡ false = not_after family r.key 0 y (eqb-true y.family family mine) (same_key y.key r.key same) (omega arith) in
        ap (dedup_from bytes_eq r.key) (keys_first family y run true mine) ∙ ap (λ b. cond b (dedup_from bytes_eq r.key (keys_of family run)) (r.key ∷ dedup_from bytes_eq y.key (keys_of family run))) same ∙ later
        ∙ ap (λ b. r.key ∷ dedup bytes_eq (keys_of family (cond b (y ∷ filter (is_after family r.key 0) run) (filter (is_after family r.key 0) run)))) (sym own)
    by true false mine other later =
        let past : is_after family r.key 0 y ≡ true = after_key family r y f less (λ g k. apart_key y.key r.key other k) in
        let all = filter_all (is_after family r.key 0) (y ∷ run) (past, each_later (λ z. is_after family r.key 0 z ≡ true) y run (first_part y run (rest_part r (y ∷ run) rises)) (λ z before. follows family r.key 0 y z past before)) in
        ap (dedup_from bytes_eq r.key) (keys_first family y run true mine) ∙ ap (λ b. cond b (dedup_from bytes_eq r.key (keys_of family run)) (r.key ∷ dedup_from bytes_eq y.key (keys_of family run))) other
        ∙ ap (λ ks. r.key ∷ dedup bytes_eq ks) (sym (keys_first family y run true mine)) ∙ ap (λ rs. r.key ∷ dedup bytes_eq (keys_of family rs)) (sym all)
    by false c others same later =
        ap (dedup_from bytes_eq r.key) (keys_first family y run false others) ∙ later ∙ ap (λ ks. r.key ∷ dedup bytes_eq ks) (sym (dropped (is_after family r.key 0 y)))
      where
        dropped : (b : Bool) → keys_of family (cond b (y ∷ filter (is_after family r.key 0) run) (filter (is_after family r.key 0) run)) ≡ keys_of family (filter (is_after family r.key 0) run)
        dropped true = keys_first family y (filter (is_after family r.key 0) run) false others
        dropped false = refl

pub shorter : (q : Record → Bool) (run : List Record) → length (filter q run) ≤ length run
shorter q [] = omega arith
shorter q (x ∷ run) = by (q x) (shorter q run)
  where
    by : (b : Bool) → length (filter q run) ≤ length run → length (cond b (x ∷ filter q run) (filter q run)) ≤ length (x ∷ run)
    by true le = omega arith
    by false le = omega arith

-- the keys after a place: that of the next record, and those after it
keys_next : (family : ℕ) (user : List ℕ) (below : ℕ) (run : List Record) (r : Record) → r.family ≡ family → Split family user below run r
    → keys_in (filter (is_after family user below) run) family ≡ r.key ∷ keys_in (filter (is_after family r.key 0) run) family
keys_next family user below run r f s =
    ap (λ rs. keys_in rs family) s.here ∙ ap (dedup bytes_eq) (keys_first family r s.tail true (eq-eqb r.family family f)) ∙ once family r s.tail f s.rises
    ∙ ap (λ rs. r.key ∷ dedup bytes_eq (keys_of family rs)) (sym s.rest)

pub filter_passes : (q : Record → Bool) (run : List Record) → AllByRecursion (λ y. q y ≡ true) (filter q run)
filter_passes q [] = tt
filter_passes q (x ∷ run) = by (q x) refl (filter_passes q run)
  where
    by : (b : Bool) → q x ≡ b → AllByRecursion (λ y. q y ≡ true) (filter q run) → AllByRecursion (λ y. q y ≡ true) (cond b (x ∷ filter q run) (filter q run))
    by true e later = (e, later)
    by false e later = later

all_dedup_from : (P : List ℕ → Type 0) (k : List ℕ) (ks : List (List ℕ)) → P k → AllByRecursion P ks → AllByRecursion P (dedup_from bytes_eq k ks)
all_dedup_from P k [] here all = (here, tt)
all_dedup_from P k (y ∷ ks) here all = by (bytes_eq y k) (all_dedup_from P k ks here all.1) (all_dedup_from P y ks all.0 all.1)
  where
    by : (b : Bool) → AllByRecursion P (dedup_from bytes_eq k ks) → AllByRecursion P (dedup_from bytes_eq y ks) → AllByRecursion P (cond b (dedup_from bytes_eq k ks) (k ∷ dedup_from bytes_eq y ks))
    by true one two = one
    by false one two = (here, two)

pub all_dedup : (P : List ℕ → Type 0) (ks : List (List ℕ)) → AllByRecursion P ks → AllByRecursion P (dedup bytes_eq ks)
all_dedup P [] all = tt
all_dedup P (k ∷ ks) all = all_dedup_from P k ks all.0 all.1

pub all_keys : (P : List ℕ → Type 0) (family : ℕ) (run : List Record) → AllByRecursion (λ y. y.family ≡ family → P y.key) run → AllByRecursion P (keys_of family run)
all_keys P family [] all = tt
all_keys P family (x ∷ run) all = subst (AllByRecursion P) (sym (keys_first family x run (x.family == family) refl)) (by (x.family == family) refl (all_keys P family run all.1))
  where
    by : (b : Bool) → (x.family == family) ≡ b → AllByRecursion P (keys_of family run) → AllByRecursion P (cond b (x.key ∷ keys_of family run) (keys_of family run))
    by true e later = (all.0 (eqb-true x.family family e), later)
    by false e later = later

each_of : {A : Type 0} (P Q : A → Type 0) (xs : List A) → ((x : A) → P x → Q x) → AllByRecursion P xs → AllByRecursion Q xs
each_of P Q [] f all = tt
each_of P Q (x ∷ xs) f all = (f x all.0, each_of P Q xs f all.1)

-- what comes after all of a key of the family has a greater key
pub greater_key : (family : ℕ) (key : List ℕ) (y : Record) → is_after family key 0 y ≡ true → y.family ≡ family → slice_cmp nat_cmp key y.key ≡ Less
greater_key family key y after f = by (slice_cmp nat_cmp key y.key) refl (sym first ∙ after)
  where
    first : is_after family key 0 y ≡ is_lt (ordering_then (slice_cmp nat_cmp key y.key) (nat_cmp (packed_of y.sequence y.kind) 0))
    first = ap (λ o. is_lt (ordering_then o (ordering_then (slice_cmp nat_cmp key y.key) (nat_cmp (packed_of y.sequence y.kind) 0)))) (ap (nat_cmp family) f ∙ tied_itself nat_cmp_total family)

    by : (o : Ordering) → slice_cmp nat_cmp key y.key ≡ o → is_lt (ordering_then o (nat_cmp (packed_of y.sequence y.kind) 0)) ≡ true → o ≡ Less
    by Less is e = refl
    by Equal is e = absurd (let no : true ≡ false = sym e ∙ not_lt (packed_of y.sequence y.kind) 0 (omega arith) in cc)
    by Greater is e = cc

-- a key above one that isn't below an end isn't below it either
not_below : (to : Option (List ℕ)) (a b : List ℕ) → slice_cmp nat_cmp a b ≡ Less → is_below to a ≡ false → is_below to b ≡ false
not_below None a b less e = cc
not_below (Some end) a b less e = by (is_lt (slice_cmp nat_cmp b end)) refl
  where
    by : (c : Bool) → is_lt (slice_cmp nat_cmp b end) ≡ c → c ≡ false
    by false e2 = refl
    by true e2 = absurd (let no : true ≡ false = sym (ap is_lt (nat_list_cmp_total.trans a b end less (is_lt-Less _ e2))) ∙ e in cc)

-- the rows of a family's keys after a place, up to an end, which is excluded
unfoldable pub rows_after : State → ℕ → List ℕ → ℕ → Option (List ℕ) → List Row
rows_after state family user below to =
    filter_map (λ key. row_of key (answer state family key))
    (filter (is_below to) (keys_in (filter (is_after family user below) (values state.records)) family))

module _ (state : State) (family : ℕ) (user : List ℕ) (below : ℕ) (to : Option (List ℕ)) where
  -- no keys, no rows
  pub rows_none : keys_in (filter (is_after family user below) (values state.records)) family ≡ [] → rows_after state family user below to ≡ []
  unfolding rows_after
  rows_none e = ap (λ ks. filter_map (λ key. row_of key (answer state family key)) (filter (is_below to) ks)) e

  -- where the next key isn't below the end, no row is left
  pub rows_end : (r : Record) → r.family ≡ family → Split family user below (values state.records) r → is_below to r.key ≡ false → rows_after state family user below to ≡ []
  unfolding rows_after
  rows_end r f s past =
      let later = keys_in (filter (is_after family r.key 0) (values state.records)) family in
      let passes = filter_passes (is_after family r.key 0) (values state.records) in
      let each = each_of (λ y. is_after family r.key 0 y ≡ true) (λ y. y.family ≡ family → is_below to y.key ≡ false) (filter (is_after family r.key 0) (values state.records))
      (λ y after g. not_below to r.key y.key (greater_key family r.key y after g) past) passes in
      let all = all_dedup (λ k. is_below to k ≡ false) _ (all_keys (λ k. is_below to k ≡ false) family (filter (is_after family r.key 0) (values state.records)) each) in
      ap (λ ks. filter_map (λ key. row_of key (answer state family key)) (filter (is_below to) ks)) (keys_next family user below (values state.records) r f s)
      ∙ ap (filter_map (λ key. row_of key (answer state family key))) (filter_none (is_below to) (r.key ∷ later) (past, all))

  -- the next key's row, and those after it
  pub next_of_family : (r : Record) → r.family ≡ family → Split family user below (values state.records) r → is_below to r.key ≡ true
      → rows_after state family user below to ≡ cons_option (row_of r.key (answer state family r.key)) (rows_after state family r.key 0 to)
  unfolding rows_after
  next_of_family r f s before =
      ap (λ ks. filter_map (λ key. row_of key (answer state family key)) (filter (is_below to) ks)) (keys_next family user below (values state.records) r f s)
      ∙ ap (λ b. filter_map (λ key. row_of key (answer state family key)) (cond b (r.key ∷ filter (is_below to) (keys_in (filter (is_after family r.key 0) (values state.records)) family)) (filter (is_below to) (keys_in (filter (is_after family r.key 0) (values state.records)) family)))) before

-- a key that doesn't pass needn't be counted
drop_from : (t : List ℕ → Bool) (k : List ℕ) (ks : List (List ℕ)) → t k ≡ false → filter t (dedup_from bytes_eq k ks) ≡ filter t (dedup bytes_eq ks)
drop_from t k [] fails = ap (λ b. cond b (k ∷ []) []) fails
drop_from t k (y ∷ ks) fails = by (bytes_eq y k) refl
  where
    by : (b : Bool) → bytes_eq y k ≡ b → filter t (cond b (dedup_from bytes_eq k ks) (k ∷ dedup_from bytes_eq y ks)) ≡ filter t (dedup_from bytes_eq y ks)
    by true same = ap (λ j. filter t (dedup_from bytes_eq j ks)) (sym (same_key y k same))
    by false other = ap (λ b. cond b (k ∷ filter t (dedup_from bytes_eq y ks)) (filter t (dedup_from bytes_eq y ks))) fails

same_filter : (s t : List ℕ → Bool) (ks : List (List ℕ)) → AllByRecursion (λ k. s k ≡ t k) ks → filter s ks ≡ filter t ks
same_filter s t [] all = refl
same_filter s t (k ∷ ks) all = λ i. cond (all.0 i) (k ∷ same_filter s t ks all.1 i) (same_filter s t ks all.1 i)

pub after_start : (family : ℕ) (start : List ℕ) (x : Record) → x.sequence ≤ top_sequence → x.family ≡ family → is_after family start (2 ^ 64) x ≡ is_from start x.key
after_start family start x few f =
    ap (λ o. is_lt (ordering_then o (ordering_then (slice_cmp nat_cmp start x.key) (nat_cmp (packed_of x.sequence x.kind) (2 ^ 64))))) (ap (nat_cmp family) f ∙ tied_itself nat_cmp_total family)
    ∙ ap (λ o. is_lt (ordering_then (slice_cmp nat_cmp start x.key) o)) (is_lt-Less _ (is_lt_of (packed_of x.sequence x.kind) (2 ^ 64) (number_fits [] family start x few)))
    ∙ by (slice_cmp nat_cmp start x.key)
  where
    by : (o : Ordering) → is_lt (ordering_then o Less) ≡ is_le o
    by Less = refl
    by Equal = refl
    by Greater = refl

between_from : (from to : Option (List ℕ)) (k : List ℕ) → is_from (unwrap_or from []) k ≡ true → is_between from to k ≡ is_below to k
between_from None to k e = refl
between_from (Some start) to k e = ap (λ b. b && is_below to k) e

not_between : (from to : Option (List ℕ)) (k : List ℕ) → is_from (unwrap_or from []) k ≡ false → is_between from to k ≡ false
not_between None to [] e = cc
not_between None to (c ∷ k) e = cc
not_between (Some start) to k e = ap (λ b. b && is_below to k) e

-- the keys between two bounds are those after the first one
keys_between : (family : ℕ) (from to : Option (List ℕ)) (run : List Record) → Rises run → AreNumbered run
    → filter (is_between from to) (keys_in run family) ≡ filter (is_below to) (keys_in (filter (is_after family (unwrap_or from []) (2 ^ 64)) run) family)
keys_between family from to [] rises few = refl
keys_between family from to (x ∷ run) rises few = by (is_after family (unwrap_or from []) (2 ^ 64) x) refl (keys_between family from to run (rest_part x run rises) few.1)
  where
    numbered : (y : Record) → y.sequence ≤ top_sequence → is_after family (unwrap_or from []) (2 ^ 64) y ≡ true → y.family ≡ family → is_between from to y.key ≡ is_below to y.key
    numbered y low after f = between_from from to y.key (sym (after_start family (unwrap_or from []) y low f) ∙ after)

    each : (ys : List Record) → AreNumbered ys → AllByRecursion (λ y. is_after family (unwrap_or from []) (2 ^ 64) y ≡ true) ys → AllByRecursion (λ y. y.family ≡ family → is_between from to y.key ≡ is_below to y.key) ys
    each [] low after = tt
    each (y ∷ ys) low after = (numbered y low.0 after.0, each ys low.1 after.1)

    by : (b : Bool) → is_after family (unwrap_or from []) (2 ^ 64) x ≡ b
        → filter (is_between from to) (keys_in run family) ≡ filter (is_below to) (keys_in (filter (is_after family (unwrap_or from []) (2 ^ 64)) run) family)
        → filter (is_between from to) (keys_in (x ∷ run) family) ≡ filter (is_below to) (keys_in (cond b (x ∷ filter (is_after family (unwrap_or from []) (2 ^ 64)) run) (filter (is_after family (unwrap_or from []) (2 ^ 64)) run)) family)
    by true is later =
        let after = each_later (λ y. is_after family (unwrap_or from []) (2 ^ 64) y ≡ true) x run (first_part x run rises) (λ y less. follows family (unwrap_or from []) (2 ^ 64) x y is less) in
        let all = filter_all (is_after family (unwrap_or from []) (2 ^ 64)) run after in
        same_filter (is_between from to) (is_below to) (keys_in (x ∷ run) family) (all_dedup (λ k. is_between from to k ≡ is_below to k) (keys_of family (x ∷ run)) (all_keys (λ k. is_between from to k ≡ is_below to k) family (x ∷ run) (each (x ∷ run) few (is, after))))
        ∙ ap (λ rs. filter (is_below to) (keys_in (x ∷ rs) family)) (sym all)
    by false is later = ap (λ ks. filter (is_between from to) (dedup bytes_eq ks)) (keys_first family x run (x.family == family) refl) ∙ dropped (x.family == family) refl ∙ later
      where
        dropped : (b : Bool) → (x.family == family) ≡ b → filter (is_between from to) (dedup bytes_eq (cond b (x.key ∷ keys_of family run) (keys_of family run))) ≡ filter (is_between from to) (dedup bytes_eq (keys_of family run))
        dropped true f = drop_from (is_between from to) x.key (keys_of family run) (not_between from to x.key (sym (after_start family (unwrap_or from []) x few.0 (eqb-true x.family family f)) ∙ is))
        dropped false f = refl

-- the rows between two bounds are those after the first one
pub rows_from : (state : State) (family : ℕ) (from to : Option (List ℕ)) (top : ℕ) → top ≡ 2 ^ 64 → IsRun (values state.records) → rows_after state family (unwrap_or from []) top to ≡ rows state family from to
unfolding rows rows_after
rows_from state family from to top is run =
    ap (λ n. filter_map (λ key. row_of key (answer state family key)) (filter (is_below to) (keys_in (filter (is_after family (unwrap_or from []) n) (values state.records)) family))) is
    ∙ ap (filter_map (λ key. row_of key (answer state family key))) (sym (keys_between family from to (values state.records) run.rises run.numbered))

-- the row of a key of which something is shown
pub row_is : (key : List ℕ) (shown : Answer) → (shown ≡ absent → ⊥) → row_of key shown ≡ Some (record { key = key; answer = shown })
row_is key (a_value value) some = refl
row_is key absent some = absurd (some refl)
row_is key (merge operands base) some = refl
