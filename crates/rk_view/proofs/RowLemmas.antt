-- The rows that are left of a walk over several sources.
use Rattle.std.proofs.Common.{◌≡◌, ℕ, ◌^◌, ◌<◌, ◌≤◌, Bool, true, false, cond, List, [], ◌∷◌, length, map, refl, sym, ap, subst, ◌∙◌, arith}
use Rattle.std.specs.Prelude.{Option, Some, None, find, filter, filter_map, unwrap_or, slice_get}
use Rattle.std.specs.List.{AllByRecursion, cons_option}
use Rattle.std.specs.declared.cmp.Ordering.{Ordering}
use Rattle.std.specs.declared.cmp.Ordering.TheVariants.{Less, Equal, Greater}
use Rattle.std.specs.Ordering.{nat_cmp, ordering_then, is_lt}
use Rattle.std.specs.Cmp.{nat_cmp_total, tied_itself}
use Rattle.std.specs.Cmp.Lexicographic.{slice_cmp}
use Rattle.std.specs.FinMap.{values, nat_cmp-IsAntisymmetric}
use Rattle.rk_bytes.specs.declared.model.key.Record.{Record}
use Rattle.rk_bytes.specs.Model.InternalKey.{packed_of, top_sequence}
use Rattle.rk_bytes.specs.declared.model.view.Tomb.{Tomb}
use Rattle.rk_bytes.specs.Model.Records.{RecordMap}
use Rattle.rk_bytes.specs.Model.KeyView.{State, Answer, Row, found as a_value, absent, merge, answer, shown, deciding, uncovered, view_records, row_of, rows, keys_in, is_from}
use Rattle.rk_view.specs.Places.{is_after}
use Rattle.rk_view.specs.Maps.{IsRun, AreNumbered, map_of}
use Rattle.rk_view.specs.Sources.{merged, AreRuns}
use Rattle.rk_view.specs.Shown.{is_below, is_merged, rows_left, answer_in, IsFrom, IsMergeNext}
use Rattle.rk_view.proofs.SourceLemmas.{merged_after}
use Rattle.rk_view.proofs.ViewLemmas.{filter_twice, shows, shows_key, of_key, not_after, all_filter, same_record}
use Rattle.rk_view.proofs.WalkLemmas.{rows_after, rows_none, rows_end, next_of_family, split, keys_past, all_dedup, all_keys, keys_of, filter_passes, greater_key, after_start, rows_from, row_is, shorter}

filter_map_same : (f g : List ℕ → Option Row) (ks : List (List ℕ)) → AllByRecursion (λ k. f k ≡ g k) ks → filter_map f ks ≡ filter_map g ks
filter_map_same f g [] all = refl
filter_map_same f g (k ∷ ks) all = λ i. cons_option (all.0 i) (filter_map_same f g ks all.1 i)

-- Records of one key come after a place alike.
abbrev AreAlike : ℕ → (Record → Bool) → Type 0
AreAlike family p = (y z : Record) → y.sequence ≤ top_sequence → z.sequence ≤ top_sequence → y.family ≡ family → z.family ≡ family → z.key ≡ y.key → p y ≡ true → p z ≡ true

alike_past : (family : ℕ) (user : List ℕ) → AreAlike family (is_after family user 0)
alike_past family user y z low few f g same after =
    let less : slice_cmp nat_cmp user z.key ≡ Less = ap (slice_cmp nat_cmp user) same ∙ greater_key family user y after f in
    ap (λ o. is_lt (ordering_then o (ordering_then (slice_cmp nat_cmp user z.key) (nat_cmp (packed_of z.sequence z.kind) 0)))) (ap (nat_cmp family) g ∙ tied_itself nat_cmp_total family)
    ∙ ap (λ o. is_lt (ordering_then o (nat_cmp (packed_of z.sequence z.kind) 0))) less

alike_start : (family : ℕ) (start : List ℕ) → AreAlike family (is_after family start (2 ^ 64))
alike_start family start y z low few f g same after = after_start family start z few g ∙ ap (is_from start) same ∙ sym (after_start family start y low f) ∙ after

-- what is shown of a key whose records all come after a place doesn't depend on the others
module _ (state : State) (m : RecordMap) (family : ℕ) (user : List ℕ) (below : ℕ) (alike : AreAlike family (is_after family user below)) where
  abbrev left : State
  left = record { families = []; records = m; tombs = state.tombs }

  each_after : (y : Record) (run : List Record) → AreNumbered run → y.sequence ≤ top_sequence → y.family ≡ family → is_after family user below y ≡ true
      → AllByRecursion (λ z. shows state.tombs family y.key z ≡ true → is_after family user below z ≡ true) run
  each_after y [] few low f after = tt
  each_after y (z ∷ run) few low f after =
      ((λ e. let of = of_key family y.key z (shows_key state.tombs family y.key z e) in alike y z low few.0 f of.0 of.1 after), each_after y run few.1 low f after)

  same_answer : values m ≡ filter (is_after family user below) (values state.records) → AreNumbered (values state.records) → (y : Record) → y.sequence ≤ top_sequence → is_after family user below y ≡ true → y.family ≡ family
      → answer state family y.key ≡ answer left family y.key
  unfolding view_records
  same_answer e few y low after f =
      ap (λ rs. shown (deciding rs)) (sym (ap (uncovered state.tombs family y.key) e ∙ filter_twice (shows state.tombs family y.key) (is_after family user below) (values state.records) (each_after y (values state.records) few low f after)))

  each_answer : values m ≡ filter (is_after family user below) (values state.records) → AreNumbered (values state.records) → (ys : List Record) → AreNumbered ys → AllByRecursion (λ y. is_after family user below y ≡ true) ys
      → AllByRecursion (λ y. y.family ≡ family → row_of y.key (answer state family y.key) ≡ row_of y.key (answer left family y.key)) ys
  each_answer e few [] low after = tt
  each_answer e few (y ∷ ys) low after = ((λ f. ap (row_of y.key) (same_answer e few y low.0 after.0 f)), each_answer e few ys low.1 after.1)

  rows_alike : values m ≡ filter (is_after family user below) (values state.records) → AreNumbered (values state.records) → (to : Option (List ℕ)) → rows_after state family user below to ≡ rows left family None to
  unfolding rows rows_after
  rows_alike e few to =
      let after = filter (is_after family user below) (values state.records) in
      let P : List ℕ → Type 0 = λ k. row_of k (answer state family k) ≡ row_of k (answer left family k) in
      let all = all_dedup P (keys_of family after) (all_keys P family after (each_answer e few after (all_filter (λ y. y.sequence ≤ top_sequence) (is_after family user below) (values state.records) few) (filter_passes (is_after family user below) (values state.records)))) in
      filter_map_same (λ key. row_of key (answer state family key)) (λ key. row_of key (answer left family key)) (filter (is_below to) (keys_in after family)) (all_filter P (is_below to) (keys_in after family) all)
      ∙ ap (λ rs. filter_map (λ key. row_of key (answer left family key)) (filter (is_below to) (keys_in rs family))) (sym e)

-- a walk begins with the rows between its bounds
pub rows_begin : (state : State) (family : ℕ) (from to : Option (List ℕ)) (lefts : List (List Record)) → IsRun (values state.records) → merged lefts ≡ filter (is_after family (unwrap_or from []) (2 ^ 64)) (values state.records)
    → rows_left state.tombs family to lefts ≡ rows state family from to
unfolding rows_left
rows_begin state family from to lefts run e =
    sym (rows_alike state (map_of lefts) family (unwrap_or from []) (2 ^ 64) (alike_start family (unwrap_or from [])) e run.numbered to) ∙ rows_from state family from to (2 ^ 64) refl run

each_from : (family : ℕ) (start : List ℕ) (run : List Record) → AreNumbered run → AllByRecursion (λ y. is_after family start (2 ^ 64) y ≡ true) run → IsFrom family run
each_from family start [] few after = tt
each_from family start (y ∷ run) few after = (by (nat_cmp family y.family) refl after.0, each_from family start run few.1 after.1)
  where
    by : (o : Ordering) → nat_cmp family y.family ≡ o → is_lt (ordering_then o (ordering_then (slice_cmp nat_cmp start y.key) (nat_cmp (packed_of y.sequence y.kind) (2 ^ 64)))) ≡ true → is_after family [] (2 ^ 64) y ≡ true
    by Less is e = ap (λ o. is_lt (ordering_then o (ordering_then (slice_cmp nat_cmp [] y.key) (nat_cmp (packed_of y.sequence y.kind) (2 ^ 64))))) is
    by Equal is e = after_start family [] y few.0 (sym (nat_cmp-IsAntisymmetric family y.family is)) ∙ lowest y.key
      where
        lowest : (key : List ℕ) → is_from [] key ≡ true
        lowest [] = refl
        lowest (c ∷ key) = refl
    by Greater is e = cc

pub from_begin : (family : ℕ) (start : List ℕ) (records run : List Record) → AreNumbered run → records ≡ filter (is_after family start (2 ^ 64)) run → IsFrom family records
from_begin family start records run few e =
    subst (IsFrom family) (sym e) (each_from family start (filter (is_after family start (2 ^ 64)) run) (all_filter (λ y. y.sequence ≤ top_sequence) (is_after family start (2 ^ 64)) run few) (filter_passes (is_after family start (2 ^ 64)) run))

-- what is left of a walk stays of the family or a later one
pub from_rest : (family : ℕ) (q : Record → Bool) (records rest : List Record) → rest ≡ filter q records → IsFrom family records → IsFrom family rest
from_rest family q records rest e all = subst (IsFrom family) (sym e) (all_filter (λ r. is_after family [] (2 ^ 64) r ≡ true) q records all)

first_passes : (q : Record → Bool) (run : List Record) (r : Record) → AllByRecursion (λ y. q y ≡ true) run → slice_get run 0 ≡ Some r → (q r ≡ true) × (find q run ≡ Some r)
first_passes q [] r all first = cc
first_passes q (x ∷ run) r all first =
    let same : x ≡ r = same_record x r first in
    (ap q (sym same) ∙ all.0, ap (λ b. cond b (Some x) (find q run)) all.0 ∙ ap (λ y. Some y) same)

module _ (tombs : List Tomb) (family : ℕ) (to : Option (List ℕ)) (lefts : List (List Record)) (run : IsRun (merged lefts)) where
  abbrev now : State
  now = record { families = []; records = map_of lefts; tombs = tombs }

  all_after : rows_left tombs family to lefts ≡ rows_after now family [] (2 ^ 64) to
  unfolding rows_left
  all_after = sym (rows_from now family None to (2 ^ 64) refl run)

  pub no_rows : merged lefts ≡ [] → rows_left tombs family to lefts ≡ []
  no_rows none = all_after ∙ rows_none now family [] (2 ^ 64) to (ap (λ rs. keys_in (filter (is_after family [] (2 ^ 64)) rs) family) none)

  -- where the first record is of a later family
  pub no_rows_past : IsFrom family (merged lefts) → (r : Record) → slice_get (merged lefts) 0 ≡ Some r → (r.family ≡ family → ⊥) → rows_left tombs family to lefts ≡ []
  no_rows_past from r first other =
      let passes = first_passes (is_after family [] (2 ^ 64)) (merged lefts) r from first in
      all_after ∙ rows_none now family [] (2 ^ 64) to (keys_past family [] (2 ^ 64) (merged lefts) r run.rises passes.1 other)

  -- where the first key isn't below the end
  pub no_rows_below : IsFrom family (merged lefts) → (r : Record) → slice_get (merged lefts) 0 ≡ Some r → r.family ≡ family → is_below to r.key ≡ false → rows_left tombs family to lefts ≡ []
  no_rows_below from r first f past =
      let passes = first_passes (is_after family [] (2 ^ 64)) (merged lefts) r from first in
      all_after ∙ rows_end now family [] (2 ^ 64) to r f (split family [] (2 ^ 64) (merged lefts) r run.rises passes.1 passes.0 f) past

  -- the first key's row, and those that are left behind it
  pub rows_step : IsFrom family (merged lefts) → (r : Record) → slice_get (merged lefts) 0 ≡ Some r → r.family ≡ family → is_below to r.key ≡ true
      → (rest : List (List Record)) → merged rest ≡ filter (is_after family r.key 0) (merged lefts)
      → rows_left tombs family to lefts ≡ cons_option (row_of r.key (answer_in tombs family r.key (merged lefts))) (rows_left tombs family to rest)
  unfolding rows_left view_records
  rows_step from r first f before rest e =
      let passes = first_passes (is_after family [] (2 ^ 64)) (merged lefts) r from first in
      all_after ∙ next_of_family now family [] (2 ^ 64) to r f (split family [] (2 ^ 64) (merged lefts) r run.rises passes.1 passes.0 f) before
      ∙ ap (cons_option (row_of r.key (answer now family r.key))) (rows_alike now (map_of rest) family r.key 0 (alike_past family r.key) e run.numbered to)

-- where the first record doesn't pass, fewer do than there are
fewer_left : (q : Record → Bool) (run : List Record) (r : Record) → slice_get run 0 ≡ Some r → q r ≡ false → length (filter q run) < length run
fewer_left q [] r first fails = cc
fewer_left q (x ∷ run) r first fails =
    let one : filter q (x ∷ run) ≡ filter q run = ap (λ b. cond b (x ∷ filter q run) (filter q run)) (ap q (same_record x r first) ∙ fails) in
    let two : length (filter q (x ∷ run)) ≡ length (filter q run) = ap length one in
    let three = shorter q run in
    omega arith

-- the first of the rows where something is shown of the first key, and where nothing is
pub row_first : (key : List ℕ) (given : Answer) (all more : List Row) → all ≡ cons_option (row_of key given) more → (given ≡ absent → ⊥) → all ≡ record { key = key; answer = given } ∷ more
row_first key given all more e some = e ∙ ap (λ r. cons_option r more) (row_is key given some)

pub row_none : (key : List ℕ) (given : Answer) (all more : List Row) → all ≡ cons_option (row_of key given) more → given ≡ absent → all ≡ more
row_none key given all more e none = e ∙ ap (λ a. cons_option (row_of key a) more) none

pub merge_first : (key : List ℕ) (given : Answer) (all more : List Row) → all ≡ cons_option (row_of key given) more → is_merged given ≡ true → IsMergeNext all
merge_first key given all more e is = subst IsMergeNext (sym e) (by given is)
  where
    by : (a : Answer) → is_merged a ≡ true → IsMergeNext (cons_option (row_of key a) more)
    by (a_value value) i = cc
    by absent i = cc
    by (merge operands base) i = refl

-- what is left behind a key
pub left_behind : (family : ℕ) (key given : List ℕ) (lefts rest : List (List Record)) → AreRuns lefts → given ≡ key → rest ≡ map (filter (is_after family given 0)) lefts → merged rest ≡ filter (is_after family key 0) (merged lefts)
left_behind family key given lefts rest runs same e = ap merged e ∙ merged_after family given 0 lefts runs ∙ (λ i. filter (is_after family (same i) 0) (merged lefts))

pub fewer_behind : (family : ℕ) (lefts rest : List (List Record)) (r : Record) → r.family ≡ family → slice_get (merged lefts) 0 ≡ Some r → merged rest ≡ filter (is_after family r.key 0) (merged lefts) → length (merged rest) < length (merged lefts)
fewer_behind family lefts rest r f first e = subst (λ rs. length rs < length (merged lefts)) (sym e) (fewer_left (is_after family r.key 0) (merged lefts) r first (not_after family r.key 0 r f refl (omega arith)))
