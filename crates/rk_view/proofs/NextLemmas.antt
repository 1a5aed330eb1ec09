-- What comes next at a key, in what several sources have left.
use Rattle.std.proofs.Common.{◌≡◌, ℕ, ◌+◌, ◌^◌, ◌<◌, ◌≤◌, Bool, true, false, not, cond, List, [], ◌∷◌, ◌++◌, map, refl, sym, ap, subst, ◌∙◌, arith}
use Rattle.std.specs.Prelude.{Option, Some, None, find, filter, slice_get, ◌&&◌, MatchOption}
use Rattle.std.specs.List.{AllByRecursion}
use Rattle.std.specs.FinMap.{values}
use Rattle.rk_bytes.specs.declared.model.key.Record.{Record}
use Rattle.rk_bytes.specs.declared.model.view.Tomb.{Tomb}
use Rattle.rk_bytes.specs.Model.InternalKey.{packed_of, top_sequence}
use Rattle.rk_bytes.specs.declared.model.key.Kind.TheVariants.{Merge}
use Rattle.rk_bytes.specs.Model.KeyView.{State, absent, merge, merged as combined, is_point, is_covered, uncovered, deciding, shown, operands, base_value, answer, view_records}
use Rattle.rk_view.specs.Places.{is_after}
use Rattle.rk_view.specs.Maps.{IsRun, AreNumbered}
use Rattle.rk_view.specs.Sources.{merged, AreRuns, StandsElsewhere, IsLeastAt}
use Rattle.rk_view.specs.Shown.{shown_below, answer_in, StandsAtNext, IsHidden}
use Rattle.rk_view.proofs.ValuesLemmas.{values-run}
use Rattle.rk_view.proofs.SourceLemmas.{merged_after}
use Rattle.rk_view.proofs.ViewLemmas.{filter_twice, filter_all, each_later, follows, first_part, same_record, next_elsewhere, next_here, after_of, below_of, found_passes, found_numbered, raised, shown_one, hidden_one, all_below}
use Rattle.rk_view.proofs.DecideLemmas.{deciding-merge, operands-merge, base-merge}

pub find_kept : (p : Record → Bool) (run : List Record) → find p run ≡ slice_get (filter p run) 0
find_kept p [] = refl
find_kept p (x ∷ run) = by (p x) (find_kept p run)
  where
    by : (b : Bool) → find p run ≡ slice_get (filter p run) 0 → cond b (Some x) (find p run) ≡ slice_get (cond b (x ∷ filter p run) (filter p run)) 0
    by true later = refl
    by false later = later

-- the first record of a key, and the rest
pub shown_first : (tombs : List Tomb) (family : ℕ) (key : List ℕ) (run : List Record) (r : Record) → IsRun run → slice_get run 0 ≡ Some r → r.family ≡ family → r.key ≡ key
    → uncovered tombs family key run ≡ uncovered tombs family key (r ∷ []) ++ shown_below tombs family key (packed_of r.sequence r.kind) run
shown_first tombs family key [] r is first f k = cc
shown_first tombs family key (x ∷ run) r is first f k =
    let below : ℕ = packed_of r.sequence r.kind + 1 in
    let same : x ≡ r = same_record x r first in
    let here : is_after family key below x ≡ true = ap (is_after family key below) same ∙ after_of family key below r f k (omega arith) in
    let all : filter (is_after family key below) (x ∷ run) ≡ x ∷ run = filter_all (is_after family key below) (x ∷ run) (here, each_later (λ y. is_after family key below y ≡ true) x run (first_part x run is.rises) (λ y less. follows family key below x y here less)) in
    let found : find (is_after family key below) (x ∷ run) ≡ Some r = find_kept (is_after family key below) (x ∷ run) ∙ ap (λ rs. slice_get rs 0) all ∙ first in
    ap (uncovered tombs family key) (sym all) ∙ next_here tombs family key below (x ∷ run) r is.rises found f k (omega arith)

module _ (family : ℕ) (key : List ℕ) (below : ℕ) (before lefts : List (List Record)) (runs : AreRuns before) (e : lefts ≡ map (filter (is_after family key below)) before) where
  kept : merged lefts ≡ filter (is_after family key below) (merged before)
  kept = ap merged e ∙ merged_after family key below before runs

  pub elsewhere_next : StandsElsewhere family key (merged lefts) → (tombs : List Tomb) → shown_below tombs family key below (merged before) ≡ []
  elsewhere_next elsewhere tombs = by (filter (is_after family key below) (merged before)) refl (subst (StandsElsewhere family key) kept elsewhere)
    where
      by : (rs : List Record) → filter (is_after family key below) (merged before) ≡ rs → StandsElsewhere family key rs → shown_below tombs family key below (merged before) ≡ []
      by [] is other = ap (uncovered tombs family key) is
      by (r ∷ rs) is other = next_elsewhere tombs family key below (merged before) r (values-run before runs).rises (find_kept (is_after family key below) (merged before) ∙ ap (λ xs. slice_get xs 0) is) other

  pub stands_next : (i : ℕ) → IsLeastAt family key lefts i → StandsAtNext family key below (merged before) lefts i
  stands_next i is =
      let run = values-run before runs in
      let found : find (is_after family key below) (merged before) ≡ Some is.first = find_kept (is_after family key below) (merged before) ∙ ap (λ rs. slice_get rs 0) (sym kept) ∙ is.least in
      let lower : packed_of is.first.sequence is.first.kind < below = below_of family key below is.first is.family_is is.key_is (found_passes (is_after family key below) (merged before) is.first found) in
      record {
        next = is.first;
        within = is.within;
        head = is.head;
        family_is = is.family_is;
        key_is = is.key_is;
        lower = lower;
        numbered = found_numbered (is_after family key below) (merged before) is.first run.numbered found;
        rest = λ tombs. next_here tombs family key below (merged before) is.first run.rises found is.family_is is.key_is lower;
      }

  pub next_found : (o : Option ℕ) → MatchOption o (StandsElsewhere family key (merged lefts)) (λ i. IsLeastAt family key lefts i)
      → MatchOption o ((tombs : List Tomb) → shown_below tombs family key below (merged before) ≡ []) (λ i. StandsAtNext family key below (merged before) lefts i)
  next_found None elsewhere = elsewhere_next elsewhere
  next_found (Some i) is = stands_next i is

  each_raised : (low : ℕ) (run : List Record) → low ≤ below → AllByRecursion (λ y. is_after family key low y ≡ true → is_after family key below y ≡ true) run
  each_raised low [] le = tt
  each_raised low (y ∷ run) le = ((λ after. raised [] family key low below y le after), each_raised low run le)

  -- what comes after a later place is still there
  pub narrowed : (tombs : List Tomb) (low : ℕ) → low ≤ below → shown_below tombs family key low (merged lefts) ≡ shown_below tombs family key low (merged before)
  narrowed tombs low le =
      ap (λ rs. uncovered tombs family key (filter (is_after family key low) rs)) kept
      ∙ ap (uncovered tombs family key) (filter_twice (is_after family key low) (is_after family key below) (merged before) (each_raised low (merged before) le))

  -- a source stands at a record that is shown
  pub stands_shown : (tombs : List Tomb) (i : ℕ) (is : StandsAtNext family key below (merged before) lefts i) → (is_point is.next.kind && not (is_covered tombs is.next)) ≡ true
      → shown_below tombs family key below (merged before) ≡ is.next ∷ shown_below tombs family key (packed_of is.next.sequence is.next.kind) (merged lefts)
  stands_shown tombs i is shown =
      let lower : packed_of is.next.sequence is.next.kind < below = is.lower in
      is.rest tombs ∙ (λ j. shown_one tombs family key is.next is.family_is is.key_is shown j ++ sym (narrowed tombs (packed_of is.next.sequence is.next.kind) (omega arith)) j)

  -- or at one that isn't
  pub stands_hidden : (tombs : List Tomb) (i : ℕ) (is : StandsAtNext family key below (merged before) lefts i) → (is_point is.next.kind && not (is_covered tombs is.next)) ≡ false
      → shown_below tombs family key below (merged before) ≡ shown_below tombs family key (packed_of is.next.sequence is.next.kind) (merged lefts)
  stands_hidden tombs i is hidden =
      let lower : packed_of is.next.sequence is.next.kind < below = is.lower in
      is.rest tombs ∙ (λ j. hidden_one tombs family key is.next is.family_is is.key_is hidden j ++ sym (narrowed tombs (packed_of is.next.sequence is.next.kind) (omega arith)) j)

-- what is known of a list's first record
pub first_shown : (tombs : List Tomb) (run : List Record) (r : Record) → slice_get run 0 ≡ Some r → IsHidden tombs run None → (is_point r.kind && not (is_covered tombs r)) ≡ true
first_shown tombs [] r first is = cc
first_shown tombs (x ∷ run) r first is = ap (λ (y : Record). is_point y.kind && not (is_covered tombs y)) (sym (same_record x r first)) ∙ is

pub first_hidden : (tombs : List Tomb) (run : List Record) (r : Record) (n : ℕ) → slice_get run 0 ≡ Some r → IsHidden tombs run (Some n) → ((is_point r.kind && not (is_covered tombs r)) ≡ false) × (n ≡ packed_of r.sequence r.kind)
first_hidden tombs [] r n first is = cc
first_hidden tombs (x ∷ run) r n first is =
    let same : r ≡ x = sym (same_record x r first) in
    (ap (λ (y : Record). is_point y.kind && not (is_covered tombs y)) same ∙ is.0, is.1 ∙ ap (λ (y : Record). packed_of y.sequence y.kind) (sym same))

pub elsewhere : (family : ℕ) (key : List ℕ) (run : List Record) (r : Record) → slice_get run 0 ≡ Some r → (r.family ≡ family → r.key ≡ key → ⊥) → StandsElsewhere family key run
elsewhere family key [] r first other = tt
elsewhere family key (x ∷ run) r first other =
    let same : r ≡ x = sym (same_record x r first) in
    λ f k. other (ap (λ (y : Record). y.family) same ∙ f) (ap (λ (y : Record). y.key) same ∙ k)

-- what the newest record of a key shows, and what those behind a hidden one do
module _ (tombs : List Tomb) (run : List Record) (r : Record) (is : IsRun run) (first : slice_get run 0 ≡ Some r) where
  pub numbered_first : r.sequence ≤ top_sequence
  numbered_first = by run is.numbered first
    where
      by : (xs : List Record) → AreNumbered xs → slice_get xs 0 ≡ Some r → r.sequence ≤ top_sequence
      by [] all e = cc
      by (x ∷ xs) all e = subst (λ (y : Record). y.sequence ≤ top_sequence) (same_record x r e) all.0

  pub newest_answer : (is_point r.kind && not (is_covered tombs r)) ≡ true → shown (deciding (r ∷ shown_below tombs r.family r.key (packed_of r.sequence r.kind) run)) ≡ answer_in tombs r.family r.key run
  newest_answer shows = sym (ap (λ rs. shown (deciding rs)) (shown_first tombs r.family r.key run r is first refl refl ∙ ap (λ xs. xs ++ shown_below tombs r.family r.key (packed_of r.sequence r.kind) run) (shown_one tombs r.family r.key r refl refl shows)))

  pub hidden_answer : (is_point r.kind && not (is_covered tombs r)) ≡ false → shown (deciding (shown_below tombs r.family r.key (packed_of r.sequence r.kind) run)) ≡ answer_in tombs r.family r.key run
  hidden_answer hidden = sym (ap (λ rs. shown (deciding rs)) (shown_first tombs r.family r.key run r is first refl refl ∙ ap (λ xs. xs ++ shown_below tombs r.family r.key (packed_of r.sequence r.kind) run) (hidden_one tombs r.family r.key r refl refl hidden)))

-- what all records show of a key is what those do that don't come before it
module _ (state : State) (family : ℕ) (key : List ℕ) (run : List Record) (is : IsRun (values state.records)) (e : run ≡ filter (is_after family key (2 ^ 64)) (values state.records)) where
  pub all_decide : deciding (shown_below state.tombs family key (2 ^ 64) run) ≡ view_records state family key
  unfolding view_records
  all_decide =
      ap deciding (ap (λ rs. shown_below state.tombs family key (2 ^ 64) rs) e
      ∙ ap (uncovered state.tombs family key) (filter_twice (is_after family key (2 ^ 64)) (is_after family key (2 ^ 64)) (values state.records) (each_same (is_after family key (2 ^ 64)) (values state.records)))
      ∙ all_below state.tombs family key (values state.records) is.numbered)
    where
      each_same : (p : Record → Bool) (xs : List Record) → AllByRecursion (λ y. p y ≡ true → p y ≡ true) xs
      each_same p [] = tt
      each_same p (x ∷ xs) = ((λ h. h), each_same p xs)

  pub all_answer : answer_in state.tombs family key run ≡ answer state family key
  unfolding view_records
  all_answer = ap (λ rs. shown (deciding rs)) (ap (uncovered state.tombs family key) e ∙ all_below state.tombs family key (values state.records) is.numbered)

  pub none_answer : slice_get run 0 ≡ None → absent ≡ answer state family key
  none_answer none = sym (ap (answer_in state.tombs family key) (empty run none)) ∙ all_answer
    where
      empty : (xs : List Record) → slice_get xs 0 ≡ None → xs ≡ []
      empty [] n = refl
      empty (x ∷ xs) n = cc

  pub elsewhere_answer : (r : Record) → slice_get run 0 ≡ Some r → (r.family ≡ family → r.key ≡ key → ⊥) → absent ≡ answer state family key
  elsewhere_answer r first other =
      let found : find (is_after family key (2 ^ 64)) (values state.records) ≡ Some r = find_kept (is_after family key (2 ^ 64)) (values state.records) ∙ ap (λ xs. slice_get xs 0) (sym e) ∙ first in
      sym (ap (λ rs. shown (deciding rs)) (ap (uncovered state.tombs family key) e ∙ next_elsewhere state.tombs family key (2 ^ 64) (values state.records) r is.rises found other)) ∙ all_answer

-- merges and what is behind them
pub merge_answer : (r : Record) (rest : List Record) → r.kind ≡ Merge → merge (r.value ∷ operands (deciding rest)) (base_value (deciding rest)) ≡ shown (deciding (r ∷ rest))
merge_answer r rest kind =
    sym (ap shown (deciding-merge r rest kind) ∙ (λ i. combined (operands-merge r (deciding rest) kind i) (base-merge r (deciding rest) kind i)))
