-- The newest range deletion that covers a record, as a number.
use Rattle.std.proofs.Common.{◌≡◌, ℕ, ◌<◌, ◌≤◌, Bool, true, false, cond, List, [], ◌∷◌, ◌++◌, refl, sym, ap, ◌∙◌, arith}
use Rattle.std.specs.Prelude.{max, map, filter, fold, nat_lt, Some, None, Option}
use Rattle.std.specs.Ordering.{is_gt}
use Rattle.std.specs.List.{All, AllByRecursion, reduce}
use Rattle.std.specs.List.Sorted.{IsPermutation}
use Rattle.std.proofs.lemmas.Bool.{false≢true, le-ltb, lt-ltb}
use Rattle.std.proofs.lemmas.Grind.{fold-append}
use Rattle.std.proofs.lemmas.List.Elements.{All-nil, All-cons, All-head, All-tail}
use Rattle.std.proofs.lemmas.List.Sorted.{All-permutation, IsPermutation-sym}
use Rattle.rk_bytes.specs.declared.model.key.Kind.{Kind}
use Rattle.rk_bytes.specs.declared.model.key.Record.{Record}
use Rattle.rk_bytes.specs.declared.model.view.Tomb.{Tomb}
use Rattle.rk_bytes.specs.Model.KeyView.{covers, covering}
use Rattle.rk_tomb.specs.Weights.{weight, newest}
use Rattle.rk_tomb.specs.declared.span.Span.{Span}
use Rattle.rk_tomb.specs.Spans.{start_of, end_of, edge_cmp, tomb_at, IsWithin}
use Rattle.rk_tomb.proofs.EdgeLemmas.{Covers, Covers-from, starts_up_to, ends_above, IsUpTo-trans}

-- weights

pub weight_below : (r : Record) (tomb : Tomb) (floor : ℕ) → (Covers tomb r → tomb.sequence ≤ floor) → weight r tomb ≤ floor
unfolding weight
weight_below r tomb floor few = by (covers tomb r) (λ e. few (Covers-from tomb r e))
  where
    by : (b : Bool) → (b ≡ true → tomb.sequence ≤ floor) → cond b tomb.sequence 0 ≤ floor
    by true h = h refl
    by false h = omega arith

-- what a span misses

module _ (r : Record) (tombs : List Tomb) (span : Span) (floor : ℕ) where
  pub missed_newer : span.newest ≤ floor → (tomb : Tomb) → IsWithin tombs span tomb → weight r tomb ≤ floor
  missed_newer few tomb within = weight_below r tomb floor (λ covers. omega (arith, within.newest))

  pub missed_before : is_gt (edge_cmp (start_of (tomb_at tombs span.first)) (r.family, r.key)) ≡ true → (tomb : Tomb) → IsWithin tombs span tomb → weight r tomb ≤ floor
  missed_before above tomb within =
      weight_below r tomb floor (λ covers. absurd (false≢true (sym (IsUpTo-trans (start_of (tomb_at tombs span.first)) (start_of tomb) (r.family, r.key) within.first (starts_up_to tomb r covers)) ∙ above)))

  pub missed_after : is_gt (edge_cmp (end_of (tomb_at tombs span.last)) (r.family, r.key)) ≡ false → (tomb : Tomb) → IsWithin tombs span tomb → weight r tomb ≤ floor
  missed_after up_to tomb within =
      weight_below r tomb floor (λ covers. absurd (false≢true (sym (IsUpTo-trans (end_of tomb) (end_of (tomb_at tombs span.last)) (r.family, r.key) within.last up_to) ∙ ends_above tomb r covers)))

-- the newest

pub newest-floor : (r : Record) (floor : ℕ) (tombs : List Tomb) → floor ≤ newest r floor tombs
newest-floor r floor [] = omega arith
newest-floor r floor (tomb ∷ tombs) = omega (arith, newest-floor r (max floor (weight r tomb)) tombs)

pub newest-all : (r : Record) (floor : ℕ) (tombs : List Tomb) → All (λ tomb. weight r tomb ≤ newest r floor tombs) tombs
newest-all r floor [] = All-nil (λ tomb. weight r tomb ≤ floor)
newest-all r floor (tomb ∷ tombs) =
    let more : ℕ = max floor (weight r tomb) in
    All-cons (λ other. weight r other ≤ newest r more tombs) tomb tombs
    (omega (arith, newest-floor r more tombs)) (newest-all r more tombs)

pub newest-least : (r : Record) (floor n : ℕ) (tombs : List Tomb) → floor ≤ n → All (λ tomb. weight r tomb ≤ n) tombs → newest r floor tombs ≤ n
newest-least r floor n [] low all = low
newest-least r floor n (tomb ∷ tombs) low all =
    let head : weight r tomb ≤ n = All-head (λ other. weight r other ≤ n) tomb tombs all in
    newest-least r (max floor (weight r tomb)) n tombs (omega arith) (All-tail (λ other. weight r other ≤ n) tomb tombs all)

-- none of them is newer than the floor
pub newest-none : (r : Record) (floor : ℕ) (tombs : List Tomb) → All (λ tomb. weight r tomb ≤ floor) tombs → newest r floor tombs ≡ floor
newest-none r floor tombs all =
    let below = newest-least r floor floor tombs (omega arith) all in
    let above = newest-floor r floor tombs in
    omega arith

-- their order doesn't count
pub newest-permutation : (r : Record) (floor : ℕ) (xs ys : List Tomb) → IsPermutation xs ys → newest r floor xs ≡ newest r floor ys
newest-permutation r floor xs ys moved =
    let low : newest r floor xs ≤ newest r floor ys = newest-least r floor (newest r floor ys) xs (newest-floor r floor ys) (All-permutation (λ tomb. weight r tomb ≤ newest r floor ys) ys xs (IsPermutation-sym xs ys moved) (newest-all r floor ys)) in
    let high : newest r floor ys ≤ newest r floor xs = newest-least r floor (newest r floor xs) ys (newest-floor r floor xs) (All-permutation (λ tomb. weight r tomb ≤ newest r floor xs) xs ys moved (newest-all r floor xs)) in
    omega arith

pub newest-append : (r : Record) (floor : ℕ) (xs ys : List Tomb) → newest r floor (xs ++ ys) ≡ newest r (newest r floor xs) ys
newest-append r floor xs ys = fold-append (λ most tomb. max most (weight r tomb)) floor xs ys

-- what covers

-- the sequence numbers of the range deletions that cover the record
abbrev sequences : List Tomb → Record → List ℕ
sequences tombs r = map (λ tomb. tomb.sequence) (filter (λ tomb. covers tomb r) tombs)

newest-sequences : (r : Record) (floor : ℕ) (tombs : List Tomb) → newest r floor tombs ≡ fold max floor (sequences tombs r)
unfolding weight
newest-sequences r floor [] = refl
newest-sequences r floor (tomb ∷ tombs) = by (covers tomb r) (λ n. newest-sequences r n tombs)
  where
    by : (b : Bool) → ((n : ℕ) → newest r n tombs ≡ fold max n (sequences tombs r)) → newest r (max floor (cond b tomb.sequence 0)) tombs ≡ fold max floor (map (λ tomb. tomb.sequence) (cond b (tomb ∷ filter (λ tomb. covers tomb r) tombs) (filter (λ tomb. covers tomb r) tombs)))
    by true rest = rest (max floor tomb.sequence)
    by false rest = let none : max floor 0 ≡ floor = omega arith in ap (λ n. newest r n tombs) none ∙ rest floor

all_newer : (r : Record) (tombs : List Tomb) → AllByRecursion (λ sequence. r.sequence < sequence) (sequences tombs r)
all_newer r [] = tt
all_newer r (tomb ∷ tombs) = by (covers tomb r) (λ e. Covers-from tomb r e) (all_newer r tombs)
  where
    by : (b : Bool) → (b ≡ true → Covers tomb r) → AllByRecursion (λ sequence. r.sequence < sequence) (sequences tombs r) → AllByRecursion (λ sequence. r.sequence < sequence) (map (λ tomb. tomb.sequence) (cond b (tomb ∷ filter (λ tomb. covers tomb r) tombs) (filter (λ tomb. covers tomb r) tombs)))
    by true h rest = ((h refl).newer, rest)
    by false h rest = rest

fold-max-floor : (floor : ℕ) (ns : List ℕ) → floor ≤ fold max floor ns
fold-max-floor floor [] = omega arith
fold-max-floor floor (n ∷ ns) = omega (arith, fold-max-floor (max floor n) ns)

-- a number that is above the floor, if it is
abbrev pub above : ℕ → ℕ → Option ℕ
above floor n = cond (nat_lt floor n) (Some n) None

reduce-above : (floor : ℕ) (ns : List ℕ) → AllByRecursion (λ n. floor < n) ns → reduce max ns ≡ above floor (fold max floor ns)
reduce-above floor [] all = let same : nat_lt floor floor ≡ false = le-ltb floor floor (omega arith) in ap (λ b. cond b (Some floor) None) (sym same)
reduce-above floor (n ∷ ns) all =
    let greater : floor < n = all.0 in
    let first : max floor n ≡ n = omega arith in
    let high = fold-max-floor n ns in
    let lt : floor < fold max n ns = omega arith in
    ap (λ b. cond b (Some (fold max n ns)) None) (sym (lt-ltb floor (fold max n ns) lt)) ∙ ap (λ m. above floor (fold max m ns)) (sym first)

-- what covers a record is the newest range deletion, if that is newer than the record
pub covering-newest : (r : Record) (tombs : List Tomb) → covering tombs r ≡ above r.sequence (newest r r.sequence tombs)
covering-newest r tombs = reduce-above r.sequence (sequences tombs r) (all_newer r tombs) ∙ ap (above r.sequence) (sym (newest-sequences r r.sequence tombs))

-- of a record its value doesn't count
pub covering-value : (tombs : List Tomb) (family : ℕ) (key : List ℕ) (sequence : ℕ) (kind : Kind) (value : List ℕ)
    → covering tombs (record { family = family; key = key; sequence = sequence; kind = kind; value = value }) ≡ covering tombs (record { family = family; key = key; sequence = sequence; kind = kind; value = [] })
unfolding covers
covering-value tombs family key sequence kind value = refl

pub above-yes : (floor n : ℕ) → floor < n → above floor n ≡ Some n
above-yes floor n lt = ap (λ b. cond b (Some n) None) (lt-ltb floor n lt)

pub above-no : (floor n : ℕ) → n ≤ floor → above floor n ≡ None
above-no floor n le = ap (λ b. cond b (Some n) None) (le-ltb floor n le)
