-- An index from one range deletion to the next, and what its nodes give.
use Rattle.std.proofs.Common.{◌≡◌, ℕ, zero, suc, ◌+◌, ◌/◌, ◌-◌, ◌<◌, ◌≤◌, ◌⊎◌, inl, inr, List, [], ◌∷◌, ◌++◌, length, take, drop, get_or, refl, sym, ap, ◌∙◌, subst, arith, length-append, length-take, length-drop, take-append-drop}
use Rattle.std.specs.Prelude.{max, map}
use Rattle.std.specs.List.{All}
use Rattle.std.specs.List.Sorted.{IsPermutation}
use Rattle.std.proofs.lemmas.List.{map-append, append-nil, drop_all, take_all, take_more, drop_more, take-take, take_at, drop_at, drop-take, get_or_push}
use Rattle.std.proofs.lemmas.List.Elements.{All-nil, All-map, All-head, All-tail}
use Rattle.std.proofs.lemmas.List.Sorted.{IsPermutation-refl, IsPermutation-append_left, IsPermutation-append_right, IsPermutation-map, IsPermutation-trans}
use borrow.Rule.Slice.PartMut.{put_mid}
use Rattle.rk_bytes.specs.declared.model.key.Record.{Record}
use Rattle.rk_bytes.specs.declared.model.view.Tomb.{Tomb}
use Rattle.rk_tomb.specs.declared.index.Node.{Node}
use Rattle.rk_tomb.specs.Weights.{weight, newest}
use Rattle.rk_tomb.specs.Spans.{tomb_at, IsWithin}
use Rattle.rk_tomb.specs.Index.{places, tombs_of, IsPlaced, IsSpanned, IsRun, run_len, AreRuns, IsIndex}
use Rattle.rk_tomb.proofs.NewestLemmas.{newest-append, newest-none, newest-permutation}
use Rattle.rk_tomb.proofs.PartLemmas.{IsRun-whole, AreRuns-nil, AreRuns-first, AreRuns-rest, AreRuns-made, tomb_at-more}
use Rattle.rk_tomb.proofs.RunLemmas.{run_len-next}

-- what nodes give

tombs_of-append : (tombs : List Tomb) (xs ys : List Node) → tombs_of tombs (xs ++ ys) ≡ tombs_of tombs xs ++ tombs_of tombs ys
tombs_of-append tombs xs ys = ap (map (tomb_at tombs)) (map-append (λ node. node.place) xs ys) ∙ map-append (tomb_at tombs) (places xs) (places ys)

pub newest-nodes : (r : Record) (floor : ℕ) (tombs : List Tomb) (xs ys : List Node) → newest r floor (tombs_of tombs (xs ++ ys)) ≡ newest r (newest r floor (tombs_of tombs xs)) (tombs_of tombs ys)
newest-nodes r floor tombs xs ys = ap (newest r floor) (tombs_of-append tombs xs ys) ∙ newest-append r floor (tombs_of tombs xs) (tombs_of tombs ys)

-- what is before a node, the node, and what is after it
pub newest-split : (r : Record) (floor : ℕ) (tombs : List Tomb) (run : List Node) (m : ℕ) (d : Node) → m < length run
    → newest r floor (tombs_of tombs run) ≡ newest r (max (newest r floor (tombs_of tombs (take m run))) (weight r (tomb_at tombs (get_or run m d).place))) (tombs_of tombs (drop (m + 1) run))
newest-split r floor tombs run m d lt =
    let parts : take m run ++ (get_or run m d ∷ drop (m + 1) run) ≡ run = ap (λ rest. take m run ++ rest) (sym (drop_more run m d lt)) ∙ take-append-drop m run in
    ap (λ nodes. newest r floor (tombs_of tombs nodes)) (sym parts) ∙ newest-nodes r floor tombs (take m run) (get_or run m d ∷ drop (m + 1) run)

-- no range deletion of a run is newer, as its middle's span tells
pub newest-missed : (r : Record) (floor : ℕ) (tombs : List Tomb) (run : List Node) (d : Node) → IsRun tombs run
    → ((tomb : Tomb) → IsWithin tombs (get_or run (length run / 2) d).span tomb → weight r tomb ≤ floor) → newest r floor (tombs_of tombs run) ≡ floor
unfolding IsSpanned
newest-missed r floor tombs run d h missed =
    newest-none r floor (tombs_of tombs run)
    (All-map (λ tomb. weight r tomb ≤ floor) (tomb_at tombs) (places run)
    (All-map (λ place. weight r (tomb_at tombs place) ≤ floor) (λ (other : Node). other.place) run
    (λ k e lt. missed (tomb_at tombs (get_or run k e).place) (IsRun-whole tombs run h d k e lt))))

pub newest-index : (r : Record) (floor : ℕ) (tombs : List Tomb) (nodes : List Node) → IsIndex tombs nodes → newest r floor (tombs_of tombs nodes) ≡ newest r floor tombs
newest-index r floor tombs nodes h = sym (newest-permutation r floor tombs (tombs_of tombs nodes) h.whole)

-- one more

pub IsIndex-nil : IsIndex [] []
IsIndex-nil = record { placed = All-nil (IsPlaced 0); whole = IsPermutation-refl []; runs = AreRuns-nil [] }

tombs_of-more : (tombs : List Tomb) (tomb : Tomb) (nodes : List Node) → All (IsPlaced (length tombs)) nodes → tombs_of (tombs ++ tomb ∷ []) nodes ≡ tombs_of tombs nodes
tombs_of-more tombs tomb [] placed = refl
tombs_of-more tombs tomb (node ∷ nodes) placed =
    let head : IsPlaced (length tombs) node = All-head (IsPlaced (length tombs)) node nodes placed in
    let first = tomb_at-more tombs tomb node.place head.place in
    let rest = tombs_of-more tombs tomb nodes (All-tail (IsPlaced (length tombs)) node nodes placed) in
    λ i. first i ∷ rest i

pub IsIndex-more : (tombs : List Tomb) (tomb : Tomb) (old new : List Node) (node : Node) → node.place ≡ length tombs → IsIndex tombs old
    → All (IsPlaced (length (tombs ++ tomb ∷ []))) new → IsPermutation (places (old ++ node ∷ [])) (places new) → AreRuns (tombs ++ tomb ∷ []) new → IsIndex (tombs ++ tomb ∷ []) new
IsIndex-more tombs tomb old new node at index placed moved runs =
    let more : List Tomb = tombs ++ tomb ∷ [] in
    let own : tomb_at more node.place ≡ tomb = get_or_push tombs tomb _ node.place (sym at) in
    let all : tombs_of more (old ++ node ∷ []) ≡ tombs_of tombs old ++ tomb ∷ [] =
    tombs_of-append more old (node ∷ []) ∙ (λ i. tombs_of-more tombs tomb old index.placed i ++ own i ∷ []) in
    record {
      placed = placed;
      whole =
          IsPermutation-trans more (tombs_of more (old ++ node ∷ [])) (tombs_of more new)
          (subst (λ ys. IsPermutation more ys) (sym all) (IsPermutation-append_left (tomb ∷ []) tombs (tombs_of tombs old) index.whole))
          (IsPermutation-map (tomb_at more) (places (old ++ node ∷ [])) (places new) moved);
      runs = runs;
    }

-- a list of range deletions, and its last one
pub last_tomb : (tombs : List Tomb) → 0 < length tombs → take (length tombs - 1) tombs ++ tomb_at tombs (length tombs - 1) ∷ [] ≡ tombs
last_tomb tombs some =
    let lt : length tombs - 1 < length tombs = omega arith in
    let all : length tombs ≤ length tombs - 1 + 1 = omega arith in
    sym (take_more tombs (length tombs - 1) _ lt) ∙ take_all (length tombs - 1 + 1) tombs all

-- nodes after a front are written, up to their end

pub rest_written : (nodes rest : List Node) (first : ℕ) → put_mid first (length nodes - first) nodes rest ≡ take first nodes ++ rest
rest_written nodes rest first =
    let none : drop (length nodes - first) (drop first nodes) ≡ [] = drop_all (length nodes - first) (drop first nodes) (omega (arith, length-drop first nodes)) in
    ap (λ more. take first nodes ++ (rest ++ more)) none ∙ ap (λ more. take first nodes ++ more) (append-nil rest)

pub rest_moved : (nodes rest : List Node) (first : ℕ) → IsPermutation (places (drop first nodes)) (places rest) → IsPermutation (places nodes) (places (put_mid first (length nodes - first) nodes rest))
rest_moved nodes rest first moved =
    let front : List ℕ = places (take first nodes) in
    let old : places nodes ≡ front ++ places (drop first nodes) = ap places (sym (take-append-drop first nodes)) ∙ map-append (λ (node : Node). node.place) (take first nodes) (drop first nodes) in
    let new : places (put_mid first (length nodes - first) nodes rest) ≡ front ++ places rest = ap places (rest_written nodes rest first) ∙ map-append (λ (node : Node). node.place) (take first nodes) rest in
    subst (λ xs. IsPermutation xs (places (put_mid first (length nodes - first) nodes rest))) (sym old)
    (subst (λ ys. IsPermutation (front ++ places (drop first nodes)) ys) (sym new) (IsPermutation-append_right front (places (drop first nodes)) (places rest) moved))

-- the first run stays where one node more doesn't fill it

next_stays : (count : ℕ) → run_len count < count → run_len count ≡ run_len (count - 1)
next_stays zero few = absurd (omega arith)
next_stays (suc n) few = by (run_len-next n)
  where
    by : (run_len (suc n) ≡ suc n) ⊎ (run_len (suc n) ≡ run_len n) → run_len (suc n) ≡ run_len (suc n - 1)
    by (inl e) = absurd (omega arith)
    by (inr e) = let before : n ≡ suc n - 1 = omega arith in e ∙ ap run_len before

module _ (tombs : List Tomb) (nodes : List Node) (few : run_len (length nodes) < length nodes) where
  front_length : length (take (length nodes - 1) nodes) ≡ length nodes - 1
  front_length = omega (arith, length-take (length nodes - 1) nodes)

  pub first_stays : AreRuns tombs (take (length nodes - 1) nodes) → IsRun tombs (take (run_len (length nodes)) nodes)
  first_stays runs =
      let len : run_len (length (take (length nodes - 1) nodes)) ≡ run_len (length nodes) = ap run_len front_length ∙ sym (next_stays (length nodes) few) in
      let same : take (run_len (length nodes)) (take (length nodes - 1) nodes) ≡ take (run_len (length nodes)) nodes = take-take (run_len (length nodes)) (length nodes - 1) nodes (omega arith) in
      subst (λ run. IsRun tombs run) (ap (λ n. take n (take (length nodes - 1) nodes)) len ∙ same) (AreRuns-first tombs (take (length nodes - 1) nodes) runs)

  pub rest_stays : AreRuns tombs (take (length nodes - 1) nodes) → AreRuns tombs (take (length (drop (run_len (length nodes)) nodes) - 1) (drop (run_len (length nodes)) nodes))
  rest_stays runs =
      let first : ℕ = run_len (length nodes) in
      let len : run_len (length (take (length nodes - 1) nodes)) ≡ first = ap run_len front_length ∙ sym (next_stays (length nodes) few) in
      let left : ℕ = length nodes - 1 - first in
      let whole : first + left ≡ length nodes - 1 = omega arith in
      let same : drop first (take (length nodes - 1) nodes) ≡ take left (drop first nodes) = ap (λ n. drop first (take n nodes)) (sym whole) ∙ drop-take first left nodes in
      let left_is : left ≡ length (drop first nodes) - 1 = omega (arith, length-drop first nodes) in
      subst (λ rest. AreRuns tombs rest) (ap (λ n. drop n (take (length nodes - 1) nodes)) len ∙ same ∙ ap (λ n. take n (drop first nodes)) left_is) (AreRuns-rest tombs (take (length nodes - 1) nodes) runs)

  pub AreRuns-joined : (rest : List Node) → length rest ≡ length nodes - run_len (length nodes) → IsRun tombs (take (run_len (length nodes)) nodes) → AreRuns tombs rest → AreRuns tombs (take (run_len (length nodes)) nodes ++ rest)
  AreRuns-joined rest same first after =
      let len : ℕ = run_len (length nodes) in
      let front : length (take len nodes) ≡ len = omega (arith, length-take len nodes) in
      let all : length (take len nodes ++ rest) ≡ length nodes = omega (arith, length-append (take len nodes) rest) in
      AreRuns-made tombs (take len nodes ++ rest)
      (subst (λ run. IsRun tombs run) (sym (ap (λ n. take (run_len n) (take len nodes ++ rest)) all ∙ take_at (take len nodes) rest len front)) first)
      (subst (λ run. AreRuns tombs run) (sym (ap (λ n. drop (run_len n) (take len nodes ++ rest)) all ∙ drop_at (take len nodes) rest len front)) after)

-- the same, as code writes them
module _ (tombs : List Tomb) (nodes : List Node) (first : ℕ) (is : first ≡ run_len (length nodes)) (few : first < length nodes) (runs : AreRuns tombs (take (length nodes - 1) nodes)) where
  few_nodes : run_len (length nodes) < length nodes
  few_nodes = omega arith

  pub rest_of_runs : AreRuns tombs (take (length (drop first nodes) - 1) (drop first nodes))
  rest_of_runs = subst (λ n. AreRuns tombs (take (length (drop n nodes) - 1) (drop n nodes))) (sym is) (rest_stays tombs nodes few_nodes runs)

  pub runs_with_rest : (rest : List Node) → length rest ≡ length nodes - first → AreRuns tombs rest → AreRuns tombs (put_mid first (length nodes - first) nodes rest)
  runs_with_rest rest same after =
      subst (λ n. length rest ≡ length nodes - n → AreRuns tombs (put_mid n (length nodes - n) nodes rest)) (sym is)
      (λ left. subst (λ all. AreRuns tombs all) (sym (rest_written nodes rest (run_len (length nodes)))) (AreRuns-joined tombs nodes few_nodes rest left (first_stays tombs nodes few_nodes runs) after)) same
