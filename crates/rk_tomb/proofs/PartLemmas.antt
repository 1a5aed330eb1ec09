-- Parts of runs, and runs.
use Rattle.std.proofs.Common.{◌≡◌, ℕ, zero, suc, ◌+◌, ◌/◌, ◌<◌, Bool, true, false, List, [], ◌∷◌, ◌++◌, length, take, drop, get_or, refl, sym, subst, arith}
use Rattle.std.specs.List.{All}
use Rattle.std.proofs.lemmas.List.{get_or_append_left, take_all, drop_all}
use Rattle.std.proofs.lemmas.List.Elements.{All-take, All-drop}
use Rattle.rk_bytes.specs.declared.model.view.Tomb.{Tomb}
use Rattle.rk_tomb.specs.declared.index.Node.{Node}
use Rattle.rk_tomb.specs.declared.span.Span.{Span}
use Rattle.rk_tomb.specs.Spans.{start_of, end_of, tomb_at, IsUpTo, IsInRange, IsWithin}
use Rattle.rk_tomb.specs.Index.{IsPlaced, IsSpanned, part, IsRun, run_len, run_at, AreRuns}

-- parts of a run

pub IsRun-nil : (tombs : List Tomb) → IsRun tombs []
unfolding IsRun IsSpanned
IsRun-nil tombs = λ path. subst (λ run. IsSpanned tombs run) (sym (part-nil path)) (λ d k e lt. absurd (omega arith))
  where
    part-nil : (path : List Bool) → part path [] ≡ []
    part-nil [] = refl
    part-nil (false ∷ path) = part-nil path
    part-nil (true ∷ path) = part-nil path

pub IsRun-whole : (tombs : List Tomb) (run : List Node) → IsRun tombs run → IsSpanned tombs run
unfolding IsRun
IsRun-whole tombs run h = h []

pub IsRun-before : (tombs : List Tomb) (run : List Node) → IsRun tombs run → IsRun tombs (take (length run / 2) run)
unfolding IsRun
IsRun-before tombs run h = λ path. h (false ∷ path)

pub IsRun-after : (tombs : List Tomb) (run : List Node) → IsRun tombs run → IsRun tombs (drop (length run / 2 + 1) run)
unfolding IsRun
IsRun-after tombs run h = λ path. h (true ∷ path)

pub IsRun-made : (tombs : List Tomb) (run : List Node) → IsSpanned tombs run → IsRun tombs (take (length run / 2) run) → IsRun tombs (drop (length run / 2 + 1) run) → IsRun tombs run
unfolding IsRun
IsRun-made tombs run whole before after = by
  where
    by : (path : List Bool) → IsSpanned tombs (part path run)
    by [] = whole
    by (false ∷ path) = before path
    by (true ∷ path) = after path

-- runs

pub AreRuns-nil : (tombs : List Tomb) → AreRuns tombs []
unfolding AreRuns
AreRuns-nil tombs = λ k. subst (λ run. IsRun tombs run) (sym (run_at-nil k)) (IsRun-nil tombs)
  where
    run_at-nil : (k : ℕ) → run_at k [] ≡ []
    run_at-nil zero = refl
    run_at-nil (suc k) = run_at-nil k

pub AreRuns-first : (tombs : List Tomb) (nodes : List Node) → AreRuns tombs nodes → IsRun tombs (take (run_len (length nodes)) nodes)
unfolding AreRuns
AreRuns-first tombs nodes h = h 0

pub AreRuns-rest : (tombs : List Tomb) (nodes : List Node) → AreRuns tombs nodes → AreRuns tombs (drop (run_len (length nodes)) nodes)
unfolding AreRuns
AreRuns-rest tombs nodes h = λ k. h (suc k)

pub AreRuns-made : (tombs : List Tomb) (nodes : List Node) → IsRun tombs (take (run_len (length nodes)) nodes) → AreRuns tombs (drop (run_len (length nodes)) nodes) → AreRuns tombs nodes
unfolding AreRuns
AreRuns-made tombs nodes first rest = by
  where
    by : (k : ℕ) → IsRun tombs (run_at k nodes)
    by zero = first
    by (suc k) = rest k

-- all nodes are in one run
pub AreRuns-one : (tombs : List Tomb) (nodes : List Node) → run_len (length nodes) ≡ length nodes → IsRun tombs nodes → AreRuns tombs nodes
AreRuns-one tombs nodes fixed run =
    AreRuns-made tombs nodes
    (subst (λ xs. IsRun tombs xs) (sym (take_all (run_len (length nodes)) nodes (omega arith))) run)
    (subst (λ xs. AreRuns tombs xs) (sym (drop_all (run_len (length nodes)) nodes (omega arith))) (AreRuns-nil tombs))

-- one range deletion more

module _ (tombs : List Tomb) (tomb : Tomb) where
  pub tomb_at-more : (place : ℕ) → place < length tombs → tomb_at (tombs ++ tomb ∷ []) place ≡ tomb_at tombs place
  tomb_at-more place lt = get_or_append_left tombs (tomb ∷ []) _ place lt

  IsWithin-more : (span : Span) (other : Tomb) → IsInRange (length tombs) span → IsWithin tombs span other → IsWithin (tombs ++ tomb ∷ []) span other
  IsWithin-more span other range h = record {
    first = subst (λ t. IsUpTo (start_of t) (start_of other)) (sym (tomb_at-more span.first range.first)) h.first;
    last = subst (λ t. IsUpTo (end_of other) (end_of t)) (sym (tomb_at-more span.last range.last)) h.last;
    newest = h.newest;
  }

  IsSpanned-more : (nodes : List Node) → All (IsPlaced (length tombs)) nodes → IsSpanned tombs nodes → IsSpanned (tombs ++ tomb ∷ []) nodes
  unfolding IsSpanned
  IsSpanned-more nodes placed h = λ d k e lt.
      let middle : Node = get_or nodes (length nodes / 2) d in
      let node : Node = get_or nodes k e in
      let in_list : length nodes / 2 < length nodes = omega arith in
      subst (λ other. IsWithin (tombs ++ tomb ∷ []) middle.span other) (sym (tomb_at-more node.place (placed k e lt).place))
      (IsWithin-more middle.span (tomb_at tombs node.place) (placed (length nodes / 2) d in_list).span (h d k e lt))

  All-part : (run : List Node) → All (IsPlaced (length tombs)) run → (path : List Bool) → All (IsPlaced (length tombs)) (part path run)
  All-part run placed [] = placed
  All-part run placed (false ∷ path) = All-part (take (length run / 2) run) (All-take (IsPlaced (length tombs)) (length run / 2) run placed) path
  All-part run placed (true ∷ path) = All-part (drop (length run / 2 + 1) run) (All-drop (IsPlaced (length tombs)) (length run / 2 + 1) run placed) path

  IsRun-more : (run : List Node) → All (IsPlaced (length tombs)) run → IsRun tombs run → IsRun (tombs ++ tomb ∷ []) run
  unfolding IsRun
  IsRun-more run placed h = λ path. IsSpanned-more (part path run) (All-part run placed path) (h path)

  All-run_at : (nodes : List Node) → All (IsPlaced (length tombs)) nodes → (k : ℕ) → All (IsPlaced (length tombs)) (run_at k nodes)
  All-run_at nodes placed zero = All-take (IsPlaced (length tombs)) (run_len (length nodes)) nodes placed
  All-run_at nodes placed (suc k) = All-run_at (drop (run_len (length nodes)) nodes) (All-drop (IsPlaced (length tombs)) (run_len (length nodes)) nodes placed) k

  pub AreRuns-more : (nodes : List Node) → All (IsPlaced (length tombs)) nodes → AreRuns tombs nodes → AreRuns (tombs ++ tomb ∷ []) nodes
  unfolding AreRuns
  AreRuns-more nodes placed h = λ k. IsRun-more (run_at k nodes) (All-run_at nodes placed k) (h k)
