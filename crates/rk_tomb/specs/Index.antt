-- How range deletions are indexed. Each has a node; nodes stand in runs, whose lengths are powers of two that fall; and each node knows
-- the span of the part of its run of which it is the middle.
use Rattle.std.specs.Prelude.{ℕ, zero, suc, ◌+◌, ◌*◌, ◌/◌, ◌<◌, Bool, true, false, List, [], ◌∷◌, length, map, take, drop, nat_le, if◌then◌else◌}
use Rattle.std.specs.List.{All, HoldsAt}
use Rattle.std.specs.List.Sorted.{IsPermutation}
use Rattle.rk_bytes.specs.declared.model.view.Tomb.{Tomb}
use Rattle.rk_tomb.specs.declared.index.Node.{Node}
use Rattle.rk_tomb.specs.Spans.{IsInRange, IsWithin, tomb_at}

-- the places of the nodes' range deletions
abbrev pub places : List Node → List ℕ
places nodes = map (λ node. node.place) nodes

-- the nodes' range deletions
abbrev pub tombs_of : List Tomb → List Node → List Tomb
tombs_of tombs nodes = map (tomb_at tombs) (places nodes)

-- a node's range deletion and those of its span are there
pub record IsPlaced (count : ℕ) (node : Node) : Type 0 where
  pub place : node.place < count
  pub span : IsInRange count node.span

-- each range deletion of these nodes is within the span of the node in their middle
unfoldable pub IsSpanned : List Tomb → List Node → Type 0
IsSpanned tombs nodes = HoldsAt (λ middle. All (λ node. IsWithin tombs middle.span (tomb_at tombs node.place)) nodes) nodes (length nodes / 2)

-- the part of a run to which a path leads, where each step goes to what is before the middle or to what is after it
abbrev pub part : List Bool → List Node → List Node
part [] run = run
part (false ∷ path) run = part path (take (length run / 2) run)
part (true ∷ path) run = part path (drop (length run / 2 + 1) run)

-- each part of the run is within its middle's span
unfoldable pub IsRun : List Tomb → List Node → Type 0
IsRun tombs run = (path : List Bool) → IsSpanned tombs (part path run)

-- the greatest power of two that is at most the number, and 0 for 0
abbrev pub run_len : ℕ → ℕ
run_len zero = 0
run_len (suc n) = if nat_le (2 * run_len n) (suc n) then suc n else run_len n

-- the runs of nodes in turn, each as long as can be
abbrev pub run_at : ℕ → List Node → List Node
run_at zero nodes = take (run_len (length nodes)) nodes
run_at (suc k) nodes = run_at k (drop (run_len (length nodes)) nodes)

-- the nodes stand in runs
unfoldable pub AreRuns : List Tomb → List Node → Type 0
AreRuns tombs nodes = (k : ℕ) → IsRun tombs (run_at k nodes)

-- the nodes are an index of the range deletions: each has one
pub record IsIndex (tombs : List Tomb) (nodes : List Node) : Type 0 where
  pub placed : All (IsPlaced (length tombs)) nodes
  pub whole : IsPermutation tombs (tombs_of tombs nodes)
  pub runs : AreRuns tombs nodes
