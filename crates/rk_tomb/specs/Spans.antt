-- What range deletions have in common: the first edge and the last one, and the newest sequence number.
use Rattle.std.specs.Prelude.{◌≡◌, ℕ, ◌<◌, ◌≤◌, List, [], false, slice_index_or, None}
use Rattle.std.specs.declared.cmp.Ordering.{Ordering}
use Rattle.std.specs.Ordering.{nat_cmp, ordering_then, is_gt}
use Rattle.std.specs.Cmp.Lexicographic.{slice_cmp}
use Rattle.rk_bytes.specs.declared.model.view.Tomb.{Tomb}
use Rattle.rk_tomb.specs.declared.span.Span.{Span}

-- where a range deletion starts: its family, and its key there
abbrev pub start_of : Tomb → ℕ × List ℕ
start_of tomb = (tomb.family, tomb.start)

-- where it ends
abbrev pub end_of : Tomb → ℕ × List ℕ
end_of tomb = (tomb.family, tomb.end)

-- edges by family, and then by key
unfoldable pub edge_cmp : ℕ × List ℕ → ℕ × List ℕ → Ordering
edge_cmp a b = ordering_then (nat_cmp a.0 b.0) (slice_cmp nat_cmp a.1 b.1)

-- the one edge isn't above the other
abbrev pub IsUpTo : ℕ × List ℕ → ℕ × List ℕ → Type 0
IsUpTo a b = is_gt (edge_cmp a b) ≡ false

-- the range deletion in a place, and past the last one that covers nothing
abbrev pub tomb_at : List Tomb → ℕ → Tomb
tomb_at tombs place = slice_index_or tombs place (record { family = 0; start = []; end = []; sequence = 0; cut = None })

-- both places of a span are those of range deletions
pub record IsInRange (count : ℕ) (span : Span) : Type 0 where
  pub first : span.first < count
  pub last : span.last < count

-- The range deletion doesn't start before the span, doesn't end after it, and isn't newer.
pub record IsWithin (tombs : List Tomb) (span : Span) (tomb : Tomb) : Type 0 where
  pub first : IsUpTo (start_of (tomb_at tombs span.first)) (start_of tomb)
  pub last : IsUpTo (end_of tomb) (end_of (tomb_at tombs span.last))
  pub newest : tomb.sequence ≤ span.newest
