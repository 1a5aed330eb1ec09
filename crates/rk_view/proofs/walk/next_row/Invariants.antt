use Rattle.std.proofs.Common.{◌≡◌, length}
use Rattle.std.specs.Option.{option_copied}
use Rattle.rk_view.specs.Sources.{merged}
use Rattle.rk_view.specs.Shown.{rows_left, IsFrom}
use Rattle.rk_view.proofs.walk.next_row.Given as goal

abbrev pub invariant-loop-first : goal.invariant-loop-first
invariant-loop-first l = record {
  from : IsFrom l.family (merged l.cursors);
  same : rows_left l.tombs l.family (option_copied l.to) l.initial.cursors ≡ rows_left l.tombs l.family (option_copied l.to) l.cursors;
}

abbrev pub decreases-loop-first : goal.decreases-loop-first
decreases-loop-first l = length (merged l.cursors)
