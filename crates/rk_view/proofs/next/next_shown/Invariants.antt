use Rattle.std.proofs.Common.{◌≡◌, ◌≤◌, map}
use Rattle.rk_view.specs.Sources.{merged, AreRuns}
use Rattle.rk_view.specs.Shown.{shown_below}
use Rattle.rk_view.proofs.next.next_shown.Given as goal

abbrev pub invariant-loop-index : goal.invariant-loop-index
invariant-loop-index g l = record {
  runs : AreRuns (map g.S.Source.left l.sources);
  same : shown_below l.tombs l.family l.key l.below (merged (map g.S.Source.left l.initial.sources)) ≡ shown_below l.tombs l.family l.key l.limit (merged (map g.S.Source.left l.sources));
  lower : l.limit ≤ l.below;
}

abbrev pub decreases-loop-index : goal.decreases-loop-index
decreases-loop-index g l = l.limit
