use Rattle.std.proofs.Common.{◌≡◌, length}
use Rattle.std.specs.Prelude.{filter}
use Rattle.rk_view.specs.Places.{is_after}
use Rattle.rk_view.specs.Maps.{IsRun}
use Rattle.rk_view.proofs.source.skip_one.Given as goal

abbrev pub invariant-loop-source : goal.invariant-loop-source
invariant-loop-source g l = record {
  run : IsRun (g.S.Source.left l.source);
  same : filter (is_after l.place.family l.place.user.now l.place.below) (g.S.Source.left l.source) ≡ filter (is_after l.place.family l.place.user.now l.place.below) (g.S.Source.left l.initial.source);
}

abbrev pub decreases-loop-source : goal.decreases-loop-source
decreases-loop-source g l = length (g.S.Source.left l.source)
