use Rattle.std.proofs.Common.{◌≡◌, map, take}
use Rattle.std.specs.Prelude.{filter}
use Rattle.rk_view.specs.Places.{is_after}
use Rattle.rk_view.specs.Sources.{AreRuns}
use Rattle.rk_view.proofs.source.skip.Given as goal

abbrev pub invariant-loop-source : goal.invariant-loop-source
invariant-loop-source g l = record {
  runs : AreRuns (map g.S.Source.left l.sources);
  same : map (filter (is_after l.place.family l.place.user.now l.place.below)) (map g.S.Source.left l.sources) ≡ map (filter (is_after l.place.family l.place.user.now l.place.below)) (map g.S.Source.left l.initial.sources);
  done : map (filter (is_after l.place.family l.place.user.now l.place.below)) (take l.source-index (map g.S.Source.left l.sources)) ≡ take l.source-index (map g.S.Source.left l.sources);
}
