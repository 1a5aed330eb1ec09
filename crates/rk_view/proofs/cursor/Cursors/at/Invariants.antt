use Rattle.std.proofs.Common.{◌≡◌, ◌++◌, map, take, length}
use Rattle.std.specs.Prelude.{filter}
use Rattle.rk_view.specs.Places.{is_after}
use Rattle.rk_view.specs.Parts.{joined}
use Rattle.rk_view.proofs.cursor.Cursors.at.Given as goal

abbrev pub invariant-loop-run : goal.invariant-loop-run
invariant-loop-run l = record {
  long : length l.cursors ≡ 32;
  count : l.count ≡ l.run-index;
  lefts : map (λ run. run.records.now ++ joined run.behind.now) (take l.count l.cursors) ≡ map (filter (is_after l.place.family l.place.user.now l.place.below)) (take l.run-index l.runs);
}
