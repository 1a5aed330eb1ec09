use Rattle.std.proofs.Common.{◌≡◌, ◌++◌}
use Rattle.rk_bytes.specs.Model.KeyView.{deciding, view_records}
use Rattle.rk_view.specs.Sources.{merged}
use Rattle.rk_view.specs.Shown.{shown_below}
use Rattle.rk_view.proofs.answer.view_records.Given as goal

abbrev pub invariant-loop-next : goal.invariant-loop-next
invariant-loop-next l = l.records ++ deciding (shown_below l.state.state.tombs l.family l.key l.below (merged l.cursors)) ≡ view_records l.state.state l.family l.key

abbrev pub decreases-loop-next : goal.decreases-loop-next
decreases-loop-next l = l.below
