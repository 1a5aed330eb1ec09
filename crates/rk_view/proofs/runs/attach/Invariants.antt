use Rattle.std.proofs.Common.{◌≡◌}
use Rattle.rk_view.proofs.runs.attach.Given as goal

abbrev pub invariant-loop-index : goal.invariant-loop-index
invariant-loop-index l = record {
  same : l.runs ≡ l.fn.runs;
  left : l.left.items ≡ l.fn.records.items;
}
