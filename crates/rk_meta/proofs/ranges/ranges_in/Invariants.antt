use Rattle.std.proofs.Common.{◌≡◌, length}
use Rattle.rk_meta.specs.Walk.{range_in}
use Rattle.rk_meta.proofs.KeptLemmas.{IsKept}
use Rattle.rk_meta.proofs.ranges.ranges_in.Given as goal

abbrev pub invariant-loop-value : goal.invariant-loop-value
invariant-loop-value l = record { key : l.key ≡ l.entries.key; kept : IsKept range_in l.initial.entries.left l.entries.left l.ranges }

abbrev pub decreases-loop-value : goal.decreases-loop-value
decreases-loop-value l = length l.entries.left
