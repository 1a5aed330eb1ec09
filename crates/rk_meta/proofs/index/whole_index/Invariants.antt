use Rattle.std.proofs.Common.{◌≡◌, length}
use Rattle.rk_meta.specs.Walk.{whole_entry}
use Rattle.rk_meta.proofs.KeptLemmas.{IsKept}
use Rattle.rk_meta.proofs.index.whole_index.Given as goal

abbrev pub invariant-loop-value : goal.invariant-loop-value
invariant-loop-value l = record { key : l.key ≡ l.entries.key; kept : IsKept whole_entry l.initial.entries.left l.entries.left l.index }

abbrev pub decreases-loop-value : goal.decreases-loop-value
decreases-loop-value l = length l.entries.left
