use Rattle.std.proofs.Common.{length}
use Rattle.rk_bytes.specs.Reading.{rest_of}
use Rattle.rk_meta.proofs.DeltaLemmas.{IsWalked}
use Rattle.rk_meta.proofs.delta.delta_index.Given as goal

-- the entries before the cursor were read, and the index is what they are
abbrev pub invariant-loop-cursor : goal.invariant-loop-cursor
invariant-loop-cursor l = IsWalked l.entries l.initial.restarts.left l.cursor l.key l.before l.restarts l.index

abbrev pub decreases-loop-cursor : goal.decreases-loop-cursor
decreases-loop-cursor l = length (rest_of l.cursor)
