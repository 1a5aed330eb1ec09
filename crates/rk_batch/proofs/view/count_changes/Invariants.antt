use Rattle.std.proofs.Common.{length}
use Rattle.rk_bytes.specs.Reading.{rest_of}
use Rattle.rk_batch.proofs.CountLemmas.{Counting}
use Rattle.rk_batch.proofs.view.count_changes.Given as goal

abbrev pub invariant-loop-cursor : goal.invariant-loop-cursor
invariant-loop-cursor l = Counting l.initial.cursor l.cursor l.count

abbrev pub decreases-loop-cursor : goal.decreases-loop-cursor
decreases-loop-cursor l = length (rest_of l.cursor)
