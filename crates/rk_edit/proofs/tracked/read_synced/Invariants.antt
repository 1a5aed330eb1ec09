use Rattle.std.proofs.Common.{length}
use Rattle.rk_bytes.specs.Reading.{rest_of}
use Rattle.rk_edit.proofs.Tracking.{Tracks}
use Rattle.rk_edit.proofs.tracked.read_synced.Given as goal

abbrev pub invariant-loop-synced : goal.invariant-loop-synced
invariant-loop-synced l = Tracks l.initial.cursor l.cursor l.synced

abbrev pub decreases-loop-synced : goal.decreases-loop-synced
decreases-loop-synced l = length (rest_of l.cursor)
