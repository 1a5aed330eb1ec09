use Rattle.std.proofs.Common.{length}
use Rattle.rk_bytes.specs.Reading.{rest_of}
use Rattle.rk_edit.proofs.Steps.{Checks}
use Rattle.rk_edit.proofs.view.check_fields.Given as goal

abbrev pub invariant-loop-cursor : goal.invariant-loop-cursor
invariant-loop-cursor l = Checks l.bytes l.cursor l.before

abbrev pub decreases-loop-cursor : goal.decreases-loop-cursor
decreases-loop-cursor l = length (rest_of l.cursor)
