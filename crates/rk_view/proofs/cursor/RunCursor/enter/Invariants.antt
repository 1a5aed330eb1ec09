use Rattle.std.proofs.Common.{◌≡◌, ◌++◌, length}
use Rattle.rk_view.specs.Parts.{joined}
use Rattle.rk_view.proofs.cursor.RunCursor.enter.Given as goal

abbrev pub invariant-loop-part : goal.invariant-loop-part
invariant-loop-part l = l.self.records.now ++ joined l.self.behind.now ≡ l.initial.self.records.now ++ joined l.initial.self.behind.now

abbrev pub decreases-loop-part : goal.decreases-loop-part
decreases-loop-part l = length l.self.behind.now
