use Rattle.std.proofs.Common.{◌≡◌, length}
use Rattle.rk_version.specs.Undone.{before_edits}
use Rattle.rk_version.proofs.undo.undo_edits.Given as goal

-- the edits that are left lead from this version to where all lead from the first one
abbrev pub invariant-loop-last : goal.invariant-loop-last
invariant-loop-last l = before_edits l.rest l.draft ≡ before_edits l.fn.edits l.fn.draft

abbrev pub decreases-loop-last : goal.decreases-loop-last
decreases-loop-last l = length l.rest
