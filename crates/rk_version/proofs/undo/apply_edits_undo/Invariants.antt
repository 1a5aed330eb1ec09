use Rattle.std.proofs.Common.{◌≡◌, drop}
use Rattle.rk_bytes.specs.Model.Manifest.{steps_in_order, edit_step}
use Rattle.rk_version.specs.Undone.{before_edits}
use Rattle.rk_version.specs.Units.{edits_of}
use Rattle.rk_version.proofs.undo.apply_edits_undo.Given as goal

-- The edits that are left make of this version what all edits make of the first one, to which what is kept leads
-- back.
abbrev pub invariant-loop-piece : goal.invariant-loop-piece
invariant-loop-piece l =
    (steps_in_order edit_step (edits_of (drop l.piece-index l.pieces)) l.draft ≡ steps_in_order edit_step (edits_of l.pieces) l.fn.draft)
    × (before_edits l.edits l.draft ≡ l.fn.draft)
