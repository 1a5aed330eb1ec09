use Rattle.std.proofs.Common.{◌≡◌, drop}
use Rattle.rk_bytes.specs.Model.Manifest.{steps_in_order, edit_step}
use Rattle.rk_version.specs.Units.{edits_of}
use Rattle.rk_version.proofs.unit.apply_edits.Given as goal

-- the edits that are left make of this version what all edits make of the first one
abbrev pub invariant-loop-piece : goal.invariant-loop-piece
invariant-loop-piece l = steps_in_order edit_step (edits_of (drop l.piece-index l.pieces)) l.draft ≡ steps_in_order edit_step (edits_of l.pieces) l.fn.draft
