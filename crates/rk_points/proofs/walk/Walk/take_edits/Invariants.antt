use Rattle.std.proofs.Common.{drop}
use Rattle.rk_version.specs.Units.{edits_of}
use Rattle.rk_points.specs.Walks.{Reaches}
use Rattle.rk_points.proofs.walk.Walk.take_edits.Given as goal

-- the edits so far are walked over
abbrev pub invariant-loop-piece : goal.invariant-loop-piece
invariant-loop-piece l = Reaches l.at (edits_of l.pieces) l.fn.self (edits_of (drop l.piece-index l.pieces)) l.self
