use Rattle.std.proofs.Common.{◌≡◌, ◌++◌, flat_map, drop}
use Rattle.rk_version.specs.Units.{edits_of}
use Rattle.rk_points.specs.Lists.{files_in}
use Rattle.rk_points.proofs.lists.list_pieces.Given as goal

-- the files so far, and those of the edits that are left
abbrev pub invariant-loop-piece : goal.invariant-loop-piece
invariant-loop-piece l = l.files ++ flat_map files_in (edits_of (drop l.piece-index l.pieces)) ≡ l.fn.files ++ flat_map files_in (edits_of l.pieces)
