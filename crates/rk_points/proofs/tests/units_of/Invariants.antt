use Rattle.std.proofs.Common.{IsOk}
use Rattle.std.specs.List.{All}
use Rattle.rk_log.specs.Items.{piece_bytes}
use Rattle.rk_bytes.specs.Model.VersionEdit.{edit_fields}
use Rattle.rk_points.proofs.tests.units_of.Given as goal

-- the pieces of the units so far read as edits
abbrev pub invariant-loop-edits : goal.invariant-loop-edits
invariant-loop-edits l = All (λ unit. All (λ piece. IsOk (edit_fields (piece_bytes piece))) unit.pieces) l.all
