use Rattle.std.proofs.Common.{IsOk}
use Rattle.std.specs.List.{All}
use Rattle.rk_log.specs.Items.{piece_bytes}
use Rattle.rk_bytes.specs.Model.VersionEdit.{edit_fields}
use Rattle.state_tests.proofs.version.unit_of.Given as goal

-- the pieces so far read as edits
abbrev pub invariant-loop-edit : goal.invariant-loop-edit
invariant-loop-edit l = All (λ piece. IsOk (edit_fields (piece_bytes piece))) l.pieces
