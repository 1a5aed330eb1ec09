use Rattle.std.proofs.Common.{◌≡◌, ◌++◌, length}
use Rattle.std.specs.Prelude.{flat_map}
use Rattle.rk_bytes.specs.Model.Lines.{shown_byte}
use Rattle.rk_text.proofs.line.Line.put_shown.Given as goal

-- the line so far, and what is left to be shown after it
abbrev pub invariant-loop-rest : goal.invariant-loop-rest
invariant-loop-rest l = l.initial.self ++ flat_map shown_byte l.bytes ≡ l.self ++ flat_map shown_byte l.rest

abbrev pub decreases-loop-rest : goal.decreases-loop-rest
decreases-loop-rest l = length l.rest
