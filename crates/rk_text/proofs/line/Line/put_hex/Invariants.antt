use Rattle.std.proofs.Common.{◌≡◌, ◌++◌, length}
use Rattle.hex.specs.Hex.{encode_lower}
use Rattle.rk_text.proofs.line.Line.put_hex.Given as goal

-- the line so far, and what is left to be spelled after it
abbrev pub invariant-loop-rest : goal.invariant-loop-rest
invariant-loop-rest l = l.initial.self ++ encode_lower l.bytes ≡ l.self ++ encode_lower l.rest

abbrev pub decreases-loop-rest : goal.decreases-loop-rest
decreases-loop-rest l = length l.rest
