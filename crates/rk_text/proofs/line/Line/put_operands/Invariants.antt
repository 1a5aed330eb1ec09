use Rattle.std.proofs.Common.{◌≡◌, ◌++◌, ◌≤◌, length, drop}
use Rattle.std.specs.Prelude.{codes, flat_map}
use Rattle.rk_bytes.specs.Model.Lines.{quoted}
use Rattle.rk_text.proofs.line.Line.put_operands.Given as goal

-- the line so far, and the operands that are left
abbrev pub invariant-loop-value : goal.invariant-loop-value
invariant-loop-value l =
    (l.initial.self ++ flat_map (λ value. codes " " ++ quoted l.hex value) l.operands ≡ l.self ++ flat_map (λ value. codes " " ++ quoted l.hex value) (drop l.value-index l.operands))
    × (l.value-index ≤ length l.operands)
