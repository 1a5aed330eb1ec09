use Rattle.std.proofs.Common.{◌≡◌, ◌++◌, length, map}
use Rattle.rk_bytes.specs.Model.Lines.{part_line}
use Rattle.rk_bytes.specs.Model.Output.{joined}
use Rattle.rk_text.proofs.line.Line.put_parts.Given as goal

-- the lines so far, and those of the parts that are left
abbrev pub invariant-loop-part : goal.invariant-loop-part
invariant-loop-part l = l.initial.self ++ joined (map (part_line l.hex) l.initial.view.left) ≡ l.self ++ joined (map (part_line l.hex) l.view.left)

abbrev pub decreases-loop-part : goal.decreases-loop-part
decreases-loop-part l = length l.view.left
