use Rattle.std.proofs.Common.{◌≡◌, ◌++◌, length, map}
use Rattle.rk_bytes.specs.Model.Lines.{inner_line, field_words}
use Rattle.rk_bytes.specs.Model.Output.{joined}
use Rattle.rk_text.proofs.line.Line.put_fields.Given as goal

-- the lines so far, and those of the fields that are left
abbrev pub invariant-loop-field : goal.invariant-loop-field
invariant-loop-field l = l.initial.self ++ joined (map (λ field. inner_line (field_words l.hex field)) l.initial.view) ≡ l.self ++ joined (map (λ field. inner_line (field_words l.hex field)) l.view)

abbrev pub decreases-loop-field : goal.decreases-loop-field
decreases-loop-field l = length l.view
