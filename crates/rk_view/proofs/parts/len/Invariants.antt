use Rattle.std.proofs.Common.{◌≡◌, length, take}
use Rattle.rk_view.specs.Parts.{joined}
use Rattle.rk_view.proofs.parts.len.Given as goal

abbrev pub invariant-loop-part : goal.invariant-loop-part
invariant-loop-part l = l.total ≡ length (joined (take l.part-index l.parts))
