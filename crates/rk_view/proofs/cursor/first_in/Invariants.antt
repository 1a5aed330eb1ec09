use Rattle.std.proofs.Common.{◌≡◌, [], take}
use Rattle.rk_view.specs.Parts.{joined}
use Rattle.rk_view.proofs.cursor.first_in.Given as goal

abbrev pub invariant-loop-part : goal.invariant-loop-part
invariant-loop-part l = joined (take l.part-index l.parts) ≡ []
