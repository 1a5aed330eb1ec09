use Rattle.std.proofs.Common.{◌∙◌, ap}
use Rattle.std.specs.Prelude.{slice_get}
use Rattle.rk_view.proofs.CursorLemmas.{joined_first}
use Rattle.rk_view.proofs.cursor.first_in.Goals as goal

pub returns-in-Some : goal.returns-in-Some
returns-in-Some c = joined_first c.args.parts.now c.loop-part.part-index c.part-item.result c.in-Some.first.now c.loop-part-test.true c.part-item.is c.loop-part.invariant (c.in-Some.ensures.value ∙ ap (λ rs. slice_get rs 0) c.as_slice.ensures.value)
