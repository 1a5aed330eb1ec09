use Rattle.std.proofs.Common.{ap, subst, ◌∙◌}
use Rattle.std.specs.Prelude.{unwrap_or}
use Rattle.rk_points.specs.Aims.{Aims}
use Rattle.rk_points.proofs.TallyLemmas.{walked}
use Rattle.rk_points.proofs.walk.Walk.take_edit.Goals as goal

pub returns : goal.returns
returns c =
    let aims = subst (Aims c.of-aim.result) c.copy.ensures c.of-aim.ensures in
    walked c.args.at c.args.view c.args.self.now _ c.take-tally.result c.in_ok-counted.counted c.in_ok-settle.field-0 c.take-tally.new.self c.unwrap_or.result c.of-aim.result.drops
    (c.unwrap_or.ensures ∙ ap (λ family. unwrap_or family 0) aims.family) aims.drops c.take-tally.ensures.own c.take-tally.ensures.others c.in_ok-counted.ensures.0 c.in_ok-counted.ensures.1 c.in_ok-settle.ensures c.in_ok-put.ensures
