use Rattle.std.proofs.Common.{◌∙◌, ap}
use Rattle.std.specs.Prelude.{filter}
use Rattle.std.specs.FinMap.{values}
use Rattle.rk_view.specs.Places.{is_after}
use Rattle.rk_view.specs.Sources.{merged}
use Rattle.rk_view.proofs.SourceLemmas.{merged_after}
use Rattle.rk_view.proofs.cursor.Cursors.of.Goals as goal

pub returns-clause-left : goal.returns-clause-left
returns-clause-left c =
    let place = c.args.place.now in
    ap merged c.at.ensures ∙ merged_after place.family place.user.now place.below c.runs.result.now c.runs.ensures.runs
    ∙ ap (λ m. filter (is_after place.family place.user.now place.below) (values m)) c.runs.ensures.map
