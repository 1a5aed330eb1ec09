use Rattle.std.proofs.Common.{◌∙◌, ◌++◌, ◌∷◌, [], ap}
use Rattle.rk_view.specs.Maps.{map_of}
use Rattle.rk_view.proofs.RunsLemmas.{map_of-run}
use Rattle.rk_view.proofs.runs.begin.Goals as goal

pub returns-clause-map : goal.returns-clause-map
returns-clause-map c =
    let runs = c.args.runs.now.items in
    ap map_of (c.push_reserved.ensures.items ∙ ap (λ run. runs ++ run ∷ []) c.of.ensures) ∙ map_of-run runs c.args.records.items c.requires.records.rises
