use Rattle.std.proofs.Common.{◌∙◌, ◌++◌, ◌∷◌, [], List, ap, sym, subst}
use Rattle.std.specs.List.{All}
use Rattle.rk_bytes.specs.declared.model.key.Record.{Record}
use Rattle.rk_view.specs.Maps.{IsRun, map_of}
use Rattle.rk_view.proofs.RunsLemmas.{all-front, all-more, map_of-joined}
use Rattle.rk_view.proofs.runs.join_youngest.Goals as goal

pub returns-in-Ok-clause-runs : goal.returns-in-Ok-clause-runs
returns-in-Ok-clause-runs c =
    let P = λ (r : List Record). IsRun r in
    let rest = c.pop_two-older.new.runs.items in
    let older = c.pop_two-older.result.0 in
    let all : All P ((rest ++ older ∷ []) ++ c.pop_two-older.result.1 ∷ []) = subst (All P) c.pop_two-older.ensures.items c.requires.runs in
    subst (All P) (sym c.push_reserved.ensures.items)
    (all-more rest c.of.result (all-front rest older (all-front (rest ++ older ∷ []) c.pop_two-older.result.1 all)) (subst IsRun (sym c.of.ensures) c.merge.ensures.run))

pub returns-in-Ok-clause-same : goal.returns-in-Ok-clause-same
returns-in-Ok-clause-same c =
    let rest = c.pop_two-older.new.runs.items in
    ap map_of (c.push_reserved.ensures.items ∙ ap (λ run. rest ++ run ∷ []) c.of.ensures)
    ∙ map_of-joined rest c.pop_two-older.result.0 c.pop_two-older.result.1 c.merge.new.merged.items c.merge.ensures.map
    ∙ sym (ap map_of c.pop_two-older.ensures.items)
