use Rattle.std.proofs.Common.{ap, ◌∙◌}
use Rattle.rk_version.proofs.RankingsLemmas.{with_put, with_more}
use Rattle.rk_version.proofs.rankings.with_live.Goals as goal
use Rattle.rk_version.proofs.rankings.with_live.Goals.{in-Ok, in-Err+in_ok-insert-in-Err}

pub returns : goal.returns
returns c =
    let families = c.args.families.now in
    let live = c.args.live.now in
    let items = c.into_vec-rankings.result.items in
    let kept = c.into_vec-rankings.ensures ∙ c.requires.kept in
    elim c.match-place_of_family.branch [
      | in-Ok w ↦ c.from_vec.ensures ∙ ap (λ v. v.items) w.rankings-is ∙ with_put families items kept live.id w.in-Ok.place live c.args.ranking c.requires.own w.in-Ok.ensures
      | in-Err+in_ok-insert-in-Err w ↦
          c.from_vec.ensures ∙ ap (λ v. v.items) w.rankings-is ∙ w.in_ok-insert-in-Err.ensures.items
          ∙ with_more families items kept live.id w.in-Err.place live c.args.ranking c.requires.own w.in-Err.ensures
    ]
