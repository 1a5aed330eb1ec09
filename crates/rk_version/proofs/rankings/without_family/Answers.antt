use Rattle.std.proofs.Common.{sym, ap, ◌∙◌}
use Rattle.rk_version.specs.Rankings.{rankings_of}
use Rattle.rk_version.proofs.PlaceLemmas.{none_removed}
use Rattle.rk_version.proofs.RankingsLemmas.{without_one}
use Rattle.rk_version.proofs.rankings.without_family.Goals as goal
use Rattle.rk_version.proofs.rankings.without_family.Goals.{in-Ok, in_default}

pub returns : goal.returns
returns c =
    let kept = c.into_vec-rankings.ensures ∙ c.requires.kept in
    elim c.match-place_of_family.branch [
      | in-Ok w ↦
          c.from_vec.ensures ∙ ap (λ v. v.items) w.rankings-is ∙ w.remove.ensures.items
          ∙ without_one c.args.families.now c.into_vec-rankings.result.items kept c.args.id w.in-Ok.place w.in-Ok.ensures
      | in_default w ↦
          c.from_vec.ensures ∙ ap (λ v. v.items) w.rankings-is ∙ kept
          ∙ sym (ap rankings_of (none_removed (λ live. live.id) c.args.id w.in_default.field-0 c.args.families.now w.in_default.ensures))
    ]
