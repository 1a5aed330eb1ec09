use Rattle.std.proofs.Common.{sym, ap, ◌∙◌}
use Rattle.rk_bytes.specs.declared.model.manifest.FamilyState.{FamilyState}
use Rattle.rk_bytes.specs.Model.Manifest.{add_meta}
use Rattle.rk_version.specs.Rankings.{rankings_of}
use Rattle.rk_version.proofs.PlaceLemmas.{unchanged_free}
use Rattle.rk_version.proofs.RankingsLemmas.{with_change}
use Rattle.rk_version.proofs.rankings.with_file.Goals as goal
use Rattle.rk_version.proofs.rankings.with_file.Goals.{in-Ok+in_ok-kept, in_default}

pub returns : goal.returns
returns c =
    let families = c.args.families.now in
    let change : FamilyState → FamilyState = λ live. record live { files = add_meta c.args.file.now live.files } in
    let kept = c.into_vec-rankings.ensures ∙ c.requires.kept in
    elim c.match-place_of_family.branch [
      | in-Ok+in_ok-kept w ↦
          c.from_vec.ensures ∙ ap (λ v. v.items) w.rankings-is
          ∙ with_change families c.into_vec-rankings.result.items kept c.args.id w.in-Ok.place change w.index-families-place.result _ w.in-Ok.ensures w.index-families-place.is w.in_ok-kept.ensures
      | in_default w ↦
          c.from_vec.ensures ∙ ap (λ v. v.items) w.rankings-is ∙ kept
          ∙ sym (ap rankings_of (unchanged_free (λ live. live.id) c.args.id change w.in_default.field-0 families w.in_default.ensures))
    ]
