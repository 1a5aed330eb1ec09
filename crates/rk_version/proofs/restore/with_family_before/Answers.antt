use Rattle.std.proofs.Common.{ℕ, get_or, sym, ap, subst, ◌∙◌}
use Rattle.rk_bytes.specs.declared.model.manifest.FamilyState.{FamilyState}
use Rattle.rk_version.specs.Places.{IsAt, IsFree}
use Rattle.rk_version.specs.Rankings.{ranking_of, rankings_of}
use Rattle.rk_version.specs.Undone.{family_before}
use Rattle.rk_version.proofs.PlaceLemmas.{changed, unchanged_free}
use Rattle.rk_version.proofs.RankingsLemmas.{with_change}
use Rattle.rk_version.proofs.Restoring.{set_back, set_again}
use Rattle.rk_version.proofs.restore.with_family_before.Goals as goal
use Rattle.rk_version.proofs.restore.with_family_before.Goals.{in-Ok+in_ok-family_before, in_default}

abbrev id_of : FamilyState → ℕ
id_of live = live.id

pub returns-clause-families : goal.returns-clause-families
returns-clause-families c =
    let families = c.deref.result.now in
    let items = c.into_vec-families.result.items in
    let change : FamilyState → FamilyState = family_before c.args.kept.now in
    let kept = ap (changed id_of c.args.id change) c.into_vec-families.ensures in
    elim c.match-place_of_family.branch [
      | in-Ok+in_ok-family_before w ↦
          let taken = w.replace-live.ensures.value in
          c.from_vec.ensures ∙ ap (λ v. v.items) w.families-is
          ∙ set_back id_of c.args.id change w.in-Ok.place items w.replace-live.new.dest w.replace-live.result w.into_parts-live.result.0
          (subst (λ families. IsAt id_of c.args.id families w.in-Ok.place) c.deref.ensures.value w.in-Ok.ensures) (taken ∙ w.index_mut.ensures.value ∙ ap (get_or items w.in-Ok.place) (sym taken))
          (w.into_parts-live.ensures.family ∙ w.in_ok-family_before.ensures ∙ ap change w.new-ranked.ensures)
          ∙ kept
      | in_default w ↦
          c.from_vec.ensures ∙ ap (λ v. v.items) w.families-is ∙ sym c.deref.ensures.value
          ∙ sym (unchanged_free id_of c.args.id change w.in_default.field-0 families w.in_default.ensures) ∙ ap (changed id_of c.args.id change) c.deref.ensures.value ∙ kept
    ]

pub returns-clause-rankings : goal.returns-clause-rankings
returns-clause-rankings c =
    let families = c.args.families in
    let are = c.deref.ensures.value ∙ c.into_vec-families.ensures in
    let items = c.into_vec-rankings.result.items in
    let change : FamilyState → FamilyState = family_before c.args.kept.now in
    let kept = c.into_vec-rankings.ensures ∙ c.requires.kept in
    elim c.match-place_of_family.branch [
      | in-Ok+in_ok-family_before w ↦
          let taken = w.replace-live.ensures.value in
          let live = w.replace-live.result in
          c.from_vec-2.ensures ∙ ap (λ v. v.items) w.rankings-is ∙ set_again items w.in-Ok.place _ w.into_parts-live.result.1
          ∙ with_change families items kept c.args.id w.in-Ok.place change live w.into_parts-live.result.1 (subst (λ families. IsAt id_of c.args.id families w.in-Ok.place) are w.in-Ok.ensures)
          (taken ∙ w.index_mut.ensures.value ∙ (λ i. get_or (c.into_vec-families.ensures i) w.in-Ok.place (sym taken i)))
          (w.into_parts-live.ensures.kept ∙ ap (λ (live : FamilyState). ranking_of live.files) (w.into_parts-live.ensures.family ∙ w.in_ok-family_before.ensures ∙ ap change w.new-ranked.ensures))
      | in_default w ↦
          c.from_vec-2.ensures ∙ ap (λ v. v.items) w.rankings-is ∙ kept
          ∙ sym (ap rankings_of (unchanged_free id_of c.args.id change w.in_default.field-0 families (subst (λ families. IsFree id_of c.args.id families w.in_default.field-0) are w.in_default.ensures)))
    ]
