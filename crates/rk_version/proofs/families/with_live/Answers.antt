use Rattle.std.proofs.Common.{ap, subst, ◌∙◌}
use Rattle.rk_bytes.specs.declared.model.manifest.FamilyState.{FamilyState}
use Rattle.rk_version.specs.Keyed.{put}
use Rattle.rk_version.specs.Places.{IsAt, IsFree}
use Rattle.rk_version.proofs.PlaceLemmas.{replaced, inserted}
use Rattle.rk_version.proofs.families.with_live.Goals as goal
use Rattle.rk_version.proofs.families.with_live.Goals.{in-Ok, in-Err+in_ok-insert-in-Err}

pub returns : goal.returns
returns c =
    let live = c.args.live in
    let items = c.into_vec-families.result.items in
    let kept = ap (put (λ (live : FamilyState). live.id) live) c.into_vec-families.ensures in
    elim c.match-place_of_family.branch [
      | in-Ok w ↦
          c.from_vec.ensures ∙ ap (λ v. v.items) w.families-is
          ∙ replaced (λ (live : FamilyState). live.id) live.id w.in-Ok.place items live (subst (λ families. IsAt (λ (live : FamilyState). live.id) live.id families w.in-Ok.place) c.deref.ensures.value w.in-Ok.ensures) ∙ kept
      | in-Err+in_ok-insert-in-Err w ↦
          c.from_vec.ensures ∙ ap (λ v. v.items) w.families-is ∙ w.in_ok-insert-in-Err.ensures.items
          ∙ inserted (λ (live : FamilyState). live.id) live.id w.in-Err.place items live (subst (λ families. IsFree (λ (live : FamilyState). live.id) live.id families w.in-Err.place) c.deref.ensures.value w.in-Err.ensures) ∙ kept
    ]
