use Rattle.std.proofs.Common.{max, ℕ, sym, ap, ◌∙◌}
use Rattle.rk_bytes.specs.declared.model.manifest.FamilyState.{FamilyState}
use Rattle.rk_version.proofs.PlaceLemmas.{changed, written, unchanged_free}
use Rattle.rk_version.proofs.families.with_log.Goals as goal
use Rattle.rk_version.proofs.families.with_log.Goals.{in-Ok, in_default}

pub returns : goal.returns
returns c =
    let families = c.deref.result.now in
    let change : FamilyState → FamilyState = λ live. record live { log = max live.log c.args.log } in
    let kept = ap (changed (λ live. live.id) c.args.id change) (c.deref.ensures.value ∙ c.into_vec-families.ensures) in
    elim c.match-place_of_family.branch [
      | in-Ok w ↦
          let live = w.index_mut-live.result.now in
          c.from_vec.ensures ∙ ap (λ v. v.items) w.families-is
          ∙ written (λ live. live.id) c.args.id change w.in-Ok.place c.into_vec-families.result.items families live _ w.in-Ok.ensures c.deref.ensures.value w.index_mut-live.ensures.value
          (ap (λ (log : ℕ). record live { log = log }) w.max-live.ensures)
          ∙ ap (changed (λ live. live.id) c.args.id change) c.into_vec-families.ensures
      | in_default w ↦
          c.from_vec.ensures ∙ ap (λ v. v.items) w.families-is ∙ sym c.deref.ensures.value
          ∙ sym (unchanged_free (λ live. live.id) c.args.id change w.in_default.field-0 families w.in_default.ensures) ∙ kept
    ]
