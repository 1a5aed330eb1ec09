use Rattle.std.proofs.Common.{sym, ap, ◌∙◌}
use Rattle.std.specs.List.{remove}
use Rattle.rk_bytes.specs.Model.Manifest.{drop_family}
use Rattle.rk_version.proofs.PlaceLemmas.{removed, none_removed}
use Rattle.rk_version.proofs.families.without_family.Goals as goal
use Rattle.rk_version.proofs.families.without_family.Goals.{in-Ok, in_default}

pub returns : goal.returns
returns c =
    let families = c.deref.result.now in
    let kept = ap (drop_family c.args.id) (c.deref.ensures.value ∙ c.into_vec-families.ensures) in
    elim c.match-place_of_family.branch [
      | in-Ok w ↦
          c.from_vec.ensures ∙ ap (λ v. v.items) w.families-is ∙ w.remove.ensures.items ∙ ap (λ xs. remove xs w.in-Ok.place) (sym c.deref.ensures.value)
          ∙ sym (removed (λ live. live.id) c.args.id w.in-Ok.place families w.in-Ok.ensures) ∙ kept
      | in_default w ↦
          c.from_vec.ensures ∙ ap (λ v. v.items) w.families-is ∙ sym c.deref.ensures.value
          ∙ sym (none_removed (λ live. live.id) c.args.id w.in_default.field-0 families w.in_default.ensures) ∙ kept
    ]
