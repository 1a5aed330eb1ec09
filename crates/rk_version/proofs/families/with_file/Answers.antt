use Rattle.std.proofs.Common.{List, sym, ap, ◌∙◌}
use Rattle.rk_bytes.specs.declared.model.manifest.FamilyState.{FamilyState}
use Rattle.rk_bytes.specs.declared.model.manifest.FileMeta.{FileMeta}
use Rattle.rk_bytes.specs.Model.Manifest.{add_meta}
use Rattle.rk_version.proofs.PlaceLemmas.{changed, written, unchanged_free}
use Rattle.rk_version.proofs.families.with_file.Goals as goal
use Rattle.rk_version.proofs.families.with_file.Goals.{in-Ok+in_ok-live, in_default}

pub returns : goal.returns
returns c =
    let families = c.deref.result.now in
    let change : FamilyState → FamilyState = λ live. record live { files = add_meta c.args.file live.files } in
    let kept = ap (changed (λ live. live.id) c.args.id change) (c.deref.ensures.value ∙ c.into_vec-families.ensures) in
    elim c.match-place_of_family.branch [
      | in-Ok+in_ok-live w ↦
          let live = w.index_mut-live.result.now in
          c.from_vec.ensures ∙ ap (λ v. v.items) w.families-is
          ∙ written (λ live. live.id) c.args.id change w.in-Ok.place c.into_vec-families.result.items families live _ w.in-Ok.ensures c.deref.ensures.value w.index_mut-live.ensures.value
          (ap (λ (files : List FileMeta). record live { files = files }) (w.in_ok-live.ensures ∙ ap (add_meta c.args.file) w.replace-files.ensures.value))
          ∙ ap (changed (λ live. live.id) c.args.id change) c.into_vec-families.ensures
      | in_default w ↦
          c.from_vec.ensures ∙ ap (λ v. v.items) w.families-is ∙ sym c.deref.ensures.value
          ∙ sym (unchanged_free (λ live. live.id) c.args.id change w.in_default.field-0 families w.in_default.ensures) ∙ kept
    ]
