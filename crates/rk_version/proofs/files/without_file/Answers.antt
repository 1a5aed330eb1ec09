use Rattle.std.proofs.Common.{not, filter, sym, ap, ◌∙◌}
use Rattle.std.specs.List.{remove}
use Rattle.rk_bytes.specs.Model.Manifest.{has_number}
use Rattle.rk_version.proofs.PlaceLemmas.{removed, none_removed}
use Rattle.rk_version.proofs.files.without_file.Goals as goal
use Rattle.rk_version.proofs.files.without_file.Goals.{in-Ok, in_default}

pub returns : goal.returns
returns c =
    let files = c.deref.result.now in
    let kept = ap (filter (λ file. not (has_number c.args.number file))) (c.deref.ensures.value ∙ c.into_vec-files.ensures) in
    elim c.match-place_of_file.branch [
      | in-Ok w ↦
          c.from_vec.ensures ∙ ap (λ v. v.items) w.files-is ∙ w.remove.ensures.items ∙ ap (λ xs. remove xs w.in-Ok.place) (sym c.deref.ensures.value)
          ∙ sym (removed (λ file. file.number) c.args.number w.in-Ok.place files w.in-Ok.ensures) ∙ kept
      | in_default w ↦
          c.from_vec.ensures ∙ ap (λ v. v.items) w.files-is ∙ sym c.deref.ensures.value
          ∙ sym (none_removed (λ file. file.number) c.args.number w.in_default.field-0 files w.in_default.ensures) ∙ kept
    ]
