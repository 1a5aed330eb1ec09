use Rattle.std.proofs.Common.{List, Some, sym, ap, ◌∙◌}
use Rattle.std.specs.Prelude.{find}
use Rattle.rk_bytes.specs.declared.model.manifest.FamilyState.{FamilyState}
use Rattle.rk_bytes.specs.declared.model.manifest.Version.{Version}
use Rattle.rk_bytes.specs.Model.Manifest.{has_id}
use Rattle.rk_version.proofs.PlaceLemmas.{found_at, not_found}
use Rattle.rk_version.proofs.draft.Draft.copy_family.Goals as goal

pub returns-in_ok-copy_of-in-Ok : goal.returns-in_ok-copy_of-in-Ok
returns-in_ok-copy_of-in-Ok c =
    ap Some (c.in_ok-copy_of-in-Ok.ensures ∙ c.index-families-place.is)
    ∙ sym (found_at (λ (live : FamilyState). live.id) c.args.id c.in-Ok.place c.as_slice-families.result.now c.index-families-place.result c.in-Ok.ensures)
    ∙ ap (λ (families : List FamilyState). find (has_id c.args.id) families) c.as_slice-families.ensures ∙ ap (λ (v : Version). find (has_id c.args.id) v.families) c.self.view_is

pub returns-in-Err : goal.returns-in-Err
returns-in-Err c =
    sym (not_found (λ (live : FamilyState). live.id) c.args.id c.in-Err.field-0 c.as_slice-families.result.now c.in-Err.ensures)
    ∙ ap (λ (families : List FamilyState). find (has_id c.args.id) families) c.as_slice-families.ensures ∙ ap (λ (v : Version). find (has_id c.args.id) v.families) c.self.view_is
