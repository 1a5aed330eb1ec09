use Rattle.std.proofs.Common.{◌==◌, Bool, List, sym, ap, ◌∙◌}
use Rattle.std.specs.Prelude.{◌&&◌}
use Rattle.std.specs.List.{list_any}
use Rattle.rk_bytes.specs.declared.model.manifest.FamilyState.{FamilyState}
use Rattle.rk_bytes.specs.declared.model.manifest.FileMeta.{FileMeta}
use Rattle.rk_bytes.specs.Model.Manifest.{has_number}
use Rattle.rk_version.proofs.PlaceLemmas.{any_at, any_free}
use Rattle.rk_version.proofs.families.has_file_at.Goals as goal

pub returns-in-Ok : goal.returns-in-Ok
returns-in-Ok c =
    let has : List FileMeta → Bool = list_any (λ (file : FileMeta). has_number c.args.number file && file.level == c.args.level) in
    c.has_file_at.ensures ∙ ap has c.as_slice.ensures
    ∙ sym (any_at (λ (live : FamilyState). live.id) c.args.id (λ live. has live.files) c.in-Ok.place c.args.families.now c.index-families-place.result c.in-Ok.ensures)

pub returns-in-Err : goal.returns-in-Err
returns-in-Err c =
    let has : List FileMeta → Bool = list_any (λ (file : FileMeta). has_number c.args.number file && file.level == c.args.level) in
    sym (any_free (λ (live : FamilyState). live.id) c.args.id (λ live. has live.files) c.in-Err.field-0 c.args.families.now c.in-Err.ensures)
