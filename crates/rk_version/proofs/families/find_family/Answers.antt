use Rattle.std.proofs.Common.{Some, sym, ap, ◌∙◌}
use Rattle.rk_bytes.specs.declared.model.manifest.FamilyState.{FamilyState}
use Rattle.rk_version.proofs.PlaceLemmas.{found_at, not_found}
use Rattle.rk_version.proofs.families.find_family.Goals as goal

pub returns-in-Ok-clause-found : goal.returns-in-Ok-clause-found
returns-in-Ok-clause-found c =
    ap Some c.index-families-place.is ∙ sym (found_at (λ (live : FamilyState). live.id) c.args.id c.in-Ok.place c.args.families.now c.index-families-place.result c.in-Ok.ensures)

pub returns-in-Err-clause-found : goal.returns-in-Err-clause-found
returns-in-Err-clause-found c = sym (not_found (λ (live : FamilyState). live.id) c.args.id c.in-Err.field-0 c.args.families.now c.in-Err.ensures)
