use Rattle.std.proofs.Common.{◌≡◌, ◌≤◌, length, map, List, Result, Ok, IsOk, refl, sym, ap, subst, ◌∙◌, arith}
use Rattle.std.proofs.lemmas.List.{length-map, take_all}
use Rattle.std.proofs.lemmas.Result.{IfOk-weaker}
use Rattle.rk_bytes.specs.declared.model.manifest.ManifestFault.{ManifestFault}
use Rattle.rk_bytes.specs.declared.model.manifest.Version.{Version}
use Rattle.rk_bytes.specs.Model.Manifest.{first_version, version_after, version_at}
use Rattle.rk_version.specs.declared.unit.Unit.{Unit as LentUnit}
use Rattle.rk_version.specs.Units.{meaning}
use Rattle.rk_points.proofs.tests.apply_all.Goals as goal

-- units that lead to a version are applied
all_apply : (units : List LentUnit) (version : Version) → version_after 1 (map meaning units) first_version ≡ Ok version → IsOk (version_at (map meaning units) (length units))
all_apply units version e =
    let as_many : length (map meaning units) ≤ length units = omega (arith, length-map units meaning) in
    subst (λ (r : Result Version ManifestFault). IsOk r) (sym (ap (λ units. version_after 1 units first_version) (take_all (length units) (map meaning units) as_many) ∙ e)) refl

pub returns : goal.returns
returns c = IfOk-weaker c.version_after.result (λ version. version_after 1 (map meaning c.args.units.now) first_version ≡ Ok version) (λ version. IsOk (version_at (map meaning c.args.units.now) (length c.args.units.now))) (all_apply c.args.units.now) c.version_after.ensures
