use Rattle.std.proofs.Common.{List, map, cond, sym, ap, ◌∙◌}
use Rattle.rk_bytes.specs.declared.model.manifest.FamilyState.{FamilyState}
use Rattle.rk_bytes.specs.Model.Manifest.{has_id}
use Rattle.rk_version.specs.Rankings.{rankings_of}
use Rattle.rk_version.specs.Undone.{family_before}
use Rattle.rk_version.proofs.Restoring.{order_family_before}
use Rattle.rk_version.proofs.VersionOrder.{order_families}
use Rattle.rk_version.proofs.draft.Draft.with_family_before.Goals as goal

pub invariant_of-result : goal.invariant_of-result
invariant_of-result c =
    let before = c.self.inside.version in
    let change : List FamilyState → List FamilyState = map (λ live. cond (has_id c.args.id live) (family_before c.args.kept.now live) live) in
    record {
      order = order_families before c.in_ok-families.families (change before.families) (order_family_before c.args.id c.args.kept.now before.families)
          (c.in_ok-families.ensures.families ∙ ap change c.replace-families.ensures.value) c.self.invariant.order;
      kept = c.in_ok-families.ensures.rankings ∙ ap rankings_of (sym c.in_ok-families.ensures.families);
    }
