use Rattle.std.proofs.Common.{sym, ap, ◌∙◌}
use Rattle.rk_bytes.specs.Model.Manifest.{add_family}
use Rattle.rk_version.specs.Rankings.{rankings_of}
use Rattle.rk_version.proofs.VersionOrder.{order_families, order_family_added}
use Rattle.rk_version.proofs.draft.Draft.with_family.Goals as goal

pub invariant_of-result : goal.invariant_of-result
invariant_of-result c =
    let before = c.self.inside.version in
    let name = c.args.name.now in
    record {
      order = order_families before c.in_ok-version.field-0 (add_family c.args.id name before.families) (order_family_added c.args.id name before.families)
          (c.in_ok-version.ensures ∙ ap (add_family c.args.id name) c.replace-families.ensures.value) c.self.invariant.order;
      kept = c.in_ok-rankings.ensures name ∙ ap (λ families. rankings_of (add_family c.args.id name families)) c.as_slice.ensures ∙ ap rankings_of (sym c.in_ok-version.ensures);
    }
