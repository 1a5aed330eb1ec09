use Rattle.std.proofs.Common.{sym, ap, ◌∙◌}
use Rattle.rk_bytes.specs.Model.Manifest.{drop_family}
use Rattle.rk_version.specs.Rankings.{rankings_of}
use Rattle.rk_version.proofs.VersionOrder.{order_families, order_family_dropped}
use Rattle.rk_version.proofs.draft.Draft.without_family.Goals as goal

pub invariant_of-result : goal.invariant_of-result
invariant_of-result c =
    let before = c.self.inside.version in
    record {
      order = order_families before c.without_family.result (drop_family c.args.id before.families) (order_family_dropped c.args.id before.families)
          (c.without_family.ensures ∙ ap (drop_family c.args.id) c.replace-families.ensures.value) c.self.invariant.order;
      kept = c.without_family-rankings.ensures ∙ ap (λ families. rankings_of (drop_family c.args.id families)) c.as_slice.ensures ∙ ap rankings_of (sym c.without_family.ensures);
    }
