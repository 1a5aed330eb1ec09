use Rattle.std.proofs.Common.{sym, ap, ◌∙◌}
use Rattle.rk_bytes.specs.declared.model.manifest.FamilyState.{FamilyState}
use Rattle.rk_version.specs.Keyed.{put}
use Rattle.rk_version.specs.Rankings.{rankings_of}
use Rattle.rk_version.proofs.Restoring.{order_put}
use Rattle.rk_version.proofs.VersionOrder.{order_families}
use Rattle.rk_version.proofs.draft.Draft.with_live.Goals as goal

pub invariant_of-result : goal.invariant_of-result
invariant_of-result c =
    let before = c.self.inside.version in
    let live = c.into_parts-live.result.0 in
    record {
      order = order_families before c.in_ok-version.field-0 (put (λ live. live.id) live before.families) (order_put live before.families c.into_parts-live.ensures.order)
          (c.in_ok-version.ensures ∙ ap (put (λ (live : FamilyState). live.id) live) c.replace-families.ensures.value) c.self.invariant.order;
      kept = c.in_ok-rankings.ensures ∙ ap (λ families. rankings_of (put (λ (live : FamilyState). live.id) live families)) c.as_slice.ensures ∙ ap rankings_of (sym c.in_ok-version.ensures);
    }
