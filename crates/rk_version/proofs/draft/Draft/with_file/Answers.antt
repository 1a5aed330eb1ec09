use Rattle.std.proofs.Common.{List, map, cond, sym, ap, ◌∙◌}
use Rattle.rk_bytes.specs.declared.model.manifest.FamilyState.{FamilyState}
use Rattle.rk_bytes.specs.Model.Manifest.{has_id, add_meta}
use Rattle.rk_version.specs.Rankings.{rankings_of}
use Rattle.rk_version.proofs.VersionOrder.{order_families, order_file_added}
use Rattle.rk_version.proofs.draft.Draft.with_file.Goals as goal

pub invariant_of-result : goal.invariant_of-result
invariant_of-result c =
    let before = c.self.inside.version in
    let change : List FamilyState → List FamilyState = map (λ live. cond (has_id c.args.id live) (record live { files = add_meta c.args.file live.files }) live) in
    record {
      order = order_families before c.in_ok-version.field-0 (change before.families) (order_file_added c.args.id c.args.file before.families c.requires.bounds)
          (c.in_ok-version.ensures ∙ ap change c.replace-families.ensures.value) c.self.invariant.order;
      kept = c.in_ok-rankings.ensures ∙ ap (λ families. rankings_of (change families)) c.as_slice.ensures ∙ ap rankings_of (sym c.in_ok-version.ensures);
    }
