use Rattle.std.proofs.Common.{List, map, filter, not, cond, sym, ap, ◌∙◌}
use Rattle.rk_bytes.specs.declared.model.manifest.FamilyState.{FamilyState}
use Rattle.rk_bytes.specs.Model.Manifest.{has_id, has_number}
use Rattle.rk_version.specs.Rankings.{rankings_of}
use Rattle.rk_version.proofs.VersionOrder.{order_families, order_file_deleted}
use Rattle.rk_version.proofs.draft.Draft.without_file.Goals as goal

pub invariant_of-result : goal.invariant_of-result
invariant_of-result c =
    let before = c.self.inside.version in
    let change : List FamilyState → List FamilyState = map (λ live. cond (has_id c.args.id live) (record live { files = filter (λ file. not (has_number c.args.number file)) live.files }) live) in
    record {
      order = order_families before c.without_file.result (change before.families) (order_file_deleted c.args.id c.args.number before.families)
          (c.without_file.ensures ∙ ap change c.replace-families.ensures.value) c.self.invariant.order;
      kept = c.without_file-rankings.ensures ∙ ap (λ families. rankings_of (change families)) c.as_slice.ensures ∙ ap rankings_of (sym c.without_file.ensures);
    }
