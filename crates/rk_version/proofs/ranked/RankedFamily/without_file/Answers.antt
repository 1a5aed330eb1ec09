use Rattle.std.proofs.Common.{List, not, filter, sym, ap, subst, ◌∙◌}
use Rattle.std.specs.List.{AllByRecursion}
use Rattle.rk_bytes.specs.declared.model.manifest.FileMeta.{FileMeta}
use Rattle.rk_bytes.specs.Model.Manifest.{has_number}
use Rattle.rk_version.specs.Bounds.{HasWholeBounds}
use Rattle.rk_version.specs.Places.{Rises}
use Rattle.rk_version.specs.Rankings.{ranking_of}
use Rattle.rk_version.proofs.Each.{each_filter}
use Rattle.rk_version.proofs.Rising.{rises_filter}
use Rattle.rk_version.proofs.ranked.RankedFamily.without_file.Goals as goal

pub invariant_of-result : goal.invariant_of-result
invariant_of-result c =
    let files = c.self.inside.live.files in
    let order = c.self.invariant.order in
    let left : List FileMeta → List FileMeta = filter (λ file. not (has_number c.args.number file)) in
    let are = c.without_file.ensures ∙ ap left c.replace-files.ensures.value in
    record {
      order = record {
        rise = subst (Rises (λ file. file.number)) (sym are) (rises_filter (λ (file : FileMeta). file.number) (λ file. not (has_number c.args.number file)) files order.rise);
        bounds = subst (AllByRecursion HasWholeBounds) (sym are) (each_filter HasWholeBounds (λ file. not (has_number c.args.number file)) files order.bounds);
      };
      kept = c.without_file-ranking.ensures ∙ ap ranking_of (sym are);
    }
