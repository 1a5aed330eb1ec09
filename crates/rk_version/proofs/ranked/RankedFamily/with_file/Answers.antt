use Rattle.std.proofs.Common.{◌∷◌, nat_lt, filter, sym, ap, subst, ◌∙◌}
use Rattle.std.specs.List.{AllByRecursion, list_any}
use Rattle.rk_bytes.specs.declared.model.manifest.FamilyState.{FamilyState}
use Rattle.rk_bytes.specs.declared.model.manifest.FileMeta.{FileMeta}
use Rattle.rk_bytes.specs.Model.Manifest.{has_number, add_meta}
use Rattle.rk_version.specs.Bounds.{HasWholeBounds}
use Rattle.rk_version.specs.Places.{Rises}
use Rattle.rk_version.specs.Rankings.{ranking_of}
use Rattle.rk_version.proofs.Each.{each_append, each_filter}
use Rattle.rk_version.proofs.Keyed.{gone_of, put_again}
use Rattle.rk_version.proofs.Rising.{rises_with}
use Rattle.rk_version.proofs.ranked.RankedFamily.with_file.Goals as goal

pub with_file-requires-clause-free : goal.with_file-requires-clause-free
with_file-requires-clause-free c =
    ap (λ (live : FamilyState). list_any (has_number c.args.file.number) live.files) (c.live.view_is ∙ c.without_file.ensures) ∙ gone_of (λ (file : FileMeta). file.number) c.args.file.number c.args.self.files

pub with_file-requires-2-clause-free : goal.with_file-requires-2-clause-free
with_file-requires-2-clause-free c =
    ap (list_any (has_number c.args.file.number)) c.replace-files.ensures.value
    ∙ ap (λ (live : FamilyState). list_any (has_number c.args.file.number) live.files) (c.live.view_is ∙ c.without_file.ensures) ∙ gone_of (λ (file : FileMeta). file.number) c.args.file.number c.args.self.files

pub invariant_of-result : goal.invariant_of-result
invariant_of-result c =
    let files = c.live.inside.live.files in
    let new = c.args.file in
    let order = c.live.invariant.order in
    let are = c.in_ok-live.ensures ∙ ap (add_meta new) c.replace-files.ensures.value in
    record {
      order = record {
        rise = subst (Rises (λ file. file.number)) (sym are) (rises_with (λ (file : FileMeta). file.number) new files order.rise);
        bounds = subst (AllByRecursion HasWholeBounds) (sym are) (each_append HasWholeBounds (filter (λ (file : FileMeta). nat_lt file.number new.number) files) (new ∷ filter (λ (file : FileMeta). nat_lt new.number file.number) files)
            (each_filter HasWholeBounds (λ file. nat_lt file.number new.number) files order.bounds)
            (c.requires, each_filter HasWholeBounds (λ file. nat_lt new.number file.number) files order.bounds));
      };
      kept = c.in_ok-ranking.ensures ∙ ap ranking_of (sym are);
    }

pub returns : goal.returns
returns c =
    let live = c.live.view_is ∙ c.without_file.ensures in
    let files = c.in_ok-live.ensures ∙ ap (add_meta c.args.file) (c.replace-files.ensures.value ∙ ap (λ (live : FamilyState). live.files) live) ∙ put_again (λ (file : FileMeta). file.number) c.args.file c.args.self.files in
    λ i. record { id = (live i).id; name = (live i).name; log = (live i).log; files = files i }
