use Rattle.std.proofs.Common.{◌≡◌, List, map, sym, ap, ◌∙◌, subst}
use Rattle.std.specs.Prelude.{IfSome}
use Rattle.std.specs.FinMap.{get}
use Rattle.std.specs.List.{AllByRecursion}
use Rattle.rk_bytes.specs.declared.model.manifest.FileMeta.{FileMeta}
use Rattle.rk_bytes.specs.Model.BestEfforts.{answers_pass, best_points, is_whole_in, IsVector}
use Rattle.rk_bytes.specs.Model.DiskImages.{contents_told}
use Rattle.rk_version.specs.Bounds.{HasWholeBounds}
use Rattle.rk_version.specs.Units.{meaning}
use Rattle.rk_open.proofs.BestLemmas.{points_told}
use Rattle.rk_open.proofs.PlacedLemmas.{listed_whole_bounds}
use Rattle.rk_open.proofs.best_manifest.whole_points.Goals as goal

pub test_files-requires : goal.test_files-requires
test_files-requires g c = subst (AllByRecursion HasWholeBounds) (sym (c.as_slice.ensures ∙ c.in-Ok.ensures)) (listed_whole_bounds c.args.units.now)

pub returns-in-Ok-best_points-clause-points : goal.returns-in-Ok-best_points-clause-points
returns-in-Ok-best_points-clause-points g c =
    let o = contents_told (g.D.Disk.told c.args.disk.now) in
    let units = map meaning c.args.units.now in
    let answers = c.in_ok-answers.field-0.answers.items in
    points_told o units answers c.in-Ok-best_points.points (c.answers_of_a_test.ensures units) (c.in-Ok-best_points.ensures ∙ ap (λ answers. best_points units (answers_pass answers units)) c.as_slice-2.ensures.value)
    (subst (λ (files : List FileMeta). IfSome o (λ d. answers ≡ map (is_whole_in (get d)) files)) (c.as_slice.ensures ∙ c.in-Ok.ensures) c.in_ok-answers.ensures.answers)

pub returns-in-Ok-best_points-clause-vector : goal.returns-in-Ok-best_points-clause-vector
returns-in-Ok-best_points-clause-vector g c =
    let units = map meaning c.args.units.now in
    let answers = c.as_slice-2.result.now in
    subst (IsVector units) (sym c.in-Ok-best_points.ensures) (c.one_best_vector.ensures.exists units (answers_pass answers units) (λ id. c.one_best_vector.ensures.of_answers units answers id)).qualifies.vector
