use Rattle.std.proofs.Common.{List, [], ◌∷◌, ◌++◌, map, take, get_or, sym, ap, ◌∙◌}
use Rattle.std.proofs.lemmas.List.{take_more, map-append}
use Rattle.rk_bytes.specs.declared.model.manifest.FileMeta.{FileMeta}
use Rattle.rk_bytes.specs.declared.model.view.Point.{Point}
use Rattle.rk_points.proofs.at_points.no_files.Goals as goal

pub loop-preserved : goal.loop-preserved
loop-preserved c =
    let points = c.args.points.now in
    let i = c.loop.index in
    let none : Point = record { family = 0; at = 0 } in
    let no_files = λ (point : Point). let files : List FileMeta = [] in files in
    c.in_ok-push.ensures.items
    ∙ (λ j. c.loop.invariant j ++ c.new.ensures j ∷ [])
    ∙ sym (ap (map no_files) (take_more points i none c.loop-test.true) ∙ map-append no_files (take i points) (get_or points i none ∷ []))
