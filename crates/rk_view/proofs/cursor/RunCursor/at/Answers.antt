use Rattle.std.proofs.Common.{◌∙◌, ◌++◌, ◌+◌, ◌-◌, ◌≤◌, List, length, take_all, length-drop, drop, arith, subst, sym, ap}
use Rattle.std.specs.Prelude.{filter, Vec}
use Rattle.std.specs.declared.alloc.Global.{Global}
use Rattle.rk_bytes.specs.declared.model.key.Record.{Record}
use Rattle.rk_view.specs.Maps.{IsRun}
use Rattle.rk_view.specs.Places.{is_after}
use Rattle.rk_view.specs.Parts.{joined}
use Rattle.rk_view.proofs.SlotOrder.{after_rises}
use Rattle.rk_view.proofs.PartLemmas.{part_run_at}
use Rattle.rk_view.proofs.CursorLemmas.{kept_from, none_kept}
use Rattle.rk_view.proofs.cursor.RunCursor.at.Goals as goal

pub after-requires : goal.after-requires
after-requires c =
    let here = c.in-Some.ensures.lookup.3 in
    subst IsRun (sym c.as_slice.ensures.value) (part_run_at c.parts-parts.result.now c.part_after-index.result c.in-Some.part.now here.0 here.1 c.parts-parts.ensures.parts.run)

pub returns-in-Some : goal.returns-in-Some
returns-in-Some c =
    let place = c.args.place.now in
    let p = is_after place.family place.user.now place.below in
    let parts : List (Vec Record Global) = c.parts-parts.result.now in
    let next = c.part_after-index.result + 1 in
    let here = c.in-Some.ensures.lookup.3 in
    let long : length (drop next parts) ≤ length parts - next = omega (arith, length-drop next parts) in
    (λ i. (c.after.ensures ∙ ap (filter p) c.as_slice.ensures.value) i ++ joined (take_all (length parts - next) (drop next parts) long i))
    ∙ kept_from p (after_rises place.family place.user.now place.below) parts c.part_after-index.result c.in-Some.part.now c.parts-parts.ensures.parts.run.rises c.part_after-index.ensures.at here.0 here.1
    ∙ ap (filter p) c.parts-parts.ensures.records

pub returns-in-None : goal.returns-in-None
returns-in-None c =
    let place = c.args.place.now in
    let p = is_after place.family place.user.now place.below in
    none_kept p (after_rises place.family place.user.now place.below) c.parts-parts.result.now c.part_after-index.result c.parts-parts.ensures.parts.run.rises c.part_after-index.ensures.at c.in-None.ensures.lookup.3
    ∙ ap (filter p) c.parts-parts.ensures.records
