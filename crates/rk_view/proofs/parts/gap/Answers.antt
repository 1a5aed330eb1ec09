use Rattle.std.proofs.Common.{◌∙◌, ◌-◌, length, sym, ap}
use Rattle.std.specs.Prelude.{slice_get}
use Rattle.rk_view.specs.Parts.{ends_before}
use Rattle.rk_view.proofs.PartLemmas.{gap_at, behind_all, before_part}
use Rattle.rk_view.proofs.parts.gap.Goals as goal

pub returns-then-ends_before : goal.returns-then-ends_before
returns-then-ends_before c =
    let parts = c.args.parts.now in
    let list = c.args.records.now in
    let at = c.part_from-at.result in
    let here = c.in-Some.ensures.lookup.3 in
    let ends = ap (λ xs. ends_before (slice_get list (length list - 1)) (slice_get xs 0)) (sym c.as_slice.ensures.value) ∙ sym c.ends_before.ensures ∙ c.if-ends_before.true in
    gap_at parts list at c.in_ok-first.first.now c.requires.parts.run c.requires.records c.in_ok-first.ensures.value c.part_from-at.ensures.bound c.part_from-at.ensures.at
    (before_part parts list at c.in-Some.part.now c.requires.parts.run c.requires.records here.0 here.1 ends)

pub returns-in-None : goal.returns-in-None
returns-in-None c =
    let parts = c.args.parts.now in
    let list = c.args.records.now in
    let at = c.part_from-at.result in
    gap_at parts list at c.in_ok-first.first.now c.requires.parts.run c.requires.records c.in_ok-first.ensures.value c.part_from-at.ensures.bound c.part_from-at.ensures.at
    (behind_all parts list at c.in-None.ensures.lookup.3)
