use Rattle.std.proofs.Common.{sym, ap, ◌∙◌}
use Rattle.std.proofs.lemmas.Result.{err_from_is_err_and}
use Rattle.rk_bytes.specs.Model.Manifest.{steps_in_order, edit_step}
use Rattle.rk_version.specs.Units.{edits_of, meaning}
use Rattle.rk_version.proofs.UnitLemmas.{stopped, overlapping, finished}
use Rattle.rk_version.proofs.undo.apply_unit_undo.Goals as goal

pub returns-in_err-next : goal.returns-in_err-next
returns-in_err-next c =
    let told = err_from_is_err_and c.from_residual.result c.from_residual.ensures.1 in
    let pieces = ap (λ pieces. steps_in_order edit_step (edits_of pieces) c.args.draft) c.as_slice.ensures in
    rw (told.1, told.2) (λ why_not. stopped (meaning c.args.unit.now) c.args.draft _ (sym pieces ∙ c.in_err-next.ensures why_not))

pub returns-in_err-check_overlap : goal.returns-in_err-check_overlap
returns-in_err-check_overlap c =
    let told = err_from_is_err_and c.from_residual-in_err-check_overlap.result c.from_residual-in_err-check_overlap.ensures.1 in
    let pieces = ap (λ pieces. steps_in_order edit_step (edits_of pieces) c.args.draft) c.as_slice.ensures in
    rw (told.1, told.2) (λ why_not. overlapping (meaning c.args.unit.now) c.args.draft c.in_ok-next.next _ (sym pieces ∙ c.in_ok-next.ensures.0) (c.in_err-check_overlap.ensures why_not))

pub returns : goal.returns
returns c =
    let pieces = ap (λ pieces. steps_in_order edit_step (edits_of pieces) c.args.draft) c.as_slice.ensures in
    (finished (meaning c.args.unit.now) c.args.draft c.in_ok-next.next (sym pieces ∙ c.in_ok-next.ensures.0) c.in_ok-check_overlap.ensures, c.in_ok-next.ensures.1)
