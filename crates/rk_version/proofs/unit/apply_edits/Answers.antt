use Rattle.std.proofs.Common.{sym, ap, ◌∙◌}
use Rattle.std.proofs.lemmas.Result.{err_from_is_err_and}
use Rattle.rk_bytes.specs.Model.VersionEdit.{edit_fields}
use Rattle.rk_version.proofs.UnitLemmas.{one_edit, bad_edit, last_edit}
use Rattle.rk_version.proofs.unit.apply_edits.Goals as goal

pub returns-in_err-draft-in-Ok : goal.returns-in_err-draft-in-Ok
returns-in_err-draft-in-Ok c =
    let told = err_from_is_err_and c.from_residual.result c.from_residual.ensures.1 in
    rw (told.1, told.2) (λ why_not. bad_edit c.args.pieces.now c.loop-piece.piece-index c.piece-item.result c.in-Ok.view c.loop-piece-test.true c.piece-item.is
    (sym (c.in-Ok.ensures ∙ ap edit_fields c.as_slice.ensures)) c.loop-piece.draft _ _ (c.in_err-draft-in-Ok.ensures why_not) c.loop-piece.invariant)

pub loop-piece-preserved : goal.loop-piece-preserved
loop-piece-preserved c =
    one_edit c.args.pieces.now c.loop-piece.piece-index c.piece-item.result c.in-Ok.view c.loop-piece-test.true c.piece-item.is
    (sym (c.in-Ok.ensures ∙ ap edit_fields c.as_slice.ensures)) c.loop-piece.draft c.in_ok-draft-in-Ok.draft _ c.in_ok-draft-in-Ok.ensures c.loop-piece.invariant

pub returns : goal.returns
returns c = last_edit c.args.pieces.now c.loop-piece.piece-index c.loop-piece.draft _ c.loop-piece-test.false c.loop-piece.invariant
