use Rattle.std.proofs.Common.{sym, ap, ◌∙◌}
use Rattle.std.proofs.lemmas.Result.{err_from_is_err_and}
use Rattle.rk_bytes.specs.Model.VersionEdit.{edit_fields}
use Rattle.rk_version.specs.Undone.{before_edits}
use Rattle.rk_version.proofs.Restoring.{before_last}
use Rattle.rk_version.proofs.UnitLemmas.{one_edit, bad_edit, last_edit}
use Rattle.rk_version.proofs.undo.apply_edits_undo.Goals as goal

pub returns-in_err-next-in-Ok : goal.returns-in_err-next-in-Ok
returns-in_err-next-in-Ok c =
    let told = err_from_is_err_and c.from_residual.result c.from_residual.ensures.1 in
    rw (told.1, told.2) (λ why_not. bad_edit c.args.pieces.now c.loop-piece.piece-index c.piece-item.result c.in-Ok.view c.loop-piece-test.true c.piece-item.is
    (sym (c.in-Ok.ensures ∙ ap edit_fields c.as_slice.ensures)) c.loop-piece.draft _ _ (c.in_err-next-in-Ok.ensures why_not) c.loop-piece.invariant.0)

pub loop-piece-preserved : goal.loop-piece-preserved
loop-piece-preserved c = (
  one_edit c.args.pieces.now c.loop-piece.piece-index c.piece-item.result c.in-Ok.view c.loop-piece-test.true c.piece-item.is
      (sym (c.in-Ok.ensures ∙ ap edit_fields c.as_slice.ensures)) c.loop-piece.draft c.in_ok-next-in-Ok.next _ c.in_ok-next-in-Ok.ensures.0 c.loop-piece.invariant.0,
  ap (λ edits. before_edits edits c.in_ok-next-in-Ok.next) c.in_ok-keep_one-in-Ok.ensures.kept ∙ before_last c.loop-piece.edits c.in_ok-next-in-Ok.kept c.in_ok-next-in-Ok.next
      ∙ ap (before_edits c.loop-piece.edits) c.in_ok-next-in-Ok.ensures.1 ∙ c.loop-piece.invariant.1,
)

pub returns : goal.returns
returns c = (last_edit c.args.pieces.now c.loop-piece.piece-index c.loop-piece.draft _ c.loop-piece-test.false c.loop-piece.invariant.0, c.loop-piece.invariant.1)
