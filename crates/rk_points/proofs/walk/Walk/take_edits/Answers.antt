use Rattle.std.proofs.Common.{sym, ap, subst, ◌∙◌}
use Rattle.rk_bytes.specs.Model.VersionEdit.{edit_fields}
use Rattle.rk_version.specs.Units.{edits_of}
use Rattle.rk_points.specs.Walks.{Reached}
use Rattle.rk_points.proofs.ListLemmas.{none_left}
use Rattle.rk_points.proofs.WalkLemmas.{reaches_edit}
use Rattle.rk_points.proofs.walk.Walk.take_edits.Goals as goal

pub loop-piece-preserved : goal.loop-piece-preserved
loop-piece-preserved c = λ units answers last coming enough r.
    reaches_edit units answers enough c.args.at c.args.pieces.now c.loop-piece.piece-index c.piece-item.result c.in-Ok.view last coming c.loop-piece.self c.take_edit.new.self c.loop-piece-test.true c.piece-item.is
    (sym (c.in-Ok.ensures ∙ ap edit_fields c.as_slice.ensures)) c.in_ok-take_edit-in-Ok.ensures (c.loop-piece.invariant units answers last coming enough r)

pub returns : goal.returns
returns c = λ units answers last coming enough r.
    subst (λ pieces. Reached units answers c.args.at last coming (edits_of pieces) c.loop-piece.self) (none_left c.args.pieces.now c.loop-piece.piece-index c.loop-piece-test.false) (c.loop-piece.invariant units answers last coming enough r)
