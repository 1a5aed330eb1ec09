use Rattle.std.proofs.Common.{List, sym, ap, ◌∙◌}
use Rattle.rk_version.specs.declared.kept.KeptEdit.{KeptEdit}
use Rattle.rk_version.specs.Undone.{before_edits}
use Rattle.rk_version.proofs.Restoring.{before_last}
use Rattle.rk_version.proofs.undo.undo_edits.Goals as goal

pub loop-last-preserved : goal.loop-last-preserved
loop-last-preserved c =
    ap (before_edits c.in-Some.front.now) c.in_ok-draft.ensures ∙ sym (before_last c.in-Some.front.now c.in-Some.last.now c.loop-last.draft)
    ∙ ap (λ (rest : List KeptEdit). before_edits rest c.loop-last.draft) (sym c.in-Some.ensures.cases.0) ∙ c.loop-last.invariant
