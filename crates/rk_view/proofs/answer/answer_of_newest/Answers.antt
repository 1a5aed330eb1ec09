use Rattle.std.proofs.Common.{◌∷◌, ◌∙◌}
use Rattle.rk_bytes.specs.declared.model.key.Record.{Record}
use Rattle.rk_bytes.specs.Model.InternalKey.{packed_of}
use Rattle.rk_bytes.specs.Model.KeyView.{merge, deciding, operands, base_value}
use Rattle.rk_view.specs.Sources.{merged}
use Rattle.rk_view.specs.Shown.{shown_below}
use Rattle.rk_view.proofs.NextLemmas.{merge_answer}
use Rattle.rk_view.proofs.answer.answer_of_newest.Goals as goal

pub returns-in_ok-merges_from-in-Merge-clause-shown : goal.returns-in_ok-merges_from-in-Merge-clause-shown
returns-in_ok-merges_from-in-Merge-clause-shown c =
    let newest : Record = c.args.newest.now in
    let tombs = c.args.tombs.now in
    (λ i. merge (c.in_ok-merges_from-in-Merge.ensures.values i) (c.in_ok-merges_from-in-Merge.ensures.base i))
    ∙ (λ i. merge (newest.value ∷ operands (deciding (shown_below tombs newest.family newest.key (packed_of newest.sequence newest.kind) (merged (c.copy-behind.ensures i))))) (base_value (deciding (shown_below tombs newest.family newest.key (packed_of newest.sequence newest.kind) (merged (c.copy-behind.ensures i))))))
    ∙ merge_answer newest (shown_below tombs newest.family newest.key (packed_of newest.sequence newest.kind) (merged c.args.cursors.now)) c.in-Merge.is
