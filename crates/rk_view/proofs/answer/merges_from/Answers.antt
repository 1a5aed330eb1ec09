use Rattle.std.proofs.Common.{◌≡◌, ◌∙◌, ◌++◌, ◌∷◌, [], ap, sym, append_assoc, List}
use Rattle.rk_bytes.specs.declared.model.key.Record.{Record}
use Rattle.rk_bytes.specs.Model.KeyView.{deciding, operands, base_value}
use Rattle.rk_view.specs.Sources.{merged}
use Rattle.rk_view.specs.Shown.{shown_below}
use Rattle.rk_view.proofs.DecideLemmas.{deciding-merge, operands-merge, base-merge}
use Rattle.rk_view.proofs.answer.merges_from.Goals as goal

pub loop-next-preserved : goal.loop-next-preserved
loop-next-preserved c =
    let newest : Record = c.args.newest.now in
    let next : Record = c.in-Some.next.now in
    let tombs = c.args.tombs.now in
    let now : List Record = shown_below tombs newest.family newest.key c.loop-next.below (merged c.loop-next.behind) in
    let left : List Record = shown_below tombs newest.family newest.key c.number-below-in-Some.result (merged c.next_shown.new.self) in
    let below : now ≡ next ∷ left =
    (λ i. shown_below tombs newest.family (sym c.as_slice-in-loop-next.ensures i) c.loop-next.below (merged c.loop-next.behind)) ∙ c.in-Some.ensures.rest
    ∙ (λ i. next ∷ shown_below tombs newest.family (c.as_slice-in-loop-next.ensures i) (sym c.number-below-in-Some.ensures i) (merged c.next_shown.new.self)) in
    let one : deciding now ≡ next ∷ deciding left = ap deciding below ∙ deciding-merge next left c.in-Merge.is in
    record {
      values =
          ap (λ vs. vs ++ operands (deciding left)) (c.in_ok-push-in-Merge.ensures.ok ∙ ap (λ v. c.loop-next.newest_first ++ v ∷ []) (c.in_ok-value.ensures ∙ c.as_slice-in-Some.ensures))
          ∙ append_assoc c.loop-next.newest_first (next.value ∷ []) (operands (deciding left))
          ∙ ap (λ vs. c.loop-next.newest_first ++ vs) (sym (ap operands one ∙ operands-merge next (deciding left) c.in-Merge.is)) ∙ c.loop-next.invariant.values;
      rest = sym (ap base_value one ∙ base-merge next (deciding left) c.in-Merge.is) ∙ c.loop-next.invariant.rest;
      none = c.loop-next.invariant.none;
    }
