use Rattle.std.proofs.Common.{◌≡◌, ◌∙◌, ◌++◌, ◌∷◌, ◌^◌, [], ap, sym, append_assoc, List}
use Rattle.std.specs.Prelude.{filter}
use Rattle.std.specs.FinMap.{values}
use Rattle.rk_bytes.specs.declared.model.key.Record.{Record}
use Rattle.rk_bytes.specs.Model.KeyView.{deciding}
use Rattle.rk_view.specs.Places.{is_after}
use Rattle.rk_view.specs.Sources.{merged}
use Rattle.rk_view.specs.Shown.{shown_below}
use Rattle.rk_view.proofs.DecideLemmas.{deciding-merge}
use Rattle.rk_view.proofs.NextLemmas.{all_decide}
use Rattle.rk_view.proofs.answer.view_records.Goals as goal

pub loop-next-init : goal.loop-next-init
loop-next-init c =
    let state = c.args.state.now.state in
    let here : merged c.of-cursors.result ≡ filter (is_after c.args.family c.args.key.now (2 ^ 64)) (values state.records) =
    c.of-cursors.ensures.left ∙ (λ i. filter (is_after (c.all_of.ensures.family i) (c.all_of.ensures.user i) (c.all_of.ensures.below i)) (values state.records)) in
    ap (λ rs. rs ++ deciding (shown_below state.tombs c.args.family c.args.key.now (2 ^ 64) (merged c.of-cursors.result))) c.new-records.ensures
    ∙ all_decide state c.args.family c.args.key.now (merged c.of-cursors.result) c.of-cursors.ensures.values here

pub loop-next-preserved : goal.loop-next-preserved
loop-next-preserved c =
    let tombs = c.args.state.now.state.tombs in
    let family = c.args.family in
    let key = c.args.key.now in
    let next : Record = c.in-Some.next.now in
    let rest : List Record = deciding (shown_below tombs family key c.number-below.result (merged c.next_shown.new.self)) in
    let below : shown_below tombs family key c.loop-next.below (merged c.loop-next.cursors) ≡ next ∷ shown_below tombs family key c.number-below.result (merged c.next_shown.new.self) =
    (λ i. shown_below (sym c.tombs.ensures i) family key c.loop-next.below (merged c.loop-next.cursors)) ∙ c.in-Some.ensures.rest
    ∙ (λ i. next ∷ shown_below (c.tombs.ensures i) family key (sym c.number-below.ensures i) (merged c.next_shown.new.self)) in
    ap (λ rs. rs ++ rest) (c.in_ok-push-in-Merge.ensures.ok ∙ ap (λ r. c.loop-next.records ++ r ∷ []) c.in_ok-copy-in-Merge.ensures) ∙ append_assoc c.loop-next.records (next ∷ []) rest
    ∙ ap (λ rs. c.loop-next.records ++ rs) (sym (ap deciding below ∙ deciding-merge next _ c.in-Merge.is)) ∙ c.loop-next.invariant
