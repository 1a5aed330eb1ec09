use Rattle.std.proofs.Common.{◌≡◌, ◌∙◌, ◌^◌, sym, subst, true}
use Rattle.std.specs.Prelude.{filter, IfOk, OnErr}
use Rattle.std.specs.FinMap.{values}
use Rattle.rk_bytes.specs.declared.model.key.Record.{Record}
use Rattle.rk_bytes.specs.Model.KeyView.{Answer, answer}
use Rattle.rk_view.specs.Places.{is_after}
use Rattle.rk_view.specs.Sources.{merged}
use Rattle.rk_view.specs.Shown.{answer_of, is_merged, answer_in}
use Rattle.rk_view.proofs.ViewLemmas.{at_key, not_at}
use Rattle.rk_view.proofs.NextLemmas.{all_answer, none_answer, elsewhere_answer}
use Rattle.rk_view.proofs.answer.view_get.Goals as goal

pub returns-in-None-clause-shown : goal.returns-in-None-clause-shown
returns-in-None-clause-shown c =
    let here : merged c.of-cursors.result ≡ filter (is_after c.args.family c.args.key.now (2 ^ 64)) (values c.args.state.now.state.records) =
    c.of-cursors.ensures.left ∙ (λ i. filter (is_after (c.all_of.ensures.family i) (c.all_of.ensures.user i) (c.all_of.ensures.below i)) (values c.args.state.now.state.records)) in
    none_answer c.args.state.now.state c.args.family c.args.key.now (merged c.of-cursors.result) c.of-cursors.ensures.values here (sym c.in-None.ensures.first)

pub returns-then-is_at-clause-shown : goal.returns-then-is_at-clause-shown
returns-then-is_at-clause-shown c =
    let state = c.args.state.now.state in
    let first : Record = c.in-Some.first.now in
    let here : merged c.of-cursors.result ≡ filter (is_after c.args.family c.args.key.now (2 ^ 64)) (values state.records) =
    c.of-cursors.ensures.left ∙ (λ i. filter (is_after (c.all_of.ensures.family i) (c.all_of.ensures.user i) (c.all_of.ensures.below i)) (values state.records)) in
    let at = at_key c.args.family c.args.key.now first (sym c.is_at.ensures ∙ c.if-is_at.true) in
    let is : answer_in c.tombs.result.now first.family first.key (merged c.of-cursors.result) ≡ answer state c.args.family c.args.key.now =
    (λ i. answer_in (c.tombs.ensures i) (at.0 i) (at.1 i) (merged c.of-cursors.result)) ∙ all_answer state c.args.family c.args.key.now (merged c.of-cursors.result) c.of-cursors.ensures.values here in
    subst (λ (a : Answer). IfOk c.answer_at.result (λ shown. answer_of shown ≡ a)) is c.answer_at.ensures.shown

pub returns-then-is_at-clause-memory : goal.returns-then-is_at-clause-memory
returns-then-is_at-clause-memory c =
    let state = c.args.state.now.state in
    let first : Record = c.in-Some.first.now in
    let here : merged c.of-cursors.result ≡ filter (is_after c.args.family c.args.key.now (2 ^ 64)) (values state.records) =
    c.of-cursors.ensures.left ∙ (λ i. filter (is_after (c.all_of.ensures.family i) (c.all_of.ensures.user i) (c.all_of.ensures.below i)) (values state.records)) in
    let at = at_key c.args.family c.args.key.now first (sym c.is_at.ensures ∙ c.if-is_at.true) in
    let is : answer_in c.tombs.result.now first.family first.key (merged c.of-cursors.result) ≡ answer state c.args.family c.args.key.now =
    (λ i. answer_in (c.tombs.ensures i) (at.0 i) (at.1 i) (merged c.of-cursors.result)) ∙ all_answer state c.args.family c.args.key.now (merged c.of-cursors.result) c.of-cursors.ensures.values here in
    subst (λ (a : Answer). OnErr c.answer_at.result (is_merged a ≡ true)) is c.answer_at.ensures.memory

pub returns-else-is_at-clause-shown : goal.returns-else-is_at-clause-shown
returns-else-is_at-clause-shown c =
    let state = c.args.state.now.state in
    let first : Record = c.in-Some.first.now in
    let here : merged c.of-cursors.result ≡ filter (is_after c.args.family c.args.key.now (2 ^ 64)) (values state.records) =
    c.of-cursors.ensures.left ∙ (λ i. filter (is_after (c.all_of.ensures.family i) (c.all_of.ensures.user i) (c.all_of.ensures.below i)) (values state.records)) in
    elsewhere_answer state c.args.family c.args.key.now (merged c.of-cursors.result) c.of-cursors.ensures.values here first (sym c.in-Some.ensures.first) (not_at c.args.family c.args.key.now first (sym c.is_at.ensures ∙ c.if-is_at.false))
