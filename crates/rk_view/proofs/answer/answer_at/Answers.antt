use Rattle.std.proofs.Common.{◌≡◌, ◌∷◌, ◌∙◌, sym, ap, subst, true, List, ℕ}
use Rattle.std.specs.Prelude.{IfOk, OnErr}
use Rattle.rk_bytes.specs.declared.model.key.Record.{Record}
use Rattle.rk_bytes.specs.declared.model.view.Tomb.{Tomb}
use Rattle.rk_bytes.specs.Model.InternalKey.{packed_of}
use Rattle.rk_bytes.specs.Model.KeyView.{Answer, shown, deciding}
use Rattle.rk_view.specs.Sources.{merged}
use Rattle.rk_view.specs.Shown.{answer_of, is_merged, answer_in, shown_below, IsNextShown}
use Rattle.rk_view.proofs.ValuesLemmas.{values-run}
use Rattle.rk_view.proofs.NextLemmas.{numbered_first, newest_answer, hidden_answer}
use Rattle.rk_view.proofs.answer.answer_at.Goals as goal

pub is_shown-requires : goal.is_shown-requires
is_shown-requires c = numbered_first c.args.tombs.now (merged c.args.cursors.now) c.args.first.now (values-run c.args.cursors.now c.requires.runs) c.requires.first

pub returns-then-is_shown-clause-shown : goal.returns-then-is_shown-clause-shown
returns-then-is_shown-clause-shown c =
    let newest = newest_answer c.args.tombs.now (merged c.args.cursors.now) c.args.first.now (values-run c.args.cursors.now c.requires.runs) c.requires.first (sym c.is_shown.ensures ∙ c.if-is_shown.true) in
    subst (λ (a : Answer). IfOk c.answer_of_newest.result (λ shown. answer_of shown ≡ a)) newest c.answer_of_newest.ensures.shown

pub returns-then-is_shown-clause-memory : goal.returns-then-is_shown-clause-memory
returns-then-is_shown-clause-memory c =
    let newest = newest_answer c.args.tombs.now (merged c.args.cursors.now) c.args.first.now (values-run c.args.cursors.now c.requires.runs) c.requires.first (sym c.is_shown.ensures ∙ c.if-is_shown.true) in
    subst (λ (a : Answer). OnErr c.answer_of_newest.result (is_merged a ≡ true)) newest c.answer_of_newest.ensures.memory

-- the next record that is shown, after a hidden one
next_answer : (tombs : List Tomb) (first newest : Record) (key : List ℕ) (below : ℕ) (run ahead left : List Record) → key ≡ first.key → below ≡ packed_of first.sequence first.kind → ahead ≡ run
    → shown (deciding (shown_below tombs first.family first.key (packed_of first.sequence first.kind) run)) ≡ answer_in tombs first.family first.key run
    → IsNextShown tombs first.family key below ahead left newest
    → shown (deciding (newest ∷ shown_below tombs newest.family newest.key (packed_of newest.sequence newest.kind) left)) ≡ answer_in tombs first.family first.key run
next_answer tombs first newest key below run ahead left k b a behind next =
    (λ i. shown (deciding (newest ∷ shown_below tombs (next.family_is i) (next.key_is i) (packed_of newest.sequence newest.kind) left)))
    ∙ sym (ap (λ rs. shown (deciding rs)) next.rest) ∙ (λ i. shown (deciding (shown_below tombs first.family (k i) (b i) (a i)))) ∙ behind

pub returns-in-Some-clause-shown : goal.returns-in-Some-clause-shown
returns-in-Some-clause-shown c =
    let behind = hidden_answer c.args.tombs.now (merged c.args.cursors.now) c.args.first.now (values-run c.args.cursors.now c.requires.runs) c.requires.first (sym c.is_shown.ensures ∙ c.if-is_shown.false) in
    let next = next_answer c.args.tombs.now c.args.first.now c.in-Some.newest.now c.as_slice.result.now c.number.result (merged c.args.cursors.now) (merged c.copy-ahead.result) (merged c.next_shown.new.self) c.as_slice.ensures c.number.ensures (ap merged c.copy-ahead.ensures) behind c.in-Some.ensures in
    subst (λ (a : Answer). IfOk c.answer_of_newest-in-Some.result (λ shown. answer_of shown ≡ a)) next c.answer_of_newest-in-Some.ensures.shown

pub returns-in-Some-clause-memory : goal.returns-in-Some-clause-memory
returns-in-Some-clause-memory c =
    let behind = hidden_answer c.args.tombs.now (merged c.args.cursors.now) c.args.first.now (values-run c.args.cursors.now c.requires.runs) c.requires.first (sym c.is_shown.ensures ∙ c.if-is_shown.false) in
    let next = next_answer c.args.tombs.now c.args.first.now c.in-Some.newest.now c.as_slice.result.now c.number.result (merged c.args.cursors.now) (merged c.copy-ahead.result) (merged c.next_shown.new.self) c.as_slice.ensures c.number.ensures (ap merged c.copy-ahead.ensures) behind c.in-Some.ensures in
    subst (λ (a : Answer). OnErr c.answer_of_newest-in-Some.result (is_merged a ≡ true)) next c.answer_of_newest-in-Some.ensures.memory

pub returns-in-None-clause-shown : goal.returns-in-None-clause-shown
returns-in-None-clause-shown c =
    let first : Record = c.args.first.now in
    let tombs = c.args.tombs.now in
    let behind = hidden_answer tombs (merged c.args.cursors.now) first (values-run c.args.cursors.now c.requires.runs) c.requires.first (sym c.is_shown.ensures ∙ c.if-is_shown.false) in
    sym (ap (λ rs. shown (deciding rs)) c.in-None.ensures) ∙ (λ i. shown (deciding (shown_below tombs first.family (c.as_slice.ensures i) (c.number.ensures i) (merged (c.copy-ahead.ensures i))))) ∙ behind
