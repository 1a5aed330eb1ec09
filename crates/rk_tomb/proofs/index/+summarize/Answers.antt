use Rattle.std.proofs.Common.{◌≡◌, ℕ, ◌+◌, ◌-◌, ◌/◌, ◌<◌, List, ◌++◌, length, take, drop, get_or, set, refl, sym, ap, ◌∙◌, subst, arith, length-drop}
use Rattle.std.proofs.lemmas.List.{nil_from_length}
use Rattle.std.proofs.lemmas.List.Elements.{All-drop}
use borrow.Rule.Slice.PartMut.{put_mid}
use Rattle.rk_bytes.specs.declared.model.view.Tomb.{Tomb}
use Rattle.rk_tomb.specs.declared.index.Node.{Node}
use Rattle.rk_tomb.specs.declared.span.Span.{Span}
use Rattle.rk_tomb.specs.Spans.{tomb_at, IsWithin}
use Rattle.rk_tomb.specs.Index.{places, IsPlaced, IsRun}
use Rattle.rk_tomb.proofs.PartLemmas.{IsRun-nil}
use Rattle.rk_tomb.proofs.RunLemmas.{some_from_test, none_from_test}
use Rattle.rk_tomb.proofs.SummaryLemmas.{AllWithin, AllWithin-part, rest_left, Summarized, Summarized-written}
use Rattle.rk_tomb.proofs.index.+summarize.Goals as goal

pub returns-then-is_empty-clause-run : goal.returns-then-is_empty-clause-run
returns-then-is_empty-clause-run t c =
    let run : List Node = c.args.run.now in
    let none : length run ≡ 0 = none_from_test (length run) c.is_empty.result c.is_empty.ensures c.if-is_empty.true in
    subst (λ xs. IsRun c.args.tombs.now xs) (sym (nil_from_length run none)) (IsRun-nil c.args.tombs.now)

pub summarize-after-requires : goal.summarize-after-requires
summarize-after-requires t c =
    let run : List Node = c.args.run.now in
    let before : List Node = c.summarize-before.new.run in
    let some : 0 < length run = some_from_test (length run) c.is_empty.result c.is_empty.ensures c.if-is_empty.false in
    let rest = rest_left run before (record { place = 0; span = record { first = 0; last = 0; newest = 0 } }) some c.summarize-before.ensures.same in
    rw rest (omega (arith, length-drop (length run / 2 + 1) run), All-drop (IsPlaced (length c.args.tombs.now)) (length run / 2 + 1) run c.requires)

-- the run as it is written, with its span
abbrev run_at_end : List Node → List Node → List Node → Node → List Node
run_at_end run before after node =
    set (put_mid (length run / 2 + 1) (length (before ++ drop (length run / 2) run) - (length run / 2 + 1)) (before ++ drop (length run / 2) run) after) (length run / 2) node

summarized : (t : ℕ) (c : goal.After-joined_with-span t)
    → Summarized c.args.tombs.now c.args.run.now
    (run_at_end c.args.run.now c.summarize-before.new.run c.summarize-after.new.run
    (record { place = (get_or c.args.run.now (length c.args.run.now / 2) (record { place = 0; span = record { first = 0; last = 0; newest = 0 } })).place; span = c.joined_with-span.result })) c.joined_with-span.result
summarized t c =
    let d : Node = record { place = 0; span = record { first = 0; last = 0; newest = 0 } } in
    let tombs : List Tomb = c.args.tombs.now in
    let run : List Node = c.args.run.now in
    let before : List Node = c.summarize-before.new.run in
    let after : List Node = c.summarize-after.new.run in
    let span : Span = c.joined_with-span.result in
    let node : Node = record { place = (get_or run (length run / 2) d).place; span = span } in
    let some : 0 < length run = some_from_test (length run) c.is_empty.result c.is_empty.ensures c.if-is_empty.false in
    let in_run : length run / 2 < length run = omega arith in
    let rest : take (length (before ++ drop (length run / 2) run) - (length run / 2 + 1)) (drop (length run / 2 + 1) (before ++ drop (length run / 2) run)) ≡ drop (length run / 2 + 1) run = rest_left run before d some c.summarize-before.ensures.same in
    let before_within : AllWithin tombs c.joined_with.result before = AllWithin-part tombs c.joined_with.result c.summarize-before.result before c.summarize-before.ensures.none c.summarize-before.ensures.within c.joined_with.ensures.other_within in
    let after_within : AllWithin tombs span after = AllWithin-part tombs span c.summarize-after.result after c.summarize-after.ensures.none c.summarize-after.ensures.within c.joined_with-span.ensures.other_within in
    let own : IsWithin tombs span (tomb_at tombs node.place) = c.joined_with-span.ensures.within _ (c.joined_with.ensures.within _ c.of-own.ensures.within) in
    Summarized-written tombs run before after node d some c.summarize-before.ensures.same (c.summarize-after.ensures.same ∙ ap places rest) refl
    c.summarize-before.ensures.placed c.summarize-after.ensures.placed
    (record { place = (c.requires (length run / 2) d in_run).place; span = c.joined_with-span.ensures.range })
    c.summarize-before.ensures.run c.summarize-after.ensures.run
    (λ k e lt. c.joined_with-span.ensures.within (tomb_at tombs (get_or before k e).place) (before_within k e lt)) after_within own

pub returns-clause-placed : goal.returns-clause-placed
returns-clause-placed t c = (summarized t c).placed

pub returns-clause-same : goal.returns-clause-same
returns-clause-same t c = (summarized t c).same

pub returns-clause-run : goal.returns-clause-run
returns-clause-run t c = (summarized t c).run

pub returns-clause-within : goal.returns-clause-within
returns-clause-within t c = (summarized t c).within
