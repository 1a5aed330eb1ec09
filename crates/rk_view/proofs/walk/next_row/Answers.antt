use Rattle.std.proofs.Common.{◌≡◌, ◌∙◌, ◌∷◌, ap, sym, subst, map, refl, List}
use Rattle.std.proofs.lemmas.Result.{err_from_is_err_and}
use Rattle.std.specs.Prelude.{filter, true}
use Rattle.std.specs.List.{cons_option}
use Rattle.std.specs.Option.{option_copied}
use Rattle.rk_bytes.specs.declared.model.key.Record.{Record}
use Rattle.rk_bytes.specs.Model.KeyView.{Answer, absent, row_of}
use Rattle.rk_view.specs.Places.{is_after}
use Rattle.rk_view.specs.Sources.{merged}
use Rattle.rk_view.specs.Shown.{answer_of, answer_in, is_merged, rows_left, IsNextKey, IsMergeNext}
use Rattle.rk_view.proofs.ValuesLemmas.{values-run}
use Rattle.rk_view.proofs.RowLemmas.{rows_step, row_first, row_none, merge_first, left_behind, fewer_behind, from_rest}
use Rattle.rk_view.proofs.walk.next_row.Goals as goal

pub returns-in_err-answer-clause-row : goal.returns-in_err-answer-clause-row
returns-in_err-answer-clause-row c =
    let to = option_copied c.args.to in
    let tombs = c.args.tombs.now in
    let lefts : List (List Record) = c.loop-first.cursors in
    let first : Record = c.in-Some.first.now in
    let next : IsNextKey c.args.family to lefts first = c.in-Some.ensures in
    let rest : List (List Record) = map (filter (is_after c.args.family first.key 0)) lefts in
    let step = rows_step tombs c.args.family to lefts (values-run lefts next.runs) c.loop-first.invariant.from first next.first next.family_is next.before rest (left_behind c.args.family first.key first.key lefts rest next.runs refl refl) in
    let is : is_merged (answer_in tombs c.args.family first.key (merged lefts)) ≡ true = subst (λ family. is_merged (answer_in tombs family first.key (merged lefts)) ≡ true) next.family_is c.in_err-answer.ensures.memory in
    let merges : IsMergeNext (rows_left tombs c.args.family to c.args.cursors.now) = subst IsMergeNext (sym c.loop-first.invariant.same) (merge_first first.key (answer_in tombs c.args.family first.key (merged lefts)) (rows_left tombs c.args.family to lefts) (rows_left tombs c.args.family to rest) step is) in
    let told = err_from_is_err_and c.from_residual.result c.from_residual.ensures.1 in
    rw told.1 (sym c.loop-first.invariant.same, merges)

pub returns-then-is_shown-clause-from : goal.returns-then-is_shown-clause-from
returns-then-is_shown-clause-from c =
    let next : IsNextKey c.args.family (option_copied c.args.to) c.loop-first.cursors c.in-Some.first.now = c.in-Some.ensures in
    from_rest c.args.family (is_after c.args.family c.in-Some.first.now.key 0) (merged c.loop-first.cursors) (merged c.skip.new.self)
    (left_behind c.args.family c.in-Some.first.now.key c.as_slice-key.result.now c.loop-first.cursors c.skip.new.self next.runs c.as_slice-key.ensures c.skip.ensures) c.loop-first.invariant.from

pub returns-then-is_shown-clause-row : goal.returns-then-is_shown-clause-row
returns-then-is_shown-clause-row c =
    let to = option_copied c.args.to in
    let tombs = c.args.tombs.now in
    let lefts : List (List Record) = c.loop-first.cursors in
    let first : Record = c.in-Some.first.now in
    let next : IsNextKey c.args.family to lefts first = c.in-Some.ensures in
    let behind : merged c.skip.new.self ≡ filter (is_after c.args.family first.key 0) (merged lefts) = left_behind c.args.family first.key c.as_slice-key.result.now lefts c.skip.new.self next.runs c.as_slice-key.ensures c.skip.ensures in
    let given : Answer = answer_of c.in_ok-answer.answer in
    let is : answer_in tombs c.args.family first.key (merged lefts) ≡ given = sym (c.in_ok-answer.ensures.shown ∙ ap (λ family. answer_in tombs family first.key (merged lefts)) next.family_is) in
    let step = rows_step tombs c.args.family to lefts (values-run lefts next.runs) c.loop-first.invariant.from first next.first next.family_is next.before c.skip.new.self behind in
    let left : rows_left tombs c.args.family to lefts ≡ cons_option (row_of first.key given) (rows_left tombs c.args.family to c.skip.new.self) = step ∙ ap (λ a. cons_option (row_of first.key a) (rows_left tombs c.args.family to c.skip.new.self)) is in
    c.loop-first.invariant.same ∙ row_first first.key given (rows_left tombs c.args.family to lefts) (rows_left tombs c.args.family to c.skip.new.self) left (c.is_shown.ensures.1 c.if-is_shown.true)
    ∙ ap (λ key. record { key = key; answer = given } ∷ rows_left tombs c.args.family to c.skip.new.self) (sym c.as_slice-key.ensures)

pub loop-first-smaller : goal.loop-first-smaller
loop-first-smaller c =
    let lefts : List (List Record) = c.loop-first.cursors in
    let first : Record = c.in-Some.first.now in
    let next : IsNextKey c.args.family (option_copied c.args.to) lefts first = c.in-Some.ensures in
    fewer_behind c.args.family lefts c.skip.new.self first next.family_is next.first (left_behind c.args.family first.key c.as_slice-key.result.now lefts c.skip.new.self next.runs c.as_slice-key.ensures c.skip.ensures)

pub loop-first-preserved : goal.loop-first-preserved
loop-first-preserved c =
    let to = option_copied c.args.to in
    let tombs = c.args.tombs.now in
    let lefts : List (List Record) = c.loop-first.cursors in
    let first : Record = c.in-Some.first.now in
    let next : IsNextKey c.args.family to lefts first = c.in-Some.ensures in
    let behind : merged c.skip.new.self ≡ filter (is_after c.args.family first.key 0) (merged lefts) = left_behind c.args.family first.key c.as_slice-key.result.now lefts c.skip.new.self next.runs c.as_slice-key.ensures c.skip.ensures in
    let none : answer_in tombs c.args.family first.key (merged lefts) ≡ absent =
    sym (c.in_ok-answer.ensures.shown ∙ ap (λ family. answer_in tombs family first.key (merged lefts)) next.family_is) ∙ c.is_shown.ensures.0 c.if-is_shown.false in
    let step = rows_step tombs c.args.family to lefts (values-run lefts next.runs) c.loop-first.invariant.from first next.first next.family_is next.before c.skip.new.self behind in
    record {
      from = from_rest c.args.family (is_after c.args.family first.key 0) (merged lefts) (merged c.skip.new.self) behind c.loop-first.invariant.from;
      same = c.loop-first.invariant.same ∙ row_none first.key (answer_in tombs c.args.family first.key (merged lefts)) (rows_left tombs c.args.family to lefts) (rows_left tombs c.args.family to c.skip.new.self) step none;
    }
