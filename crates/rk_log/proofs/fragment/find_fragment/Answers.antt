use Rattle.std.proofs.Common.{refl, sym, ap, ◌∙◌}
use Rattle.rk_bytes.specs.Model.LogMarks.{whole_rest, fragment}
use Rattle.rk_log.proofs.FoundLemmas.{fragment_found_by}
use Rattle.rk_log.proofs.fragment.find_fragment.Goals as goal

pub returns-then-is_of_another_life : goal.returns-then-is_of_another_life
returns-then-is_of_another_life c = λ place. fragment_found_by _ place c.args.bytes.now (sym c.is_of_another_life.ensures ∙ c.if-is_of_another_life.true) refl refl refl

pub returns-then-is_zero_header : goal.returns-then-is_zero_header
returns-then-is_zero_header c = λ place. fragment_found_by _ place c.args.bytes.now
    (sym c.is_of_another_life.ensures ∙ c.if-is_of_another_life.false) (sym c.is_zero_header.ensures ∙ c.if-is_zero_header.true) refl refl

pub returns-then-not-has_right_sum : goal.returns-then-not-has_right_sum
returns-then-not-has_right_sum c = λ place. fragment_found_by _ place c.args.bytes.now
    (sym c.is_of_another_life.ensures ∙ c.if-is_of_another_life.false) (sym c.is_zero_header.ensures ∙ c.if-is_zero_header.false)
    (sym c.has_right_sum.ensures ∙ c.if-not-has_right_sum.true) refl
    ∙ ap whole_rest (sym (c.unless_recycled.ensures c.args.number place))

pub returns-then-is_unsupported : goal.returns-then-is_unsupported
returns-then-is_unsupported c = λ place. fragment_found_by _ place c.args.bytes.now
    (sym c.is_of_another_life.ensures ∙ c.if-is_of_another_life.false) (sym c.is_zero_header.ensures ∙ c.if-is_zero_header.false)
    (sym c.has_right_sum.ensures ∙ c.if-not-has_right_sum.false) (sym c.is_unsupported.ensures ∙ c.if-is_unsupported.true)

pub returns : goal.returns
returns c = λ place. fragment_found_by _ place c.args.bytes.now
    (sym c.is_of_another_life.ensures ∙ c.if-is_of_another_life.false) (sym c.is_zero_header.ensures ∙ c.if-is_zero_header.false)
    (sym c.has_right_sum.ensures ∙ c.if-not-has_right_sum.false) (sym c.is_unsupported.ensures ∙ c.if-is_unsupported.false)
    ∙ (λ i. fragment (c.fragment_mark.ensures c.args.number place i) (sym c.requires.len i))
