use Rattle.std.proofs.Common.{Some, None, cond, sym, ap, ◌∙◌}
use Rattle.std.specs.Option.{option_map}
use Rattle.std.proofs.lemmas.List.{nil_from_length}
use Rattle.rk_bytes.specs.Model.Grammar.{drill, alone, number_of}
use Rattle.rk_ldb.specs.Commands.{told}
use Rattle.rk_ldb.proofs.CommandWords.{no_drill, drill_command}
use Rattle.rk_ldb.proofs.command.read_drill.Goals as goal

pub returns-in_err-number : goal.returns-in_err-number
returns-in_err-number c = ap (option_map told) c.from_residual.ensures ∙ sym (no_drill c.args.arguments.now (nil_from_length c.args.arguments.now c.in_err-number.ensures.cases))

pub returns-in_err-number-2 : goal.returns-in_err-number-2
returns-in_err-number-2 c =
    ap (option_map told) c.from_residual-in_err-number-2.ensures
    ∙ sym (drill_command c.args.arguments.now c.in_ok-number.rest.now c.in_ok-number.number.now None c.in_ok-number.ensures.cases.0 (ap number_of (sym c.as_str.ensures) ∙ sym c.in_err-number-2.ensures))

pub returns-then-is_count : goal.returns-then-is_count
returns-then-is_count c =
    let n = c.in_ok-number-2.number in
    let rest = c.in_ok-number.rest.now in
    c.read_drill_alone.ensures
    ∙ sym (drill_command c.args.arguments.now rest c.in_ok-number.number.now (Some n) c.in_ok-number.ensures.cases.0 (ap number_of (sym c.as_str.ensures) ∙ sym c.in_ok-number-2.ensures)
    ∙ ap (λ fits. cond fits (alone (drill n) rest) None) (sym c.is_count.ensures ∙ c.if-is_count.true))

pub returns-else-is_count : goal.returns-else-is_count
returns-else-is_count c =
    let n = c.in_ok-number-2.number in
    let rest = c.in_ok-number.rest.now in
    sym (drill_command c.args.arguments.now rest c.in_ok-number.number.now (Some n) c.in_ok-number.ensures.cases.0 (ap number_of (sym c.as_str.ensures) ∙ sym c.in_ok-number-2.ensures)
    ∙ ap (λ fits. cond fits (alone (drill n) rest) None) (sym c.is_count.ensures ∙ c.if-is_count.false))
