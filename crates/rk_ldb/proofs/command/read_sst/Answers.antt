use Rattle.std.proofs.Common.{◌∷◌, Some, None, refl, sym, ap, ◌∙◌}
use Rattle.std.specs.Prelude.{option_map}
use Rattle.std.proofs.lemmas.List.{nil_from_length}
use Rattle.rk_bytes.specs.Model.Grammar.{number_of, sst_part_of}
use Rattle.rk_ldb.specs.Commands.{told}
use Rattle.rk_ldb.proofs.CommandWords.{no_table, number_alone, sst_command}
use Rattle.rk_ldb.proofs.command.read_sst.Goals as goal

pub returns-in_err-number : goal.returns-in_err-number
returns-in_err-number c = ap (option_map told) c.from_residual.ensures ∙ sym (no_table c.args.arguments.now (nil_from_length c.args.arguments.now c.in_err-number.ensures.cases))

pub returns-in_err-part : goal.returns-in_err-part
returns-in_err-part c =
    let rest = c.in_ok-number.rest.now in
    ap (option_map told) c.from_residual-in_err-part.ensures ∙ sym (number_alone c.args.arguments.now rest c.in_ok-number.number.now c.in_ok-number.ensures.cases.0 (nil_from_length rest c.in_err-part.ensures.cases))

pub returns-in_err-number-2 : goal.returns-in_err-number-2
returns-in_err-number-2 c =
    let options = c.in_ok-part.options.now in
    let split = c.in_ok-number.ensures.cases.0 ∙ ap (λ rest. c.in_ok-number.number.now ∷ rest) c.in_ok-part.ensures.cases.0 in
    ap (option_map told) c.from_residual-in_err-number-2.ensures
    ∙ sym (sst_command c.args.arguments.now options c.in_ok-number.number.now c.in_ok-part.part.now None (sst_part_of c.in_ok-part.part.now) split (ap number_of (sym c.as_str.ensures) ∙ sym c.in_err-number-2.ensures) refl)

pub returns-in_err-part-2 : goal.returns-in_err-part-2
returns-in_err-part-2 c =
    let options = c.in_ok-part.options.now in
    let split = c.in_ok-number.ensures.cases.0 ∙ ap (λ rest. c.in_ok-number.number.now ∷ rest) c.in_ok-part.ensures.cases.0 in
    ap (option_map told) c.from_residual-in_err-part-2.ensures
    ∙ sym (sst_command c.args.arguments.now options c.in_ok-number.number.now c.in_ok-part.part.now (Some c.in_ok-number-2.number) None split (ap number_of (sym c.as_str.ensures) ∙ sym c.in_ok-number-2.ensures)
    (ap sst_part_of (sym c.as_str-2.ensures) ∙ sym c.in_err-part-2.ensures))

pub returns-in_err-hex : goal.returns-in_err-hex
returns-in_err-hex c =
    let options = c.in_ok-part.options.now in
    let split = c.in_ok-number.ensures.cases.0 ∙ ap (λ rest. c.in_ok-number.number.now ∷ rest) c.in_ok-part.ensures.cases.0 in
    ap (option_map told) c.from_residual-in_err-hex.ensures
    ∙ sym (sst_command c.args.arguments.now options c.in_ok-number.number.now c.in_ok-part.part.now (Some c.in_ok-number-2.number) (Some c.in_ok-part-2.part) split (ap number_of (sym c.as_str.ensures) ∙ sym c.in_ok-number-2.ensures)
    (ap sst_part_of (sym c.as_str-2.ensures) ∙ sym c.in_ok-part-2.ensures) ∙ ap (option_map _) (sym c.in_err-hex.ensures))

pub returns : goal.returns
returns c =
    let options = c.in_ok-part.options.now in
    let split = c.in_ok-number.ensures.cases.0 ∙ ap (λ rest. c.in_ok-number.number.now ∷ rest) c.in_ok-part.ensures.cases.0 in
    sym (sst_command c.args.arguments.now options c.in_ok-number.number.now c.in_ok-part.part.now (Some c.in_ok-number-2.number) (Some c.in_ok-part-2.part) split (ap number_of (sym c.as_str.ensures) ∙ sym c.in_ok-number-2.ensures)
    (ap sst_part_of (sym c.as_str-2.ensures) ∙ sym c.in_ok-part-2.ensures) ∙ ap (option_map _) (sym c.in_ok-hex.ensures))
