use Rattle.std.proofs.Common.{Some, None, refl, sym, ap, ◌∙◌}
use Rattle.std.specs.Prelude.{option_map}
use Rattle.std.proofs.lemmas.List.{nil_from_length}
use Rattle.rk_bytes.specs.Model.Grammar.{hex_of, number_of}
use Rattle.rk_ldb.specs.Commands.{told}
use Rattle.rk_ldb.proofs.CommandWords.{no_number, log_command}
use Rattle.rk_ldb.proofs.command.read_dump_wal.Goals as goal

pub returns-in_err-number : goal.returns-in_err-number
returns-in_err-number c = ap (option_map told) c.from_residual.ensures ∙ sym (no_number c.args.arguments.now (nil_from_length c.args.arguments.now c.in_err-number.ensures.cases))

pub returns-in_err-number-2 : goal.returns-in_err-number-2
returns-in_err-number-2 c =
    let options = c.in_ok-number.options.now in
    ap (option_map told) c.from_residual-in_err-number-2.ensures
    ∙ sym (log_command c.args.arguments.now options c.in_ok-number.number.now None (hex_of options) c.in_ok-number.ensures.cases.0 (ap number_of (sym c.as_str.ensures) ∙ sym c.in_err-number-2.ensures) refl)

pub returns-in_err-hex : goal.returns-in_err-hex
returns-in_err-hex c =
    ap (option_map told) c.from_residual-in_err-hex.ensures
    ∙ sym (log_command c.args.arguments.now c.in_ok-number.options.now c.in_ok-number.number.now (Some c.in_ok-number-2.number) None c.in_ok-number.ensures.cases.0
    (ap number_of (sym c.as_str.ensures) ∙ sym c.in_ok-number-2.ensures) (sym c.in_err-hex.ensures))

pub returns : goal.returns
returns c =
    sym (log_command c.args.arguments.now c.in_ok-number.options.now c.in_ok-number.number.now (Some c.in_ok-number-2.number) (Some c.in_ok-hex.hex) c.in_ok-number.ensures.cases.0
    (ap number_of (sym c.as_str.ensures) ∙ sym c.in_ok-number-2.ensures) (sym c.in_ok-hex.ensures))
