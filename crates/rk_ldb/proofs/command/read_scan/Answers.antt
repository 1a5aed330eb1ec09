use Rattle.std.proofs.Common.{Some, None, ap, ◌∙◌}
use Rattle.std.specs.Option.{option_map, option_copied}
use Rattle.rk_ldb.specs.Commands.{told, told_key}
use Rattle.rk_ldb.proofs.CommandWords.{scan_command}
use Rattle.rk_ldb.proofs.command.read_scan.Goals as goal

pub returns-in_err-hex : goal.returns-in_err-hex
returns-in_err-hex c =
    ap (option_map told) c.from_residual.ensures
    ∙ scan_command c.args.arguments.now c.read_family.result.1.now c.read_how-how.result.1.now c.read_bound.result.1.now c.read_bound-2.result.1.now
    (option_copied c.read_family.result.0) c.read_how-how.result.0 (option_map told_key c.read_bound.result.0) (option_map told_key c.read_bound-2.result.0) None
    c.read_family.ensures.value c.read_family.ensures.rest c.read_how-how.ensures.value c.read_how-how.ensures.rest c.read_bound.ensures.value c.read_bound.ensures.rest
    c.read_bound-2.ensures.value c.read_bound-2.ensures.rest c.in_err-hex.ensures

pub returns : goal.returns
returns c =
    scan_command c.args.arguments.now c.read_family.result.1.now c.read_how-how.result.1.now c.read_bound.result.1.now c.read_bound-2.result.1.now
    (option_copied c.read_family.result.0) c.read_how-how.result.0 (option_map told_key c.read_bound.result.0) (option_map told_key c.read_bound-2.result.0) (Some c.in_ok-hex.hex)
    c.read_family.ensures.value c.read_family.ensures.rest c.read_how-how.ensures.value c.read_how-how.ensures.rest c.read_bound.ensures.value c.read_bound.ensures.rest
    c.read_bound-2.ensures.value c.read_bound-2.ensures.rest c.in_ok-hex.ensures
