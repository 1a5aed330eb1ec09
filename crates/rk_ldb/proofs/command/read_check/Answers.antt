use Rattle.std.proofs.Common.{◌∙◌}
use Rattle.rk_ldb.proofs.CommandWords.{check_command}
use Rattle.rk_ldb.proofs.command.read_check.Goals as goal

pub returns : goal.returns
returns c = c.read_check_alone.ensures ∙ check_command c.args.arguments.now c.read_how-how.result.1.now c.read_how-how.result.0 c.read_how-how.ensures.value c.read_how-how.ensures.rest
