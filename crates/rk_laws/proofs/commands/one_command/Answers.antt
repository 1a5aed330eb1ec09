use Rattle.rk_bytes.proofs.Callers.CommandLemmas.{command_of-SpellsCommand, SpellsCommand-unique}
use Rattle.rk_laws.proofs.commands.one_command.Goals as goal

pub returns-clause-read : goal.returns-clause-read
returns-clause-read c = command_of-SpellsCommand

pub returns-clause-unique : goal.returns-clause-unique
returns-clause-unique c = SpellsCommand-unique
