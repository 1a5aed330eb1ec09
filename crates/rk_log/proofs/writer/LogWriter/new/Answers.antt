use Rattle.std.proofs.Common.{◌∙◌}
use Rattle.rk_log.proofs.ReadBack.{written_log-none}
use Rattle.rk_log.proofs.writer.LogWriter.new.Goals as goal

pub returns-clause-log : goal.returns-clause-log
returns-clause-log c = c.new.ensures.items ∙ written_log-none c.args.number
