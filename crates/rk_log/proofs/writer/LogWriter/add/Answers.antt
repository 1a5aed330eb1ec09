use Rattle.rk_log.proofs.ReadBack.{added_log}
use Rattle.rk_log.proofs.writer.LogWriter.add.Goals as goal

pub returns-else-is_err-clause-log : goal.returns-else-is_err-clause-log
returns-else-is_err-clause-log c = added_log c.write_record-written.result _ c.args.self.now c.args.payload.now c.write_record-written.new.out.items c.self.view_is c.write_record-written.ensures
