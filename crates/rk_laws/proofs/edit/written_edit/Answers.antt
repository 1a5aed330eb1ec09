use Rattle.rk_laws.proofs.WrittenEdits.{edit_written}
use Rattle.rk_laws.proofs.edit.written_edit.Goals as goal

pub returns : goal.returns
returns c = edit_written
