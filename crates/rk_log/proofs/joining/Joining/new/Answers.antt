use Rattle.std.proofs.Common.{None, refl}
use Rattle.rk_log.proofs.JoinLemmas.{left_behind-open}
use Rattle.rk_log.proofs.joining.Joining.new.Goals as goal

pub returns-clause-marks : goal.returns-clause-marks
returns-clause-marks c = λ file_len marks. left_behind-open _ None file_len marks refl refl
