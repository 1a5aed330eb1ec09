use Rattle.rk_laws.proofs.PartingLemmas.{EndsOnce-log_marks, Parts-parting, same_parts}
use Rattle.rk_laws.proofs.log_items.one_parting.Goals as goal

pub returns-clause-marks : goal.returns-clause-marks
returns-clause-marks c = EndsOnce-log_marks

pub returns-clause-exists : goal.returns-clause-exists
returns-clause-exists c = Parts-parting

pub returns-clause-unique : goal.returns-clause-unique
returns-clause-unique c = same_parts
