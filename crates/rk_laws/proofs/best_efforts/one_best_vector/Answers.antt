use Rattle.rk_laws.proofs.BestVector.{all_pass_at_zero, answers_pass_at_zero, best_points-greatest, one_greatest}
use Rattle.rk_laws.proofs.best_efforts.one_best_vector.Goals as goal

pub returns-clause-of_files : goal.returns-clause-of_files
returns-clause-of_files c = all_pass_at_zero

pub returns-clause-of_answers : goal.returns-clause-of_answers
returns-clause-of_answers c = answers_pass_at_zero

pub returns-clause-exists : goal.returns-clause-exists
returns-clause-exists c = best_points-greatest

pub returns-clause-unique : goal.returns-clause-unique
returns-clause-unique c = one_greatest
