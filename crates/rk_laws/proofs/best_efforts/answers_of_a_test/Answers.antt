use Rattle.rk_laws.proofs.FilesAtPoints.{answers_of_test}
use Rattle.rk_laws.proofs.best_efforts.answers_of_a_test.Goals as goal

pub returns : goal.returns
returns c = answers_of_test
