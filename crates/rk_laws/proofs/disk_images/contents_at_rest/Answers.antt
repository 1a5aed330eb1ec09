use Rattle.rk_bytes.proofs.Callers.DiskLemmas.{contents-resting}
use Rattle.rk_laws.proofs.DiskLaw.{resting-IsAtRest}
use Rattle.rk_laws.proofs.disk_images.contents_at_rest.Goals as goal

pub returns-clause-contents : goal.returns-clause-contents
returns-clause-contents c = contents-resting

pub returns-clause-rest : goal.returns-clause-rest
returns-clause-rest c = resting-IsAtRest
