use Rattle.rk_laws.proofs.DiskLaw.{contents-IsImage, image_at_rest}
use Rattle.rk_laws.proofs.disk_images.one_image_at_rest.Goals as goal

pub returns-clause-contents : goal.returns-clause-contents
returns-clause-contents c = contents-IsImage

pub returns-clause-rest : goal.returns-clause-rest
returns-clause-rest c = image_at_rest
