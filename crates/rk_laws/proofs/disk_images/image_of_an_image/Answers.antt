use Rattle.rk_laws.proofs.DiskLaw.{image_of_resting}
use Rattle.rk_laws.proofs.disk_images.image_of_an_image.Goals as goal

pub returns : goal.returns
returns c = image_of_resting
