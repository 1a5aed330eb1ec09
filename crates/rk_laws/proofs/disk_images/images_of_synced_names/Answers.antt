use Rattle.rk_laws.proofs.DiskLaw.{image_of_synced_names}
use Rattle.rk_laws.proofs.disk_images.images_of_synced_names.Goals as goal

pub returns : goal.returns
returns c = image_of_synced_names
