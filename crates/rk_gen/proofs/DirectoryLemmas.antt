-- The directory with the defined table.
use Rattle.std.proofs.Common.{◌≡◌, ℕ, refl}
use Rattle.rk_bytes.specs.Model.Drill.{drill_table, drill_manifest, drill_directory}
use Rattle.rk_gen.specs.Files.{directory_with}

pub with_its_table : (n : ℕ) → directory_with n (drill_table n) ≡ drill_directory n
unfolding directory_with drill_manifest drill_directory
with_its_table n = refl
