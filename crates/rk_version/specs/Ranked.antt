-- A family with the order of its files.
use Rattle.std.specs.Prelude.{◌≡◌}
use Rattle.rk_bytes.specs.declared.model.manifest.FamilyState.{FamilyState}
use Rattle.rk_version.specs.Bounds.{HasFilesInOrder}
use Rattle.rk_version.specs.Rankings.{ranking_of}
use Rattle.rk_version.specs.declared.ranking.Ranking.{Ranking}

-- the family's files are in order, and this is kept of them
pub record IsRankedFamily (live : FamilyState) (ranking : Ranking) : Type 0 where
  pub order : HasFilesInOrder live
  pub kept : ranking ≡ ranking_of live.files
