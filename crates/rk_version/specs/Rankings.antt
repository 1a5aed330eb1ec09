-- The files of a family in the order of their levels, least keys and numbers, how many of them overlap the next
-- one, and what is kept of that.
use Rattle.std.specs.Prelude.{◌≡◌, ℕ, zero, suc, ◌+◌, ◌≤◌, false, List, [], ◌∷◌, length, map, take, drop, slice_get, if◌then◌else◌, Option, Some, None}
use Rattle.std.specs.List.{AllByRecursion}
use Rattle.std.specs.Ordering.{is_lt}
use Rattle.std.specs.declared.cmp.Ordering.TheVariants.{Less}
use Rattle.rk_bytes.specs.declared.model.manifest.FileMeta.{FileMeta}
use Rattle.rk_bytes.specs.declared.model.manifest.FamilyState.{FamilyState}
use Rattle.rk_bytes.specs.declared.model.manifest.Version.{Version}
use Rattle.rk_version.specs.Bounds.{IsInOrder}
use Rattle.rk_version.specs.Spots.{file_cmp, clash}
use Rattle.rk_version.specs.declared.ranking.Ranking.{Ranking}

-- one more file in front of the first that it comes before
abbrev pub rank_file : FileMeta → List FileMeta → List FileMeta
rank_file file [] = file ∷ []
rank_file file (other ∷ files) = if is_lt (file_cmp file other) then file ∷ other ∷ files else other ∷ rank_file file files

-- the files in their order
abbrev pub ranked : List FileMeta → List FileMeta
ranked [] = []
ranked (file ∷ files) = rank_file file (ranked files)

-- one, if both files are there and the first overlaps the second
abbrev pub meeting : Option FileMeta → Option FileMeta → ℕ
meeting (Some a) (Some b) = if clash a b then 1 else 0
meeting (Some a) None = 0
meeting None other = 0

-- how many files overlap the next one
abbrev pub clash_count : List FileMeta → ℕ
clash_count [] = 0
clash_count (file ∷ files) = meeting (Some file) (slice_get files 0) + clash_count files

-- the file in front of a place
abbrev pub file_before : List FileMeta → ℕ → Option FileMeta
file_before files zero = None
file_before files (suc place) = slice_get files place

-- The file belongs in this place: the files in front of it come before the file, and no other one does.
pub record IsRank (file : FileMeta) (files : List FileMeta) (place : ℕ) : Type 0 where
  pub within : place ≤ length files
  pub before : AllByRecursion (λ other. file_cmp other file ≡ Less) (take place files)
  pub after : AllByRecursion (λ other. is_lt (file_cmp other file) ≡ false) (drop place files)

-- the numbers of files in their order
abbrev pub ranked_numbers : List FileMeta → List ℕ
ranked_numbers files = map (λ file. file.number) (ranked files)

-- what is kept of files
abbrev pub ranking_of : List FileMeta → Ranking
ranking_of files = record { numbers = ranked_numbers files; clashes = clash_count (ranked files) }

-- what is kept of families
abbrev pub rankings_of : List FamilyState → List Ranking
rankings_of families = map (λ live. ranking_of live.files) families

-- a version in order, and what is kept of its families
pub record IsRanked (version : Version) (rankings : List Ranking) : Type 0 where
  pub order : IsInOrder version
  pub kept : rankings ≡ rankings_of version.families
