-- The files of a family in the order of their levels, least keys and numbers, in which those that overlap stand side by side.
use Rattle.std.specs.Prelude.{◌≡◌, ℕ, Bool, not, ◌&&◌, List, [], ◌∷◌, nat_lt, ◌==◌, if◌then◌else◌, Option, Some, None}
use Rattle.std.specs.declared.cmp.Ordering.{Ordering}
use Rattle.std.specs.Ordering.{nat_cmp, ordering_then}
use Rattle.std.specs.Cmp.Lexicographic.{slice_cmp}
use Rattle.rk_bytes.specs.declared.model.manifest.FileMeta.{FileMeta}
use Rattle.rk_bytes.specs.Model.InternalKey.{user_key, packed, key_cmp}
use Rattle.rk_bytes.specs.Model.Manifest.{ends_below}
use Rattle.rk_version.specs.Bounds.{HasWholeBounds}
use Rattle.rk_version.specs.declared.spot.Spot.{Spot}

-- files by level, least key and number
abbrev pub file_cmp : FileMeta → FileMeta → Ordering
file_cmp a b = ordering_then (ordering_then (nat_cmp a.level b.level) (key_cmp a.smallest b.smallest)) (nat_cmp a.number b.number)

-- the same of places
abbrev pub spot_cmp : Spot → Spot → Ordering
spot_cmp a b = ordering_then (ordering_then (nat_cmp a.level b.level) (ordering_then (slice_cmp nat_cmp a.user.now b.user.now) (nat_cmp b.packed a.packed))) (nat_cmp a.number b.number)

-- the file in a place
abbrev pub file_at : Spot → FileMeta
file_at spot = spot.file.now

-- what is kept of the file is the file's
pub record IsSpot (spot : Spot) : Type 0 where
  pub level : spot.level ≡ (file_at spot).level
  pub user : spot.user.now ≡ user_key (file_at spot).smallest
  pub packed : spot.packed ≡ packed (file_at spot).smallest
  pub number : spot.number ≡ (file_at spot).number
  pub bounds : HasWholeBounds (file_at spot)

-- two files, of which the first comes before the second, overlap at a level above 0
abbrev pub clash : FileMeta → FileMeta → Bool
clash a b = nat_lt 0 a.level && (a.level == b.level && not (ends_below a b))

-- the level of the first file that overlaps the next one
abbrev pub first_clash : List FileMeta → Option ℕ
first_clash [] = None
first_clash (a ∷ []) = None
first_clash (a ∷ b ∷ files) = if clash a b then Some a.level else first_clash (b ∷ files)
