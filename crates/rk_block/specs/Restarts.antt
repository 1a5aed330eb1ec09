-- The restart offsets of a block, beside a walk over its entries.
use Rattle.std.specs.Prelude.{ℕ, Bool, false, List, [], ◌∷◌, length, ◌==◌, ◌&&◌, if◌then◌else◌}

-- whether the first offset of all is 0, and the offsets at which no entry was passed
pub record RestartsSeen : Type 0 where
  pub from_zero : Bool
  pub left : List ℕ

abbrev pub starts_at_zero : List ℕ → Bool
starts_at_zero [] = false
starts_at_zero (offset ∷ offsets) = offset == 0

-- offsets before any entry
abbrev pub restarts_of : List ℕ → RestartsSeen
restarts_of offsets = record { from_zero = starts_at_zero offsets; left = offsets }

-- the offsets without the first, where that is the place of this entry and the entry shares nothing
abbrev pub offsets_after : ℕ → ℕ → List ℕ → List ℕ
offsets_after place shared [] = []
offsets_after place shared (offset ∷ offsets) = if place == offset && shared == 0 then offsets else offset ∷ offsets

-- what is left after such an entry
abbrev pub restarts_after : ℕ → ℕ → RestartsSeen → RestartsSeen
restarts_after place shared restarts = record restarts { left = offsets_after place shared restarts.left }

-- the first offset was 0, and none is left, or the only one where there is no entry
abbrev pub are_met : Bool → RestartsSeen → Bool
are_met has_entries restarts = restarts.from_zero && (length restarts.left == (if has_entries then 0 else 1))
