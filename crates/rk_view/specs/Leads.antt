-- What records are sorted by before their slots are compared.
use Rattle.std.specs.Prelude.{ℕ, List, [], ◌∷◌, slice_index, drop}
use Rattle.std.specs.Int.{from_be_bytes, w128}

-- the first 16 bytes, with zeros behind fewer
abbrev pub first_bytes : List ℕ → List ℕ
first_bytes xs =
    slice_index xs 0 ∷ slice_index xs 1 ∷ slice_index xs 2 ∷ slice_index xs 3 ∷ slice_index xs 4 ∷ slice_index xs 5 ∷ slice_index xs 6 ∷ slice_index xs 7
    ∷ slice_index xs 8 ∷ slice_index xs 9 ∷ slice_index xs 10 ∷ slice_index xs 11 ∷ slice_index xs 12 ∷ slice_index xs 13 ∷ slice_index xs 14
    ∷ slice_index xs 15 ∷ []

-- the 16 bytes from a place on as a number, with zeros behind fewer
unfoldable pub lead_of : ℕ → List ℕ → ℕ
lead_of from key = from_be_bytes w128 (first_bytes (drop from key))
