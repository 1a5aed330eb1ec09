-- What entries stand for that are kept by their names. This project's own rule.
use Rattle.std.specs.Prelude.{ℕ, List, map, string_bytes}
use Rattle.std.specs.declared.string.String.{String}
use Rattle.std.specs.Ordering.{nat_cmp}
use Rattle.std.specs.Cmp.Lexicographic.{slice_cmp}
use Rattle.std.specs.FinMap.{FinMap, from_entries}

-- a finite map from names
abbrev pub ByName : Type 0 → Type 0
ByName X = FinMap (slice_cmp nat_cmp) X

module _ {Y X Z : Type 0} (part : X → Z) where
  -- a name and a part of the entry under it
  abbrev pub named : String Y × X → List ℕ × Z
  named entry = (string_bytes entry.0, part entry.1)

  -- the finite map from the names to that part of their entries
  abbrev pub parts_by_name : List (String Y × X) → ByName Z
  parts_by_name entries = from_entries (map named entries)
