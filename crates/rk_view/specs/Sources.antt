-- What contracts see of sources of records, and of the merge of several.
use Rattle.std.specs.Prelude.{◌≡◌, ◌<◌, ◌∷◌, ℕ, Bool, false, not, List, [], length, slice_get, slice_index_or, Some}
use Rattle.std.specs.List.{All}
use Rattle.std.specs.FinMap.{values}
use Rattle.rk_bytes.specs.declared.model.key.Record.{Record}
use Rattle.rk_view.specs.Maps.{IsRun, map_of}

-- what is left of several sources, in the order of slots; of one slot the last source's record
abbrev pub merged : List (List Record) → List Record
merged lefts = values (map_of lefts)

-- what is left of each source stands in the strict order of slots
abbrev pub AreRuns : List (List Record) → Type 0
AreRuns lefts = All IsRun lefts

-- whether a list has a first record that fails a test
abbrev pub IsBehind : (Record → Bool) → Bool → List Record → Type 0
IsBehind p behind [] = behind ≡ false
IsBehind p behind (r ∷ left) = behind ≡ not (p r)

-- The source has the first record of all that is left.
pub record IsLeast (lefts : List (List Record)) (i : ℕ) : Type 0 where
  pub first : Record
  pub within : i < length lefts
  pub head : slice_get (slice_index_or lefts i []) 0 ≡ Some first
  pub least : slice_get (merged lefts) 0 ≡ Some first

-- the first record, if there is one, isn't one of the key
abbrev pub StandsElsewhere : ℕ → List ℕ → List Record → Type 0
StandsElsewhere family key [] = Unit {0}
StandsElsewhere family key (r ∷ left) = r.family ≡ family → r.key ≡ key → ⊥

-- The source has the first record of all, and that is one of the key.
pub record IsLeastAt (family : ℕ) (key : List ℕ) (lefts : List (List Record)) (i : ℕ) : Type 0 where
  pub first : Record
  pub within : i < length lefts
  pub head : slice_get (slice_index_or lefts i []) 0 ≡ Some first
  pub least : slice_get (merged lefts) 0 ≡ Some first
  pub family_is : first.family ≡ family
  pub key_is : first.key ≡ key
