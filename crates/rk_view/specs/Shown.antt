-- What is shown of a key, as the calls answer it, and what is left of a walk.
use Rattle.std.specs.Prelude.{◌≡◌, ◌≢◌, Bool, false, ℕ, ◌^◌, ◌<◌, ◌≤◌, ◌&&◌, ◌++◌, not, true, List, [], ◌∷◌, length, filter, slice_get, slice_index_or, Option, Some, None, Result, Ok, Err}
use Rattle.std.specs.List.{AllByRecursion}
use Rattle.rk_bytes.specs.declared.memory.Memory.{Memory}
use Rattle.std.specs.Option.{option_map_or}
use Rattle.rk_bytes.specs.declared.model.key.Record.{Record}
use Rattle.rk_bytes.specs.declared.model.view.Tomb.{Tomb}
use Rattle.rk_bytes.specs.Model.InternalKey.{packed_of, top_sequence}
use Rattle.rk_bytes.specs.Model.KeyView as key_view
use Rattle.rk_bytes.specs.Model.KeyView.{found, absent, merge, is_before, is_point, is_covered, uncovered, deciding, shown, rows}
use Rattle.rk_view.specs.declared.answer.Answer.{Answer}
use Rattle.rk_view.specs.declared.answer.Answer.TheVariants.{Found, Absent, Merge}
use Rattle.rk_view.specs.declared.walk.Row.{Row}
use Rattle.rk_view.specs.Places.{is_after}
use Rattle.rk_view.specs.Maps.{map_of}
use Rattle.rk_view.specs.Sources.{merged, AreRuns}

-- an answer, whichever memory its value lies in
abbrev pub answer_of : Answer → key_view.Answer
answer_of (Found value) = found value.now
answer_of Absent = absent
answer_of (Merge operands) = merge operands.newest_first operands.base

-- whether an answer is what is to be merged
abbrev pub is_merged : key_view.Answer → Bool
is_merged (merge values base) = true
is_merged answer = false

-- a row, likewise
abbrev pub row_shown : Row → key_view.Row
row_shown row = record { key = row.key.now; answer = answer_of row.answer }

-- the records of a key that no range deletion covers, of those whose numbers are below a limit
abbrev pub shown_below : List Tomb → ℕ → List ℕ → ℕ → List Record → List Record
shown_below tombs family key below records = uncovered tombs family key (filter (is_after family key below) records)

-- The record is the next of those, and the rest is found in what is left of the records.
pub record IsNextShown (tombs : List Tomb) (family : ℕ) (key : List ℕ) (below : ℕ) (records left : List Record) (next : Record) : Type 0 where
  pub family_is : next.family ≡ family
  pub key_is : next.key ≡ key
  pub lower : packed_of next.sequence next.kind < below
  pub rest : shown_below tombs family key below records ≡ next ∷ shown_below tombs family key (packed_of next.sequence next.kind) left

-- A source stands at the next of those.
pub record StandsAtShown (tombs : List Tomb) (family : ℕ) (key : List ℕ) (below : ℕ) (before lefts : List (List Record)) (i : ℕ) : Type 0 where
  pub next : Record
  pub within : i < length lefts
  pub head : slice_get (slice_index_or lefts i []) 0 ≡ Some next
  pub is_next : IsNextShown tombs family key below (merged before) (merged lefts) next

-- A source stands at the next record of a key of those with a number below a limit, covered or not.
pub record StandsAtNext (family : ℕ) (key : List ℕ) (below : ℕ) (records : List Record) (lefts : List (List Record)) (i : ℕ) : Type 0 where
  pub next : Record
  pub within : i < length lefts
  pub head : slice_get (slice_index_or lefts i []) 0 ≡ Some next
  pub family_is : next.family ≡ family
  pub key_is : next.key ≡ key
  pub lower : packed_of next.sequence next.kind < below
  pub numbered : next.sequence ≤ top_sequence
  pub rest : (tombs : List Tomb) → shown_below tombs family key below records ≡ uncovered tombs family key (next ∷ []) ++ shown_below tombs family key (packed_of next.sequence next.kind) records

-- What is known of the first record of a list, if there is one: that it shows something, or its number.
abbrev pub IsHidden : List Tomb → List Record → Option ℕ → Type 0
IsHidden tombs [] hidden = hidden ≡ None
IsHidden tombs (r ∷ left) None = (is_point r.kind && not (is_covered tombs r)) ≡ true
IsHidden tombs (r ∷ left) (Some number) = ((is_point r.kind && not (is_covered tombs r)) ≡ false) × (number ≡ packed_of r.sequence r.kind)

-- what records and range deletions show of a key
abbrev pub answer_in : List Tomb → ℕ → List ℕ → List Record → key_view.Answer
answer_in tombs family key records = shown (deciding (uncovered tombs family key records))

-- the key is below an end, if there is one
abbrev pub is_below : Option (List ℕ) → List ℕ → Bool
is_below to key = option_map_or (λ end. is_before end key) to true

-- the rows of a family that are left, below an end, if there is one
unfoldable pub rows_left : List Tomb → ℕ → Option (List ℕ) → List (List Record) → List key_view.Row
rows_left tombs family to lefts = rows (record { families = []; records = map_of lefts; tombs = tombs }) family None to

-- nothing that is left is of an earlier family
abbrev pub IsFrom : ℕ → List Record → Type 0
IsFrom family records = AllByRecursion (λ r. is_after family [] (2 ^ 64) r ≡ true) records

-- The record is the first of all, of the family, and its key is below the end.
pub record IsNextKey (family : ℕ) (to : Option (List ℕ)) (lefts : List (List Record)) (next : Record) : Type 0 where
  pub runs : AreRuns lefts
  pub first : slice_get (merged lefts) 0 ≡ Some next
  pub family_is : next.family ≡ family
  pub before : is_below to next.key ≡ true

-- the next row is of what is to be merged
abbrev pub IsMergeNext : List key_view.Row → Type 0
IsMergeNext [] = ⊥
IsMergeNext (row ∷ more) = is_merged row.answer ≡ true

-- A walk gives the next of the rows that are left, or none where none is left. Memory may run out only where the next
-- row is of what is to be merged, and then it keeps the rows.
abbrev pub GivesRow : List key_view.Row → Result (Option Row) Memory → List key_view.Row → Type 0
GivesRow left (Ok (Some row)) rest = left ≡ row_shown row ∷ rest
GivesRow left (Ok None) rest = (left ≡ []) × (rest ≡ [])
GivesRow left (Err memory) rest = (rest ≡ left) × IsMergeNext left

-- whether an answer shows anything
abbrev pub IsShownAt : Bool → key_view.Answer → Type 0
IsShownAt shown answer = (shown ≡ false → answer ≡ absent) × (shown ≡ true → answer ≢ absent)
