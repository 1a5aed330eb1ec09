-- How points go down to the best ones: what each step does to families on their way down.
use Rattle.std.specs.Prelude.{◌≡◌, ℕ, zero, suc, ◌-◌, Bool, true, ◌&&◌, List, [], ◌∷◌, map, nat_lt, nat_le, if◌then◌else◌}
use Rattle.std.specs.List.{AllByRecursion, list_any}
use Rattle.std.specs.List.Sorted.{IsStrictlySortedBy}
use Rattle.std.specs.Ordering.{nat_cmp}
use Rattle.rk_bytes.specs.declared.model.view.Point.{Point}
use Rattle.rk_points.specs.declared.course.Turn.{Turn}
use Rattle.rk_points.specs.declared.descent.Stand.{Stand}
use Rattle.rk_points.specs.Courses.{is_live_in, is_whole_in}

-- by rising number of units, of which no two are the same
abbrev pub Rises : List Turn → Type 0
Rises turns = IsStrictlySortedBy nat_cmp (map (λ turn. turn.at) turns)

-- turns in order, at the first of which no file is broken if no unit is applied there
pub record IsSound (turns : List Turn) : Type 0 where
  pub rising : Rises turns
  pub whole : is_whole_in turns 0 ≡ true

-- the greatest point up to this one at which all files are whole, and 0 where there is none
unfoldable pub last_whole : List Turn → ℕ → ℕ
last_whole turns zero = zero
last_whole turns (suc point) = if is_whole_in turns (suc point) then suc point else last_whole turns point

-- the family's turns
abbrev pub turns_of : Stand → List Turn
turns_of stand = stand.course.now.turns

-- families with such turns
abbrev pub AreSound : List Stand → Type 0
AreSound stands = AllByRecursion (λ (stand : Stand). IsSound stand.course.now.turns) stands

-- a group at the place ties the family, which stands before it
abbrev pub is_before : ℕ → Stand → Bool
is_before place stand = nat_lt stand.at place && is_live_in (turns_of stand) (place - 1)

-- a group at the place ties the family, which stands at it or later
abbrev pub is_behind : ℕ → Stand → Bool
is_behind place stand = nat_le place stand.at && is_live_in (turns_of stand) (place - 1)

-- where the family stands once it isn't behind the group at the place
abbrev pub held_at : ℕ → Stand → ℕ
held_at place stand = if is_behind place stand then last_whole (turns_of stand) (place - 1) else stand.at

-- the families, none of which is behind the group at the place
abbrev pub held_each : ℕ → List Stand → List Stand
held_each place stands = map (λ (stand : Stand). record stand { at = held_at place stand }) stands

-- the same, if a family that the group ties stands before it
abbrev pub held : ℕ → List Stand → List Stand
held place stands = if list_any (is_before place) stands then held_each place stands else stands

-- the families after all groups, of which the last acts first
abbrev pub passed : List ℕ → List Stand → List Stand
passed [] stands = stands
passed (place ∷ places) stands = held place (passed places stands)

-- after so many such passes
abbrev pub passed_times : ℕ → List ℕ → List Stand → List Stand
passed_times zero places stands = stands
passed_times (suc n) places stands = passed places (passed_times n places stands)

-- the points of families
abbrev pub points_of : List Stand → List Point
points_of stands = map (λ (stand : Stand). record { family = stand.course.now.family; at = stand.at }) stands
