-- What families were while the units of a manifest were applied, one after another.
use Rattle.std.specs.Prelude.{◌≡◌, ℕ, ◌≤◌, Bool, true, false, List, length, map, filter, nat_le, Option, Some, None}
use Rattle.std.specs.List.{AllByRecursion, list_any, last_or}
use Rattle.std.specs.List.Sorted.{IsStrictlySortedBy}
use Rattle.std.specs.Ordering.{nat_cmp}
use Rattle.rk_bytes.specs.Model.Manifest.{ManifestUnit, has_id}
use Rattle.rk_bytes.specs.Model.BestEfforts.{families_at, last_families, answers_pass}
use Rattle.rk_points.specs.declared.course.Course.{Course}
use Rattle.rk_points.specs.declared.course.Turn.{Turn}

-- what the family has been since the last turn at so many units or fewer
abbrev pub turn_at : List Turn → ℕ → Option Turn
turn_at turns point = last_or None (filter (λ turn. nat_le turn.at point) turns)

-- The family is live after so many units. Before the first turn it isn't.
abbrev pub is_live_in : List Turn → ℕ → Bool
is_live_in turns point = elim (turn_at turns point) [ Some turn ↦ turn.live | None ↦ false ]

-- All its files are whole there. Before the first turn it has none.
abbrev pub is_whole_in : List Turn → ℕ → Bool
is_whole_in turns point = elim (turn_at turns point) [ Some turn ↦ turn.whole | None ↦ true ]

-- the turns of a family with this id say where it is live and where its files are whole, by answers for the files
-- that the units add
pub record Tells (units : List ManifestUnit) (answers : List Bool) (course : Course) : Type 0 where
  pub rising : IsStrictlySortedBy nat_cmp (map (λ turn. turn.at) course.turns)
  pub live : (point : ℕ) → point ≤ length units → is_live_in course.turns point ≡ list_any (has_id course.family) (families_at units point)
  pub whole : (point : ℕ) → point ≤ length units → is_whole_in course.turns point ≡ answers_pass answers units course.family point

-- the courses of the families that are live after all units, in their order
pub record Follows (units : List ManifestUnit) (answers : List Bool) (courses : List Course) : Type 0 where
  pub families : map (λ course. course.family) courses ≡ map (λ live. live.id) (last_families units)
  pub told : AllByRecursion (Tells units answers) courses
