use Rattle.std.proofs.Common.{◌≡◌, map, take}
use Rattle.std.specs.List.{AllByRecursion}
use Rattle.rk_points.specs.declared.descent.Stand.{Stand}
use Rattle.rk_points.specs.Descents.{IsSound, turns_of, last_whole}
use Rattle.rk_points.proofs.descent.whole_stands.Given as goal

-- the families of the courses so far, each at its last whole point
abbrev pub invariant-loop-course : goal.invariant-loop-course
invariant-loop-course l =
    (map (λ (stand : Stand). stand.course.now) l.stands.items ≡ take l.course-index l.courses)
    × AllByRecursion (λ (stand : Stand). IsSound (turns_of stand) → stand.at ≡ last_whole (turns_of stand) l.count) l.stands.items
