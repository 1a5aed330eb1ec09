use Rattle.std.proofs.Common.{◌≡◌, map, filter}
use Rattle.rk_points.specs.Tallies.{course_of}
use Rattle.rk_points.specs.declared.tally.Tally.{Tally}
use Rattle.rk_points.proofs.tallies.Tallies.into_courses.Given as goal

-- the courses of the tallies so far
abbrev pub invariant-loop-tally : goal.invariant-loop-tally
invariant-loop-tally l = l.courses ≡ map course_of (filter (λ (tally : Tally). tally.now.live) l.yielded)
