use Rattle.std.proofs.Common.{◌≡◌, ◌++◌, length, filter_map}
use Rattle.rk_version.specs.Keeping.{touched_in}
use Rattle.rk_version.proofs.keep.touched_numbers.Given as goal

-- the numbers so far, and those of the fields that are left
abbrev pub invariant-loop-field : goal.invariant-loop-field
invariant-loop-field l = l.numbers ++ filter_map touched_in l.view ≡ filter_map touched_in l.fn.view

abbrev pub decreases-loop-field : goal.decreases-loop-field
decreases-loop-field l = length l.view
