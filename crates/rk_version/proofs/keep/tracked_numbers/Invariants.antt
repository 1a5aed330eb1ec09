use Rattle.std.proofs.Common.{◌≡◌, ◌++◌, length, filter_map}
use Rattle.rk_version.specs.Keeping.{tracked_in}
use Rattle.rk_version.proofs.keep.tracked_numbers.Given as goal

-- the numbers so far, and those of the fields that are left
abbrev pub invariant-loop-field : goal.invariant-loop-field
invariant-loop-field l = l.logs ++ filter_map tracked_in l.view ≡ filter_map tracked_in l.fn.view

abbrev pub decreases-loop-field : goal.decreases-loop-field
decreases-loop-field l = length l.view
