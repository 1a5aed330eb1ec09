use Rattle.std.proofs.Common.{◌≡◌, ◌++◌, length}
use Rattle.rk_points.specs.Lists.{files_in}
use Rattle.rk_points.proofs.lists.list_fields.Given as goal

-- the files so far, and those of the fields that are left
abbrev pub invariant-loop-field : goal.invariant-loop-field
invariant-loop-field l = l.files ++ files_in l.view ≡ l.fn.files ++ files_in l.fn.view

abbrev pub decreases-loop-field : goal.decreases-loop-field
decreases-loop-field l = length l.view
