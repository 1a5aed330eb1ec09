use Rattle.std.proofs.Common.{◌≡◌, length, filter_map}
use Rattle.rk_bytes.specs.Model.VersionEdit.{deleted_in}
use Rattle.rk_points.specs.Tallies.{without_all}
use Rattle.rk_points.proofs.tally.remove_files.Given as goal

-- what the fields that are left make of the broken files is what all fields make of the first ones
abbrev pub invariant-loop-field : goal.invariant-loop-field
invariant-loop-field l = without_all (filter_map deleted_in l.view) l.broken ≡ without_all (filter_map deleted_in l.fn.view) l.fn.broken

abbrev pub decreases-loop-field : goal.decreases-loop-field
decreases-loop-field l = length l.view
