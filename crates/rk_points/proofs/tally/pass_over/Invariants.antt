use Rattle.std.proofs.Common.{◌≡◌, length, filter_map}
use Rattle.rk_bytes.specs.Model.VersionEdit.{added_in}
use Rattle.rk_points.specs.Tallies.{answers_after}
use Rattle.rk_points.proofs.tally.pass_over.Given as goal

-- what the fields that are left leave of these answers is what all fields leave of all
abbrev pub invariant-loop-field : goal.invariant-loop-field
invariant-loop-field l = answers_after (filter_map added_in l.view) l.left ≡ answers_after (filter_map added_in l.fn.view) l.fn.answers

abbrev pub decreases-loop-field : goal.decreases-loop-field
decreases-loop-field l = length l.view
