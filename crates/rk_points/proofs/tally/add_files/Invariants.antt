use Rattle.std.proofs.Common.{◌≡◌, length, filter_map}
use Rattle.rk_bytes.specs.Model.VersionEdit.{added_in}
use Rattle.rk_points.specs.Tallies.{with_all, answers_after}
use Rattle.rk_points.proofs.tally.add_files.Given as goal

-- what the fields that are left make of the broken files and answers is what all fields make of the first ones
abbrev pub invariant-loop-field : goal.invariant-loop-field
invariant-loop-field l = record {
  broken : with_all (filter_map added_in l.view) l.left l.broken ≡ with_all (filter_map added_in l.fn.view) l.fn.answers l.fn.broken;
  left : answers_after (filter_map added_in l.view) l.left ≡ answers_after (filter_map added_in l.fn.view) l.fn.answers;
}

abbrev pub decreases-loop-field : goal.decreases-loop-field
decreases-loop-field l = length l.view
