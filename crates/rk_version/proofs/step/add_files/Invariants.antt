use Rattle.std.proofs.Common.{◌≡◌, length, filter_map}
use Rattle.rk_bytes.specs.Model.VersionEdit.{added_in}
use Rattle.rk_bytes.specs.Model.Manifest.{steps_in_order, add_step}
use Rattle.rk_version.proofs.step.add_files.Given as goal

-- what is left to add makes of this version what all fields make of the first one
abbrev pub invariant-loop-field : goal.invariant-loop-field
invariant-loop-field l =
    steps_in_order (add_step l.id) (filter_map added_in l.view) l.draft ≡ steps_in_order (add_step l.id) (filter_map added_in l.fn.view) l.fn.draft

abbrev pub decreases-loop-field : goal.decreases-loop-field
decreases-loop-field l = length l.view
