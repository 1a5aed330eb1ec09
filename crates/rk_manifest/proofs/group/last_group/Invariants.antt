use Rattle.std.proofs.Common.{◌≡◌, length}
use Rattle.std.specs.Prelude.{filter_map}
use Rattle.std.specs.List.{last_or}
use Rattle.rk_bytes.specs.Model.VersionEdit.{group_in}
use Rattle.rk_bytes.specs.Model.Manifest.{stated}
use Rattle.rk_manifest.proofs.group.last_group.Given as goal

-- what was stated last so far, and what the fields that are left state
abbrev pub invariant-loop-field : goal.invariant-loop-field
invariant-loop-field l = last_or l.left (filter_map group_in l.fields) ≡ stated group_in l.initial.fields

abbrev pub decreases-loop-field : goal.decreases-loop-field
decreases-loop-field l = length l.fields
