use Rattle.std.proofs.Common.{◌≡◌, flat_map, filter, take}
use Rattle.rk_bytes.specs.Model.Manifest.{has_id}
use Rattle.rk_points.proofs.files.files_of.Given as goal

-- the files of the families so far
abbrev pub invariant-loop-live : goal.invariant-loop-live
invariant-loop-live l = l.files ≡ flat_map (λ live. live.files) (filter (has_id l.id) (take l.live-index l.families))
