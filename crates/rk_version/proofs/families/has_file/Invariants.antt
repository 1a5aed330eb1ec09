use Rattle.std.proofs.Common.{◌≡◌, false, take}
use Rattle.std.specs.List.{list_any}
use Rattle.rk_bytes.specs.Model.Manifest.{has_number}
use Rattle.rk_version.proofs.families.has_file.Given as goal

-- no family so far has the file
abbrev pub invariant-loop-live : goal.invariant-loop-live
invariant-loop-live l = list_any (λ live. list_any (has_number l.number) live.files) (take l.live-index l.families) ≡ false
