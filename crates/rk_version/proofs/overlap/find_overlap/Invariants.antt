use Rattle.std.proofs.Common.{◌≡◌, drop}
use Rattle.rk_bytes.specs.Model.Manifest.{overlap}
use Rattle.rk_version.proofs.overlap.find_overlap.Given as goal

-- files of the families so far don't overlap
abbrev pub invariant-loop-live : goal.invariant-loop-live
invariant-loop-live l = overlap (drop l.live-index l.families) ≡ overlap l.families
