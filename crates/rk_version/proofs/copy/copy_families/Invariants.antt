use Rattle.std.proofs.Common.{◌≡◌, take}
use Rattle.rk_version.proofs.copy.copy_families.Given as goal

-- the families so far are copied
abbrev pub invariant-loop-live : goal.invariant-loop-live
invariant-loop-live l = l.copies ≡ take l.live-index l.families
