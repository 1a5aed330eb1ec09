use Rattle.std.proofs.Common.{◌≡◌, [], map, take}
use Rattle.rk_bytes.specs.Model.Opening.{family_line, state_with}
use Rattle.rk_open.proofs.state.add_families.Given as goal

-- the families so far are added
abbrev pub invariant-loop-live : goal.invariant-loop-live
invariant-loop-live l = l.state.state ≡ state_with (map family_line (take l.live-index l.families)) [] []
