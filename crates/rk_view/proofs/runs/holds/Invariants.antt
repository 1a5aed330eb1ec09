use Rattle.std.proofs.Common.{◌≡◌, take}
use Rattle.std.specs.FinMap.{contains_key}
use Rattle.rk_bytes.specs.Model.Records.{slot_of}
use Rattle.rk_view.specs.Maps.{map_of}
use Rattle.rk_view.proofs.runs.holds.Given as goal

abbrev pub invariant-loop-index : goal.invariant-loop-index
invariant-loop-index l = l.held ≡ contains_key (map_of (take l.index l.runs)) (slot_of l.sought)
