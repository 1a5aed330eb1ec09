use Rattle.std.proofs.Common.{◌≡◌, ◌++◌, take}
use Rattle.std.specs.Prelude.{None, flat_map}
use Rattle.rk_view.specs.Kept.{tombs_of}
use Rattle.rk_view.proofs.state.add_tombs.Given as goal

abbrev pub invariant-loop-record : goal.invariant-loop-record
invariant-loop-record l = l.tombs ≡ l.fn.tombs ++ flat_map (tombs_of None) (take l.record-index l.records)
