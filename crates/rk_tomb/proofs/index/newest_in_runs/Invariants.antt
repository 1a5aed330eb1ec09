use Rattle.std.proofs.Common.{◌≡◌, length}
use Rattle.std.specs.List.{All}
use Rattle.rk_tomb.specs.Weights.{record_of, newest}
use Rattle.rk_tomb.specs.Index.{tombs_of, IsPlaced, AreRuns}
use Rattle.rk_tomb.proofs.index.newest_in_runs.Given as goal

abbrev pub invariant-loop-rest : goal.invariant-loop-rest
invariant-loop-rest l =
    All (IsPlaced (length l.tombs)) l.rest
    × AreRuns l.tombs l.rest
    × (newest (record_of l.lookup) l.newest (tombs_of l.tombs l.rest) ≡ newest (record_of l.lookup) l.floor (tombs_of l.tombs l.nodes))

abbrev pub decreases-loop-rest : goal.decreases-loop-rest
decreases-loop-rest l = length l.rest
