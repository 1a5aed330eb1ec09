use Rattle.std.proofs.Common.{◌≡◌, ◌≤◌, vec_len, vec_capacity}
use Rattle.std.specs.List.{All}
use Rattle.rk_view.specs.Maps.{IsRun, map_of}
use Rattle.rk_view.proofs.runs.shrink.Given as goal

abbrev pub invariant-loop-alloc : goal.invariant-loop-alloc
invariant-loop-alloc l = record {
  each : All (λ run. IsRun run) l.runs.items;
  same : map_of l.runs.items ≡ map_of l.fn.runs.items;
  len : vec_len l.runs ≤ vec_len l.fn.runs;
  capacity : vec_capacity l.runs ≡ vec_capacity l.fn.runs;
}

abbrev pub decreases-loop-alloc : goal.decreases-loop-alloc
decreases-loop-alloc l = vec_len l.runs
