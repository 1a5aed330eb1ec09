use Rattle.std.proofs.Common.{◌-◌, ◌≤◌, vec_len}
use Rattle.std.specs.List.{All}
use Rattle.rk_view.specs.Parts.{IsRoom}
use Rattle.rk_view.proofs.runs.make_rooms.Given as goal

abbrev pub invariant-loop-alloc : goal.invariant-loop-alloc
invariant-loop-alloc l = record {
  each : All (λ room. IsRoom room) l.rooms.items;
  more : vec_len l.fn.rooms ≤ vec_len l.rooms;
}

abbrev pub decreases-loop-alloc : goal.decreases-loop-alloc
decreases-loop-alloc l = l.n - vec_len l.rooms
