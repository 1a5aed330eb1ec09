use Rattle.std.proofs.Common.{◌≡◌, ◌≤◌, length}
use Rattle.rk_points.specs.Descents.{IsSound, last_whole}
use Rattle.rk_points.proofs.DescentTurns.{Parts}
use Rattle.rk_points.proofs.descent.last_whole.Given as goal

-- So many turns are at the point or before it, and no later point is whole.
abbrev pub invariant-loop-left : goal.invariant-loop-left
invariant-loop-left l = (l.left ≤ length l.turns) × (IsSound l.turns → Parts l.turns l.at l.left × (last_whole l.turns l.at ≡ last_whole l.turns l.fn.point))

abbrev pub decreases-loop-left : goal.decreases-loop-left
decreases-loop-left l = l.left
