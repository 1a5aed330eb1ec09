use Rattle.std.proofs.Common.{◌≡◌, [], map, take}
use Rattle.rk_points.proofs.at_points.no_files.Given as goal

abbrev pub invariant-loop : goal.invariant-loop
invariant-loop l = l.each.items ≡ map (λ point. []) (take l.index l.points)
