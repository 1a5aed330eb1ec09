use Rattle.std.proofs.Common.{◌≡◌, ℕ}
use Rattle.std.specs.List.{sum_by}
use Rattle.rk_points.specs.declared.descent.Stand.{Stand}
use Rattle.rk_points.specs.Descents.{AreSound, passed_times}
use Rattle.rk_points.proofs.descent.settle.Given as goal

-- the families after some passes
abbrev pub invariant-loop : goal.invariant-loop
invariant-loop l = AreSound l.initial.stands → AreSound l.stands × ((n : ℕ) × (l.stands ≡ passed_times n l.groups l.initial.stands))

abbrev pub decreases-loop : goal.decreases-loop
decreases-loop l = sum_by (λ (stand : Stand). stand.at) l.stands
