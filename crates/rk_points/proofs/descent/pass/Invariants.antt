use Rattle.std.proofs.Common.{◌≡◌, ◌<◌, ◌≤◌, true, false}
use Rattle.std.specs.List.{sum_by}
use Rattle.rk_points.specs.declared.descent.Stand.{Stand}
use Rattle.rk_points.specs.Descents.{AreSound, passed}
use Rattle.rk_points.proofs.descent.pass.Given as goal

-- the groups that are left make of these families what all groups make of the first ones
abbrev pub invariant-loop-place : goal.invariant-loop-place
invariant-loop-place l = record {
  passed : AreSound l.initial.stands → AreSound l.stands × (passed l.place-iterator.iter.rest.now l.stands ≡ passed l.groups l.initial.stands);
  most : sum_by (λ (stand : Stand). stand.at) l.stands ≤ sum_by (λ (stand : Stand). stand.at) l.initial.stands;
  lower : l.lowered ≡ true → sum_by (λ (stand : Stand). stand.at) l.stands < sum_by (λ (stand : Stand). stand.at) l.initial.stands;
  same : l.lowered ≡ false → l.stands ≡ l.initial.stands;
}
