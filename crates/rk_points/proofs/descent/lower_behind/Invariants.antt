use Rattle.std.proofs.Common.{◌≡◌, ◌<◌, ◌≤◌, ◌++◌, true, false, take, drop}
use Rattle.std.specs.List.{sum_by}
use Rattle.rk_points.specs.declared.descent.Stand.{Stand}
use Rattle.rk_points.specs.Descents.{AreSound, held_each}
use Rattle.rk_points.proofs.descent.lower_behind.Given as goal

-- the families so far are held, and the others are as they were
abbrev pub invariant-loop-stand : goal.invariant-loop-stand
invariant-loop-stand l = record {
  held : AreSound l.initial.stands → l.stands ≡ held_each l.place (take l.stand-index l.initial.stands) ++ drop l.stand-index l.initial.stands;
  most : sum_by (λ (stand : Stand). stand.at) l.stands ≤ sum_by (λ (stand : Stand). stand.at) l.initial.stands;
  lower : l.lowered ≡ true → sum_by (λ (stand : Stand). stand.at) l.stands < sum_by (λ (stand : Stand). stand.at) l.initial.stands;
  same : l.lowered ≡ false → l.stands ≡ l.initial.stands;
}
