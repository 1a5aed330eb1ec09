use Rattle.std.proofs.Common.{◌≡◌, drop}
use Rattle.std.specs.List.{list_any}
use Rattle.rk_points.specs.Descents.{AreSound, is_before}
use Rattle.rk_points.proofs.descent.has_before.Given as goal

-- no family so far stands before the group
abbrev pub invariant-loop-stand : goal.invariant-loop-stand
invariant-loop-stand l = AreSound l.stands → list_any (is_before l.place) (drop l.stand-index l.stands) ≡ list_any (is_before l.place) l.stands
