use Rattle.std.proofs.Common.{map, sym, subst, ◌∙◌}
use Rattle.std.proofs.lemmas.List.{length-map}
use Rattle.rk_version.specs.Units.{meaning}
use Rattle.rk_points.specs.Courses.{Follows}
use Rattle.rk_points.proofs.best.best_points.Goals as goal

pub returns : goal.returns
returns c =
    let means = map meaning c.args.units.now in
    c.descend.ensures means c.args.whole.now (subst (Follows means c.args.whole.now) (sym c.as_slice.ensures) c.in_ok-courses.ensures) (c.as_slice-2.ensures ∙ c.in_ok-groups.ensures) (sym (length-map c.args.units.now meaning))
