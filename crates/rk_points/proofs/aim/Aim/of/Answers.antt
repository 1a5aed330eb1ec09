use Rattle.std.proofs.Common.{sym, subst}
use Rattle.rk_points.specs.Aims.{Continues}
use Rattle.rk_points.specs.declared.aim.Aim.{Aim}
use Rattle.rk_points.proofs.AimLemmas.{one_more, all_known}
use Rattle.rk_points.proofs.aim.Aim.of.Goals as goal

pub loop-field-preserved : goal.loop-field-preserved
loop-field-preserved c =
    subst (λ (aim : Aim). Continues aim c.next_field.new.self c.args.view) (sym c.with-aim.ensures)
    (one_more c.loop-field.aim c.in-Some.field c.next_field.new.self c.args.view (rw c.in-Some.ensures.given at c.loop-field.invariant))

pub returns : goal.returns
returns c = all_known c.loop-field.aim c.args.view (rw c.in_default.ensures.none.0 at c.loop-field.invariant)
