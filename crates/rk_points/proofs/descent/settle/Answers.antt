use Rattle.std.proofs.Common.{suc, subst, sym, ap, ◌∙◌}
use Rattle.rk_points.specs.Descents.{AreSound, passed}
use Rattle.rk_points.proofs.StandLemmas.{sound_passed}
use Rattle.rk_points.proofs.descent.settle.Goals as goal

pub loop-preserved : goal.loop-preserved
loop-preserved c first =
    let (sound, (n, told)) = c.loop.invariant first in
    let now = c.pass.ensures.passed sound in
    (subst AreSound (sym now) (sound_passed c.args.groups.now c.loop.stands sound), (suc n, now ∙ ap (passed c.args.groups.now) told))
