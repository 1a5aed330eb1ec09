use Rattle.std.proofs.Common.{◌∙◌, sym}
use Rattle.rk_view.proofs.SourceLemmas.{none_behind}
use Rattle.rk_view.proofs.source.skip_one.Goals as goal

pub returns-clause-ok : goal.returns-clause-ok
returns-clause-ok g c =
    let place = c.args.place.now in
    sym (none_behind place.family place.user.now place.below (g.S.Source.left c.loop-source.source) c.loop-source.invariant.run.rises c.loop-source-test.ensures) ∙ c.loop-source.invariant.same
