use Rattle.std.proofs.Common.{Ok, sym, ap, ◌∙◌}
use Rattle.std.proofs.lemmas.Result.{err_from_is_err_and}
use Rattle.rk_bytes.specs.Model.Manifest.{unit_step}
use Rattle.rk_version.specs.Units.{meaning}
use Rattle.rk_version.proofs.UnitLemmas.{one_meaning}
use Rattle.rk_version.proofs.builder.VersionBuilder.apply_undo.Goals as goal

pub returns-in_err-after-clause-applies : goal.returns-in_err-after-clause-applies
returns-in_err-after-clause-applies c =
    let told = err_from_is_err_and c.from_residual.result c.from_residual.ensures.1 in
    let unit = c.args.unit.now in
    λ means is. rw (told.1, told.2) (
      c.self.view_is,
      (λ why_not. ap (λ means. unit_step means c.args.self.now) (one_meaning unit means is) ∙ ap (unit_step (meaning unit)) (sym (c.in-Ok.ensures.same ∙ c.self.view_is)) ∙ c.in_err-after.ensures why_not),
    )

pub returns-clause-applies : goal.returns-clause-applies
returns-clause-applies c =
    let unit = c.args.unit.now in
    λ means is.
    ap (λ means. unit_step means c.args.self.now) (one_meaning unit means is) ∙ ap (unit_step (meaning unit)) (sym (c.in-Ok.ensures.same ∙ c.self.view_is))
    ∙ c.in_ok-after.ensures.0 ∙ ap Ok (sym c.replace-old.ensures.after)
