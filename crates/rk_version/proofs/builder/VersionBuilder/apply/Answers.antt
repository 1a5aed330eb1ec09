use Rattle.std.proofs.Common.{Ok, sym, ap, ◌∙◌}
use Rattle.std.proofs.lemmas.Result.{err_from_is_err_and}
use Rattle.rk_bytes.specs.Model.Manifest.{unit_step}
use Rattle.rk_version.specs.Units.{meaning}
use Rattle.rk_version.proofs.UnitLemmas.{one_meaning}
use Rattle.rk_version.proofs.builder.VersionBuilder.apply.Goals as goal

pub returns-in_err-after : goal.returns-in_err-after
returns-in_err-after c =
    let told = err_from_is_err_and c.from_residual.result c.from_residual.ensures.1 in
    let unit = c.args.unit.now in
    record {
      applies = λ means is. rw (told.1, told.2) (
        c.self.view_is,
        (λ why_not. ap (λ means. unit_step means c.args.self.now) (one_meaning unit means is) ∙ ap (unit_step (meaning unit)) (sym (c.in-Ok.ensures.same ∙ c.self.view_is)) ∙ c.in_err-after.ensures why_not),
      );
    }

pub returns : goal.returns
returns c =
    let unit = c.args.unit.now in
    record {
      applies = λ means is.
          ap (λ means. unit_step means c.args.self.now) (one_meaning unit means is) ∙ ap (unit_step (meaning unit)) (sym (c.in-Ok.ensures.same ∙ c.self.view_is))
          ∙ c.in_ok-after.ensures ∙ ap Ok (sym c.replace-old.ensures.after);
    }
