use Rattle.std.proofs.Common.{Ok, Some, sym, ap, ◌∙◌, subst}
use Rattle.rk_log.specs.Items.{piece_bytes}
use Rattle.rk_version.specs.declared.unit.Unit.{Unit as LentUnit}
use Rattle.rk_manifest.specs.Fronts.{edits_in, admits}
use Rattle.rk_manifest.specs.Groups.{TakesEdit}
use Rattle.rk_manifest.proofs.GroupLemmas.{takes_single}
use Rattle.rk_manifest.proofs.group.Begun.take_lent.Goals as goal

pub returns-in_ok-single-in-None : goal.returns-in_ok-single-in-None
returns-in_ok-single-in-None c =
    let begun = c.args.self.now in
    subst (λ (unit : LentUnit). TakesEdit (edits_in begun.edits) (piece_bytes c.args.edit) (Ok (Some unit)) (edits_in begun.edits)) (sym c.in_ok-single-in-None.ensures)
    (takes_single begun.left begun.edits c.args.edit begun.front (ap (admits begun.left) (sym c.in-None.is) ∙ c.requires.admits) (c.requires.states ∙ ap Ok c.in-None.is))
