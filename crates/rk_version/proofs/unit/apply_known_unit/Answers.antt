use Rattle.std.proofs.Common.{sym, ap, ◌∙◌}
use Rattle.rk_bytes.specs.Model.Manifest.{steps_in_order, edit_step}
use Rattle.rk_version.specs.Units.{edits_of, meaning}
use Rattle.rk_version.proofs.UnitLemmas.{known_end}
use Rattle.rk_version.proofs.unit.apply_known_unit.Goals as goal

pub returns-in-Ok : goal.returns-in-Ok
returns-in-Ok c =
    let pieces = ap (λ pieces. steps_in_order edit_step (edits_of pieces) c.args.draft) c.as_slice.ensures in
    known_end (meaning c.args.unit.now) c.args.draft c.requires.known c.in-Ok.draft (sym pieces ∙ c.in-Ok.ensures)
