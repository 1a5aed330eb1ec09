use Rattle.std.proofs.Common.{List, map, ap, ◌∙◌, subst}
use Rattle.std.specs.Prelude.{IfSome}
use Rattle.std.specs.FinMap.{get}
use Rattle.std.specs.Option.{option_map}
use Rattle.rk_bytes.specs.Model.BestEfforts.{usable}
use Rattle.rk_bytes.specs.Model.DiskImages.{contents_told}
use Rattle.rk_bytes.specs.Model.Manifest.{ManifestUnit, manifest_units}
use Rattle.rk_version.specs.Units.{meaning}
use Rattle.rk_open.specs.Answers.{AnswersBy}
use Rattle.rk_open.specs.Best.{best_of, best_if}
use Rattle.rk_open.proofs.UsableLemmas.{units_are}
use Rattle.rk_open.proofs.best_manifest.open_bytes.Goals as goal

pub returns-in-Ok-clause-best : goal.returns-in-Ok-clause-best
returns-in-Ok-clause-best g c =
    let same = ap (map meaning) c.as_slice.ensures ∙ units_are c.in-Ok.read.units (manifest_units c.args.bytes.now).units c.in-Ok.ensures.units.units in
    subst (λ (units : List ManifestUnit). IfSome (contents_told (g.D.Disk.told c.args.disk.now)) (λ d. AnswersBy (option_map best_of) (best_if (get d) c.args.number (usable units)) c.open_read.result)) same c.open_read.ensures.best
