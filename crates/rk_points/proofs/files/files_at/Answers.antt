use Rattle.std.proofs.Common.{◌≡◌, flat_map, filter, subst}
use Rattle.std.specs.Result.{IfOk}
use Rattle.rk_bytes.specs.Model.Manifest.{has_id}
use Rattle.rk_points.proofs.ListLemmas.{files_there}
use Rattle.rk_points.proofs.files.files_at.Goals as goal

pub returns : goal.returns
returns c =
    files_there c.args.units.now c.args.point.now.family c.args.point.now.at c.in_ok-version.version c.files_of.result c.in_ok-version.ensures
    (subst (λ families. IfOk c.files_of.result (λ files. files ≡ flat_map (λ live. live.files) (filter (has_id c.args.point.now.family) families))) c.as_slice.ensures c.files_of.ensures)
