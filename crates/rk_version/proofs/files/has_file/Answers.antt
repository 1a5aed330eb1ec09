use Rattle.std.proofs.Common.{◌∙◌}
use Rattle.rk_version.proofs.PlaceLemmas.{answered}
use Rattle.rk_version.proofs.files.has_file.Goals as goal

pub returns : goal.returns
returns c = c.is_ok.ensures.value ∙ answered (λ file. file.number) c.args.number c.args.files.now c.place_of_file.result c.place_of_file.ensures
