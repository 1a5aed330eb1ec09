use Rattle.std.proofs.Common.{◌∙◌}
use Rattle.rk_version.proofs.PlaceLemmas.{answered}
use Rattle.rk_version.proofs.families.has_id.Goals as goal

pub returns : goal.returns
returns c = c.is_ok.ensures.value ∙ answered (λ live. live.id) c.args.id c.args.families.now c.place_of_family.result c.place_of_family.ensures
