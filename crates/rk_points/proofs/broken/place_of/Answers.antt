use Rattle.rk_version.proofs.PlaceLemmas.{place_found}
use Rattle.rk_points.proofs.broken.place_of.Goals as goal

pub returns : goal.returns
returns c = let facts = c.binary_search.ensures in place_found (λ number. number) c.args.number c.args.numbers.now _ c.requires facts.bound facts.position
