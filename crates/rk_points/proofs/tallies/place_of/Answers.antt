use Rattle.std.proofs.Common.{rules}
use Rattle.std.proofs.lemmas.List.Sorted.{answers_always}
use Rattle.rk_version.proofs.PlaceLemmas.{place_found}
use Rattle.rk_points.proofs.tallies.place_of.Goals as goal

pub returns : goal.returns
returns c =
    let facts = c.binary_search_by_key.ensures in
    place_found (λ tally. tally.family) c.args.id c.args.tallies.now _ c.requires facts.bound (facts.position (λ tally. tally.family) (answers_always _ _ _ (λ f a r g called. search rules)))
