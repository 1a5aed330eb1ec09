use Rattle.std.proofs.Common.{rules}
use Rattle.std.proofs.lemmas.List.Sorted.{answers_always}
use Rattle.rk_version.proofs.PlaceLemmas.{place_found}
use Rattle.rk_version.proofs.place.place_of_file.Goals as goal

pub returns : goal.returns
returns c =
    let facts = c.binary_search_by_key.ensures in
    place_found (λ file. file.number) c.args.number c.args.files.now _ c.requires facts.bound (facts.position (λ file. file.number) (answers_always _ _ _ (λ f a r g called. search rules)))
