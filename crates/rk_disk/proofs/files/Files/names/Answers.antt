use Rattle.std.proofs.Common.{map, string_bytes, ap, sym, ◌∙◌}
use Rattle.std.proofs.lemmas.Simd.{map-map}
use Rattle.std.specs.FinMap as directory
use Rattle.std.specs.Map.Iter.{deref}
use Rattle.std.proofs.lemmas.Map.Iter.{iter_end}
use Rattle.rk_disk.proofs.ByName.{keys-parts_by_name}
use Rattle.rk_disk.proofs.files.Files.names.Goals as goal

pub returns : goal.returns
returns c =
    let start = c.into_iter-name-iterator.ensures.into_iter_gives ∙ c.keys-name-items.ensures.rest in
    let all = iter_end deref _ _ _ _ _ _ start c.loop-name.yielded_by c.in-None.is c.next.ensures.steps in
    c.loop-name.invariant
    ∙ sym (map-map string_bytes deref c.loop-name.yielded)
    ∙ ap (map string_bytes) all.0
    ∙ sym (keys-parts_by_name _ c.self.inside.by_name.entries c.keys-name-items.ensures.ordered)
    ∙ ap (λ files. directory.keys files.contents) c.self.view_is
