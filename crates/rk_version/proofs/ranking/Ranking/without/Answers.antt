use Rattle.std.proofs.Common.{remove, sym, ap, ◌∙◌, arith}
use Rattle.rk_version.specs.declared.ranking.Ranking.{Ranking}
use Rattle.rk_version.proofs.RankChanges.{kept_less, own_place}
use Rattle.rk_version.proofs.RankPlaces.{as_long}
use Rattle.rk_version.proofs.ranking.Ranking.without.Goals as goal

pub clashes_without-clashes-requires-clause-within : goal.clashes_without-clashes-requires-clause-within
clashes_without-clashes-requires-clause-within c =
    let own = own_place c.args.at c.args.files.now c.index-files-at.result c.rank_of-place.result c.requires.rise c.requires.within c.index-files-at.is c.rank_of-place.ensures in
    let within = own.within in
    let long = as_long c.args.files.now c.deref-2.result.now (c.deref-2.ensures.value ∙ c.into_vec-numbers.ensures ∙ ap (λ (r : Ranking). r.numbers) c.requires.kept) in
    omega (arith, within, long)

pub clashes_without-clashes-requires-clause-there : goal.clashes_without-clashes-requires-clause-there
clashes_without-clashes-requires-clause-there c =
    let own = own_place c.args.at c.args.files.now c.index-files-at.result c.rank_of-place.result c.requires.rise c.requires.within c.index-files-at.is c.rank_of-place.ensures in
    sym (own.is c.index-files-at.result)

pub remove-requires : goal.remove-requires
remove-requires c =
    let own = own_place c.args.at c.args.files.now c.index-files-at.result c.rank_of-place.result c.requires.rise c.requires.within c.index-files-at.is c.rank_of-place.ensures in
    let within = own.within in
    let long = as_long c.args.files.now c.deref-2.result.now (c.deref-2.ensures.value ∙ c.into_vec-numbers.ensures ∙ ap (λ (r : Ranking). r.numbers) c.requires.kept) in
    let len = c.deref-2.ensures.len in
    omega (arith, within, long, len)

pub returns : goal.returns
returns c =
    kept_less c.args.at c.args.files.now c.index-files-at.result c.rank_of-place.result c.requires.rise c.requires.within c.index-files-at.is c.rank_of-place.ensures c.clashes_without-clashes.result c.from_vec.result
    (c.from_vec.ensures ∙ c.remove.ensures.items ∙ ap (λ numbers. remove numbers c.rank_of-place.result) (c.into_vec-numbers.ensures ∙ ap (λ (r : Ranking). r.numbers) c.requires.kept)) c.clashes_without-clashes.ensures
