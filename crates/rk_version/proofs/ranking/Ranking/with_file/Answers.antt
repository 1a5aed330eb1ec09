use Rattle.std.proofs.Common.{false, insert, ◌≡◌, sym, ap, subst, ◌∙◌}
use Rattle.std.specs.List.{list_any}
use Rattle.rk_bytes.specs.Model.Manifest.{has_number, add_meta}
use Rattle.rk_version.specs.declared.ranking.Ranking.{Ranking}
use Rattle.rk_version.specs.Places.{Rises}
use Rattle.rk_version.specs.Rankings.{ranked_numbers, ranking_of}
use Rattle.rk_version.proofs.RankChanges.{kept_more}
use Rattle.rk_version.proofs.ranking.Ranking.with_file.Goals as goal

pub returns : goal.returns
returns c =
    let file = c.args.file.now in
    let files = c.as_slice-files.result.now in
    let same = c.as_slice-files.ensures in
    let rises = subst (Rises (λ file. file.number)) (sym same) c.requires.order.rise in
    let free = subst (λ files. list_any (has_number file.number) files ≡ false) (sym same) c.requires.free in
    let before = c.into_vec-numbers.ensures ∙ ap (λ (r : Ranking). r.numbers) c.requires.kept ∙ ap ranked_numbers (sym same) in
    kept_more file files c.rank_of-place.result c.clashes_with-clashes.result c.from_vec.result rises free c.rank_of-place.ensures
    (c.from_vec.ensures ∙ c.in_ok-insert.ensures.items ∙ ap (λ numbers. insert numbers c.rank_of-place.result file.number) before) c.clashes_with-clashes.ensures
    ∙ ap (λ files. ranking_of (add_meta file files)) same
