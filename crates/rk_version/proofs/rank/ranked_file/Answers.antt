use Rattle.std.proofs.Common.{Some, ap, ◌∙◌}
use Rattle.rk_version.proofs.RankPlaces.{found, not_free}
use Rattle.rk_version.proofs.rank.ranked_file.Goals as goal

pub unreachable-requires : goal.unreachable-requires
unreachable-requires c = not_free c.args.files.now c.args.numbers.now c.args.place c.requires.ranked c.if-place-numbers.false c.in-Err.field-0 c.in-Err.ensures

pub returns : goal.returns
returns c =
    ap Some c.index-files-at.is ∙ found c.args.files.now c.args.numbers.now c.args.place c.requires.ranked c.if-place-numbers.false c.in-Ok.at c.index-files-at.result c.in-Ok.ensures
