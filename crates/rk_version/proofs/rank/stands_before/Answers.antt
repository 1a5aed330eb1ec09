use Rattle.std.proofs.Common.{sym, ap, arith, ◌∙◌}
use Rattle.std.specs.Ordering.{is_lt}
use Rattle.rk_version.specs.Bounds.{HasWholeBounds}
use Rattle.rk_version.specs.Rankings.{ranked}
use Rattle.rk_version.specs.Spots.{file_cmp}
use Rattle.rk_version.proofs.RankPlaces.{always_there, as_long, each_ranked, got, some_holds}
use Rattle.rk_version.proofs.rank.stands_before.Goals as goal

pub comes_before-requires-clause-own : goal.comes_before-requires-clause-own
comes_before-requires-clause-own c =
    some_holds HasWholeBounds (ranked c.args.files.now) c.args.place (each_ranked HasWholeBounds c.args.files.now c.requires.bounds) c.in-Some.other.now (sym c.in-Some.ensures)

pub unreachable-requires : goal.unreachable-requires
unreachable-requires c =
    let long = as_long c.args.files.now c.args.numbers.now c.requires.ranked in
    let within = c.requires.within in
    always_there (ranked c.args.files.now) c.args.place (omega (arith, long, within)) (sym c.in-None.ensures)

pub returns : goal.returns
returns c =
    c.comes_before.ensures ∙ ap (λ file. is_lt (file_cmp file c.args.file.now)) (sym (got (ranked c.args.files.now) c.args.place c.in-Some.other.now c.args.file.now (sym c.in-Some.ensures)))
