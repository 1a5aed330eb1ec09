use Rattle.std.proofs.Common.{◌∙◌, ◌^◌, ap}
use Rattle.std.specs.Prelude.{filter}
use Rattle.std.specs.Option.{option_copied}
use Rattle.std.specs.FinMap.{values}
use Rattle.rk_view.specs.Places.{is_after}
use Rattle.rk_view.specs.Sources.{merged}
use Rattle.rk_view.specs.Shown.{rows_left}
use Rattle.rk_view.proofs.RowLemmas.{rows_begin, from_begin}
use Rattle.rk_view.proofs.walk.view_iter.Goals as goal

pub invariant_of-result : goal.invariant_of-result
invariant_of-result c = from_begin c.args.family c.start_of.result.now (merged c.of-cursors.result) (values c.args.state.now.state.records) c.of-cursors.ensures.values.numbered c.of-cursors.ensures.left

pub returns : goal.returns
returns c =
    let state = c.args.state.now.state in
    ap (λ tombs. rows_left tombs c.args.family (option_copied c.args.to) c.of-cursors.result) c.tombs.ensures
    ∙ rows_begin state c.args.family (option_copied c.args.from) (option_copied c.args.to) c.of-cursors.result c.of-cursors.ensures.values
    (c.of-cursors.ensures.left ∙ ap (λ user. filter (is_after c.args.family user (2 ^ 64)) (values state.records)) c.start_of.ensures)
