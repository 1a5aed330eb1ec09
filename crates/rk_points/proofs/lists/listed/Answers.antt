use Rattle.std.proofs.Common.{◌++◌, flat_map, ap, ◌∙◌}
use Rattle.rk_version.specs.Units.{edits_of}
use Rattle.rk_points.specs.Lists.{files_in}
use Rattle.rk_points.proofs.ListLemmas.{listed_more}
use Rattle.rk_points.proofs.lists.listed.Goals as goal

pub loop-unit-preserved : goal.loop-unit-preserved
loop-unit-preserved c =
    listed_more c.args.units.now c.loop-unit.unit-index c.unit-item.result c.loop-unit.files c.list_pieces.new.files _ c.loop-unit-test.true c.unit-item.is
    (c.in_ok-list_pieces.ensures ∙ ap (λ pieces. c.loop-unit.files ++ flat_map files_in (edits_of pieces)) c.as_slice.ensures) c.loop-unit.invariant
