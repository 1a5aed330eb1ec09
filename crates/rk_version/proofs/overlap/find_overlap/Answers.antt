use Rattle.std.proofs.Common.{sym, ap, ◌∙◌}
use Rattle.rk_bytes.specs.Model.Manifest.{overlapping_level}
use Rattle.rk_version.proofs.UnitLemmas.{apart_here, overlap_here, all_apart}
use Rattle.rk_version.proofs.overlap.find_overlap.Goals as goal

pub returns-in-Ok-Some : goal.returns-in-Ok-Some
returns-in-Ok-Some c why_not =
    overlap_here c.args.families.now c.loop-live.live-index c.live-item.result c.in-Ok-Some.level _ c.loop-live-test.true c.live-item.is
    (sym (rw c.in-Ok-Some.field-0-is at c.in-Ok-Some.ensures ∙ ap overlapping_level c.as_slice.ensures)) c.loop-live.invariant

pub loop-live-preserved : goal.loop-live-preserved
loop-live-preserved c =
    apart_here c.args.families.now c.loop-live.live-index c.live-item.result _ c.loop-live-test.true c.live-item.is
    (sym (rw c.in-Ok-None.field-0-is at c.in-Ok-None.ensures ∙ ap overlapping_level c.as_slice.ensures)) c.loop-live.invariant

pub returns : goal.returns
returns c = all_apart c.args.families.now c.loop-live.live-index _ c.loop-live-test.false c.loop-live.invariant
