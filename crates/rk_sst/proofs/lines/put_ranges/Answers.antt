use Rattle.std.proofs.Common.{◌++◌, ap, ◌∙◌}
use Rattle.rk_bytes.specs.Model.Lines.{range_line}
use Rattle.rk_sst.proofs.LineLemmas.{put_next, put_all}
use Rattle.rk_sst.proofs.lines.put_ranges.Goals as goal

pub loop-range-preserved : goal.loop-range-preserved
loop-range-preserved c =
    let l = c.loop-range in
    put_next (range_line c.args.hex) c.args.ranges.now c.args.text.now l.text c.append.new.self l.range-index c.range-item.result c.loop-range-test.true c.range-item.is (c.in_ok-append.ensures.ok ∙ ap (λ line. l.text ++ line) (c.as_slice.ensures ∙ c.in_ok-set_range.ensures)) l.invariant

pub returns : goal.returns
returns c = put_all (range_line c.args.hex) c.args.ranges.now c.args.text.now c.loop-range.text c.loop-range.range-index c.loop-range-test.false c.loop-range.invariant
