use Rattle.std.proofs.Common.{◌+◌, ◌≤◌}
use Rattle.rk_bytes.specs.declared.model.block.RangeDel.{RangeDel}
use Rattle.rk_bytes.specs.Model.InternalKey.{top_sequence}
use Rattle.rk_open.specs.Tables.{listed_of}
use Rattle.rk_open.proofs.AddLemmas.{adds_none, each_left, range_more}
use Rattle.rk_open.proofs.ranges.add_ranges.Goals as goal

pub loop-range-init : goal.loop-range-init
loop-range-init c = record { added = adds_none c.args.state.now.state; sequences = c.requires.sequences }

pub loop-range-preserved : goal.loop-range-preserved
loop-range-preserved c = record {
  added = range_more (listed_of c.args.listed.now) c.args.ranges.now c.loop-range.range-index c.range-item.result c.args.state.now.state c.loop-range.state.state c.add_range.new.state.state c.range-item.is c.loop-range-test.true c.loop-range.invariant.added c.in_ok-add_range.ensures;
  sequences = each_left (λ (range : RangeDel). range.sequence ≤ top_sequence) (c.loop-range.range-index + 1) c.args.ranges.now c.requires.sequences;
}
