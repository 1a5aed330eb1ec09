use Rattle.std.proofs.Common.{map, take, drop}
use Rattle.rk_bytes.specs.Model.Opening.{range_record}
use Rattle.rk_table.specs.Steps.{AreBelowTop}
use Rattle.rk_open.specs.Tables.{listed_of, Adds, cut_ranges}
use Rattle.rk_open.proofs.ranges.add_ranges.Given as goal

-- the range deletions so far are added
abbrev pub invariant-loop-range : goal.invariant-loop-range
invariant-loop-range l = record {
  added : Adds (map (range_record l.listed.family) (take l.range-index l.ranges)) (cut_ranges (listed_of l.listed) (take l.range-index l.ranges)) l.fn.state.state l.state.state;
  sequences : AreBelowTop (drop l.range-index l.ranges);
}
