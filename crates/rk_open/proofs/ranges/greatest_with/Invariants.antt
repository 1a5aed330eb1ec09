use Rattle.std.proofs.Common.{◌≡◌, map, fold, max, drop}
use Rattle.rk_bytes.specs.declared.model.block.RangeDel.{RangeDel}
use Rattle.rk_open.proofs.ranges.greatest_with.Given as goal

abbrev pub invariant-loop-range : goal.invariant-loop-range
invariant-loop-range l = fold max l.top (map (λ (range : RangeDel). range.sequence) (drop l.range-index l.ranges)) ≡ fold max l.fn.top (map (λ (range : RangeDel). range.sequence) l.ranges)
