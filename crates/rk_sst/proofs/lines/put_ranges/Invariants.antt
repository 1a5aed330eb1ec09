use Rattle.rk_bytes.specs.Model.Lines.{range_line}
use Rattle.rk_sst.proofs.LineLemmas.{IsPut}
use Rattle.rk_sst.proofs.lines.put_ranges.Given as goal

-- the lines of those before are put
abbrev pub invariant-loop-range : goal.invariant-loop-range
invariant-loop-range l = IsPut (range_line l.hex) l.ranges l.initial.text l.range-index l.text
