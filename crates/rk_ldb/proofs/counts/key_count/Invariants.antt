use Rattle.std.proofs.Common.{◌≡◌, ◌-◌, ◌^◌, ◌≤◌, min, length, map, take, None}
use Rattle.std.specs.Prelude.{sum}
use Rattle.rk_bytes.specs.Model.KeyView.{rows}
use Rattle.rk_ldb.proofs.counts.key_count.Given as goal

-- the count of the rows of the families so far
abbrev pub invariant-loop-line : goal.invariant-loop-line
invariant-loop-line l = (l.count ≡ min (sum (take l.line-index (map (λ line. length (rows l.state.state line.id None None)) l.state.state.families))) (2 ^ 64 - 1)) × (l.line-index ≤ length l.state.state.families)
