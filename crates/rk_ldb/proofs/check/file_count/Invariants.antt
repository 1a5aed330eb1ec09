use Rattle.std.proofs.Common.{◌≡◌, ◌-◌, ◌^◌, ◌≤◌, min, length, map, take}
use Rattle.std.specs.Prelude.{sum}
use Rattle.rk_ldb.proofs.check.file_count.Given as goal

-- the count of the tables of the families so far
abbrev pub invariant-loop-line : goal.invariant-loop-line
invariant-loop-line l = (l.count ≡ min (sum (take l.line-index (map (λ line. line.files) l.families))) (2 ^ 64 - 1)) × (l.line-index ≤ length l.families)
