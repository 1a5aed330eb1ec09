use Rattle.std.proofs.Common.{◌-◌, ◌≡◌, ◌≤◌, false, length, take, drop}
use Rattle.std.specs.List.{AllByRecursion}
use Rattle.std.specs.declared.cmp.Ordering.TheVariants.{Less}
use Rattle.std.specs.Ordering.{is_lt}
use Rattle.rk_version.specs.Rankings.{ranked}
use Rattle.rk_version.specs.Spots.{file_cmp}
use Rattle.rk_version.proofs.rank.rank_of.Given as goal

-- files in front of the low place come before the file, and those behind the high one don't
abbrev pub invariant-loop-low : goal.invariant-loop-low
invariant-loop-low l =
    (l.low ≤ l.high) × (l.high ≤ length l.numbers) × AllByRecursion (λ other. file_cmp other l.file ≡ Less) (take l.low (ranked l.files))
    × AllByRecursion (λ other. is_lt (file_cmp other l.file) ≡ false) (drop l.high (ranked l.files))

abbrev pub decreases-loop-low : goal.decreases-loop-low
decreases-loop-low l = l.high - l.low
