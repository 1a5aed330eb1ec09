use Rattle.std.proofs.Common.{◌≡◌, ◌++◌, drop}
use Rattle.rk_version.specs.Keyed.{found_all}
use Rattle.rk_version.proofs.files.copy_found.Given as goal

-- the files so far, and those of the numbers that are left
abbrev pub invariant-loop-number : goal.invariant-loop-number
invariant-loop-number l = l.found ++ found_all (λ file. file.number) l.files (drop l.number-index l.numbers) ≡ found_all (λ file. file.number) l.files l.numbers
