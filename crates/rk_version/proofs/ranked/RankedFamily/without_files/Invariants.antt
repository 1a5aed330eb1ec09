use Rattle.std.proofs.Common.{◌≡◌, drop}
use Rattle.rk_bytes.specs.declared.model.manifest.FamilyState.{FamilyState}
use Rattle.rk_version.specs.Keyed.{without_all}
use Rattle.rk_version.proofs.ranked.RankedFamily.without_files.Given as goal

-- without the files that are left to go, this is the family without all of them
abbrev pub invariant-loop-number : goal.invariant-loop-number
invariant-loop-number l =
    let now : FamilyState = l.family in
    let first : FamilyState = l.fn.self in
    record now { files = without_all (λ file. file.number) (drop l.number-index l.numbers) now.files } ≡ record first { files = without_all (λ file. file.number) l.numbers first.files }
