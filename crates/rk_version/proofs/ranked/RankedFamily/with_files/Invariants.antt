use Rattle.std.proofs.Common.{◌≡◌, drop}
use Rattle.rk_bytes.specs.declared.model.manifest.FamilyState.{FamilyState}
use Rattle.rk_version.specs.Keyed.{put_all}
use Rattle.rk_version.proofs.ranked.RankedFamily.with_files.Given as goal

-- with the files that are left to come, this is the family with all of them
abbrev pub invariant-loop-file : goal.invariant-loop-file
invariant-loop-file l =
    let now : FamilyState = l.family in
    let first : FamilyState = l.fn.self in
    record now { files = put_all (λ file. file.number) (drop l.file-index l.files) now.files } ≡ record first { files = put_all (λ file. file.number) l.files first.files }
