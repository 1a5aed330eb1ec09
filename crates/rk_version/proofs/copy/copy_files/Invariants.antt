use Rattle.std.proofs.Common.{◌≡◌, take}
use Rattle.rk_version.proofs.copy.copy_files.Given as goal

-- the files so far are copied
abbrev pub invariant-loop-file : goal.invariant-loop-file
invariant-loop-file l = l.copies ≡ take l.file-index l.files
