use Rattle.std.proofs.Common.{◌≡◌, ◌++◌, take}
use Rattle.rk_points.proofs.files.copy_behind.Given as goal

-- the files so far are copied
abbrev pub invariant-loop-file : goal.invariant-loop-file
invariant-loop-file l = l.files ≡ l.fn.files ++ take l.file-index l.more
