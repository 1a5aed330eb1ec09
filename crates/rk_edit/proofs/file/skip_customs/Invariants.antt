use Rattle.std.proofs.Common.{length}
use Rattle.rk_bytes.specs.Reading.{rest_of}
use Rattle.rk_edit.proofs.Customs.{Skips}
use Rattle.rk_edit.proofs.file.skip_customs.Given as goal

abbrev pub invariant-loop-tag : goal.invariant-loop-tag
invariant-loop-tag l = Skips l.place l.initial.cursor l.cursor

abbrev pub decreases-loop-tag : goal.decreases-loop-tag
decreases-loop-tag l = length (rest_of l.cursor)
