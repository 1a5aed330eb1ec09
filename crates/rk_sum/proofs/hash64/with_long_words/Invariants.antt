use Rattle.std.proofs.Common.{◌≡◌, take}
use Rattle.std.specs.Prelude.{fold}
use Rattle.rk_bytes.specs.Model.Checksums.{xxh64_with_lane}
use Rattle.rk_sum.proofs.hash64.with_long_words.Given as goal

abbrev pub invariant-loop-bytes : goal.invariant-loop-bytes
invariant-loop-bytes l = l.hash ≡ fold xxh64_with_lane l.initial.hash (take l.bytes-index l.words)
