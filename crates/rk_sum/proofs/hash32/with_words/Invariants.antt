use Rattle.std.proofs.Common.{◌≡◌, take}
use Rattle.std.specs.Prelude.{fold}
use Rattle.rk_bytes.specs.Model.Checksums.{xxh32_with_word}
use Rattle.rk_sum.proofs.hash32.with_words.Given as goal

abbrev pub invariant-loop-bytes : goal.invariant-loop-bytes
invariant-loop-bytes l = l.hash ≡ fold xxh32_with_word l.initial.hash (take l.bytes-index l.words)
