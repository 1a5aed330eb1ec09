use Rattle.std.proofs.Common.{◌≡◌, take}
use Rattle.std.specs.Prelude.{fold}
use Rattle.rk_bytes.specs.Model.Checksums.{xxh64_with_byte}
use Rattle.rk_sum.proofs.hash64.with_bytes.Given as goal

abbrev pub invariant-loop-byte : goal.invariant-loop-byte
invariant-loop-byte l = l.hash ≡ fold xxh64_with_byte l.initial.hash (take l.byte-index l.bytes)
