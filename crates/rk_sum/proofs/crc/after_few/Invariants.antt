use Rattle.std.proofs.Common.{◌≡◌, drop}
use Rattle.rk_bytes.specs.Model.Checksums.{crc_bytes}
use Rattle.rk_sum.proofs.crc.after_few.Given as goal

abbrev pub invariant-loop-byte : goal.invariant-loop-byte
invariant-loop-byte l = crc_bytes l.register (drop l.byte-index l.bytes) ≡ crc_bytes l.initial.register l.bytes
