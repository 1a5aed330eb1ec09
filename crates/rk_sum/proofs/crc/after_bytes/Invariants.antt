use Rattle.std.proofs.Common.{◌≡◌, length}
use Rattle.rk_bytes.specs.Model.Checksums.{crc_bytes}
use Rattle.rk_sum.proofs.crc.after_bytes.Given as goal

abbrev pub invariant-loop-rest : goal.invariant-loop-rest
invariant-loop-rest l = crc_bytes l.register l.rest ≡ crc_bytes l.initial.register l.bytes

abbrev pub decreases-loop-rest : goal.decreases-loop-rest
decreases-loop-rest l = length l.rest
