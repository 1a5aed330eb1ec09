use Rattle.std.proofs.Common.{◌∙◌}
use Rattle.std.proofs.lemmas.List.{drop_all}
use Rattle.rk_bytes.specs.Model.Checksums.{crc_bytes}
use Rattle.rk_sum.proofs.Registers.{byte_taken, byte_more}
use Rattle.rk_sum.proofs.crc.after_few.Goals as goal

pub loop-byte-preserved : goal.loop-byte-preserved
loop-byte-preserved c =
    rw (c.after_byte.ensures, c.to_le_bytes.ensures, c.from.ensures, byte_taken)
    (byte_more c.loop-byte.register c.loop-byte.byte-index c.args.bytes.now c.loop-byte-test.true ∙ c.loop-byte.invariant)

pub returns : goal.returns
unfolding crc_bytes
returns c =
    let bytes = c.args.bytes.now in
    rw (drop_all c.loop-byte.byte-index bytes c.loop-byte-test.false) at c.loop-byte.invariant
