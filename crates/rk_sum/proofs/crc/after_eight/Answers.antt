use Rattle.std.proofs.Common.{rules}
use Rattle.rk_sum.proofs.Registers.{eight_taken}
use Rattle.rk_sum.proofs.crc.after_eight.Goals as goal

pub returns : goal.returns
returns c =
    rw (c.after_word.ensures, c.after_word-2.ensures, c.from_le_bytes-first.ensures, c.from_le_bytes-second.ensures)
    (eight_taken c.args.register c.args.bytes (search rules) (search rules))
