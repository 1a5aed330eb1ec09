use Rattle.rk_sum.proofs.Registers.{crc_bits_by_bytes}
use Rattle.rk_sum.proofs.crc.after_word.Goals as goal

pub returns : goal.returns
returns c =
    rw (c.after_byte.ensures, c.after_byte-2.ensures, c.after_byte-3.ensures, c.after_byte-4.ensures, c.to_le_bytes.ensures)
    (crc_bits_by_bytes c.args.zeros c.args.word c.ranges.word.fits)
