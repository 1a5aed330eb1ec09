use Rattle.rk_sum.proofs.Tables.{table_entry}
use Rattle.rk_sum.proofs.crc.after_byte.Goals as goal

pub returns : goal.returns
returns c = table_entry c.args.zeros c.args.byte c.requires c.ranges.byte.fits
