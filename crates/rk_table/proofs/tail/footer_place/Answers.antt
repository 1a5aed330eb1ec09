use Rattle.std.proofs.Common.{sym, arith}
use Rattle.rk_table.proofs.TailLemmas.{no_place}
use Rattle.rk_table.proofs.tail.footer_place.Goals as goal

pub returns-then-bytes-lt-MAGIC_LEN : goal.returns-then-bytes-lt-MAGIC_LEN
returns-then-bytes-lt-MAGIC_LEN c = sym (no_place c.args.file_len c.args.bytes.now (omega arith))
