use Rattle.std.proofs.Common.{arith}
use Rattle.rk_edit.proofs.Bits.{bit_test}
use Rattle.rk_edit.proofs.file.is_needed.Goals as goal

pub returns : goal.returns
returns c = bit_test c.args.tag 6 (omega arith)
