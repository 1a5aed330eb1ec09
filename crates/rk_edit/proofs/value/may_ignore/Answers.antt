use Rattle.std.proofs.Common.{arith}
use Rattle.rk_edit.proofs.Bits.{bit_test}
use Rattle.rk_edit.proofs.value.may_ignore.Goals as goal

pub returns : goal.returns
returns c = bit_test c.args.tag 13 (omega arith)
