use Rattle.std.proofs.Common.{length, refl, ap, ◌++◌, ◌∙◌}
use Rattle.rk_bytes.specs.Model.Numbers.{fixed_of}
use Rattle.rk_tablew.proofs.PartLemmas.{Puts-written}
use Rattle.rk_tablew.proofs.stored.put_block.Goals as goal

pub returns : goal.returns
returns c =
    Puts-written c.args.out.now c.args.block.now c.put_fixed32.new.out (record { offset = length c.as_slice.result.now; size = length c.args.block.now })
    (c.in_ok-put_fixed32.ensures.ok ∙ (λ i. c.in_ok-append_both.ensures.ok i ++ fixed_of 4 (c.block_sum.ensures i)))
    (ap length c.as_slice.ensures) refl
