use Rattle.std.proofs.Common.{◌∙◌, inl, inr}
use Rattle.rk_meta.proofs.BlockLemmas.{delta_index, delta_index-fault}
use Rattle.rk_meta.proofs.delta.read_delta_index.Goals as goal

pub returns-in-Ok : goal.returns-in-Ok
returns-in-Ok c = elim c.delta_index.ensures [
  | inl is ↦ inl (is ∙ delta_index c.args.block.now c.in-Ok.parts.entries.now c.in-Ok.parts.restarts.left c.in-Ok.ensures.parts)
  | inr is ↦ inr is
]

pub returns-in-Err : goal.returns-in-Err
returns-in-Err c = inl (delta_index-fault c.args.block.now c.in-Err.fault c.in-Err.ensures.parts)
