use Rattle.std.proofs.Common.{ap, ◌∙◌, inl, inr}
use Rattle.rk_bytes.specs.Model.BlockEntries.{collected}
use Rattle.rk_block.specs.Seen.{EntriesSeen}
use Rattle.rk_meta.specs.Walk.{whole_entry}
use Rattle.rk_meta.proofs.BlockLemmas.{whole_index, whole_index-fault}
use Rattle.rk_meta.proofs.index.read_index.Goals as goal

pub returns-in-Ok : goal.returns-in-Ok
returns-in-Ok c = elim c.whole_index.ensures [
  | inl is ↦ inl (is ∙ ap (λ (seen : EntriesSeen). collected whole_entry seen.left) c.entries.ensures ∙ whole_index c.args.delta c.args.block.now c.in-Ok.view c.if-delta.false c.in-Ok.ensures)
  | inr is ↦ inr is
]

pub returns-in-Err : goal.returns-in-Err
returns-in-Err c = inl (whole_index-fault c.args.delta c.args.block.now c.in-Err.fault c.if-delta.false c.in-Err.ensures)
