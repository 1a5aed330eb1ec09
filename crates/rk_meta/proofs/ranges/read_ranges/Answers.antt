use Rattle.std.proofs.Common.{ap, ◌∙◌, inl, inr}
use Rattle.rk_bytes.specs.Model.BlockEntries.{collected}
use Rattle.rk_block.specs.Seen.{EntriesSeen}
use Rattle.rk_meta.specs.Walk.{range_in}
use Rattle.rk_meta.proofs.BlockLemmas.{ranges_of, ranges_of-fault}
use Rattle.rk_meta.proofs.ranges.read_ranges.Goals as goal

pub returns-in-Ok : goal.returns-in-Ok
returns-in-Ok c = elim c.ranges_in.ensures [
  | inl is ↦ inl (is ∙ ap (λ (seen : EntriesSeen). collected range_in seen.left) c.entries.ensures ∙ ranges_of c.args.block.now c.in-Ok.view c.in-Ok.ensures)
  | inr is ↦ inr is
]

pub returns-in-Err : goal.returns-in-Err
returns-in-Err c = inl (ranges_of-fault c.args.block.now c.in-Err.fault c.in-Err.ensures)
