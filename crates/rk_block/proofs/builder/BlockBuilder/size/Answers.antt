use Rattle.std.proofs.Common.{◌+◌, length, sym, ap, ◌∙◌}
use Rattle.rk_block.specs.Building.{built_block, noted_entries}
use Rattle.rk_block.proofs.BuildLemmas.{size-built}
use Rattle.rk_block.proofs.builder.BlockBuilder.size.Goals as goal

pub returns : goal.returns
returns c =
    let b = c.self.inside in
    (λ i. length (c.as_slice.ensures i) + length (c.as_slice-2.ensures i) + 8)
    ∙ sym (size-built b.restart_every (noted_entries b.history.items) b.out b.offsets b.last b.count c.self.invariant)
    ∙ ap (λ building. length (built_block building)) c.self.view_is
