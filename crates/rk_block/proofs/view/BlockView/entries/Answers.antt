use Rattle.std.proofs.Common.{ap, ◌∙◌}
use Rattle.rk_block.specs.Seen.{seen_whole}
use Rattle.rk_block.proofs.ReadLemmas.{IsReadTo-start, seen_at_start}
use Rattle.rk_block.proofs.view.BlockView.entries.Goals as goal

pub invariant_of-result : goal.invariant_of-result
invariant_of-result c = IsReadTo-start c.self.inside.part.now c.self.invariant

pub returns : goal.returns
returns c = seen_at_start c.self.inside.part.now c.self.invariant ∙ ap seen_whole c.self.view_is
