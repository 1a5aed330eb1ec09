use Rattle.std.proofs.Common.{length, ap, ◌∙◌}
use Rattle.rk_bytes.specs.Model.Writers.{block_bytes}
use Rattle.rk_block.specs.Building.{noted_entries}
use Rattle.rk_block.proofs.BuildLemmas.{IsBuilt-at, size-empty}
use Rattle.rk_block.proofs.builder.BlockBuilder.new.Goals as goal

pub invariant_of-result : goal.invariant_of-result
invariant_of-result c = IsBuilt-at c.args.restart_every c.requires c.new-4.result.items c.new.result c.new-2.result c.new-3.result c.new-4.ensures c.new.ensures c.new-2.ensures c.new-3.ensures

pub returns-clause-small : goal.returns-clause-small
returns-clause-small c = ap (λ notes. length (block_bytes c.args.restart_every (noted_entries notes))) c.new-4.ensures ∙ size-empty c.args.restart_every
