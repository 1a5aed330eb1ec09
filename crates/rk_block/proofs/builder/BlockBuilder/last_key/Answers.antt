use Rattle.std.proofs.Common.{ap, ◌∙◌}
use Rattle.rk_bytes.specs.Model.Writers.{last_entry_key}
use Rattle.rk_block.specs.Building.{Building}
use Rattle.rk_block.proofs.builder.BlockBuilder.last_key.Goals as goal

pub returns : goal.returns
returns c = c.as_slice.ensures ∙ c.self.invariant.ends ∙ ap (λ (building : Building). last_entry_key building.entries) c.self.view_is
