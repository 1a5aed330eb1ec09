use Rattle.std.proofs.Common.{◌≡◌, ◌+◌, ◌/◌, ◌++◌, length, ap, ◌∙◌}
use Rattle.std.proofs.lemmas.Result.{IfOk-weaker}
use Rattle.rk_bytes.specs.Model.Numbers.{fixed_of}
use Rattle.rk_block.specs.Building.{built_block, noted_entries}
use Rattle.rk_block.proofs.BuildLemmas.{finished}
use Rattle.rk_block.proofs.builder.BlockBuilder.finish.Goals as goal

pub returns-clause-block : goal.returns-clause-block
returns-clause-block c =
    let b = c.self.inside in
    IfOk-weaker c.with_restarts.result (λ block. block ≡ b.out ++ (fixed_of 4 0 ++ b.offsets) ++ fixed_of 4 (length b.offsets / 4 + 1)) (λ block. block ≡ built_block c.args.self)
    (λ block is. is ∙ finished b.restart_every (noted_entries b.history.items) b.out b.offsets b.last b.count c.self.invariant ∙ ap built_block c.self.view_is)
    c.with_restarts.ensures
