use Rattle.std.proofs.Common.{◌≡◌, drop, nat_eq, [], ap, ◌∙◌, arith}
use Rattle.std.specs.List.{common_prefix_len}
use Rattle.std.proofs.lemmas.List.{drop_all}
use Rattle.rk_block.proofs.BuildLemmas.{common_prefix_len-none}
use Rattle.rk_block.proofs.builder.shared_len.Goals as goal

pub returns-else-len-second-clause-shared : goal.returns-else-len-second-clause-shared
returns-else-len-second-clause-shared c =
    let past : drop c.loop-len.len c.args.second.now ≡ [] = drop_all c.loop-len.len c.args.second.now c.if-len-second.false in
    let none : common_prefix_len nat_eq (drop c.loop-len.len c.args.first.now) (drop c.loop-len.len c.args.second.now) ≡ 0 =
    ap (λ rest. common_prefix_len nat_eq (drop c.loop-len.len c.args.first.now) rest) past ∙ common_prefix_len-none (drop c.loop-len.len c.args.first.now) in
    omega (arith, c.loop-len.invariant.so_far)
