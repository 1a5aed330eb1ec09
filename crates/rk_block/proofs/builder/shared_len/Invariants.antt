use Rattle.std.specs.List.{common_prefix_len}
use Rattle.std.proofs.Common.{◌≡◌, ◌+◌, ◌-◌, ◌≤◌, length, drop, nat_eq}
use Rattle.rk_block.proofs.builder.shared_len.Given as goal

abbrev pub invariant-loop-len : goal.invariant-loop-len
invariant-loop-len l = record {
  in_first : l.len ≤ length l.first;
  in_second : l.len ≤ length l.second;
  so_far : l.len + common_prefix_len nat_eq (drop l.len l.first) (drop l.len l.second) ≡ common_prefix_len nat_eq l.first l.second;
}

abbrev pub decreases-loop-len : goal.decreases-loop-len
decreases-loop-len l = length l.first - l.len
