use Rattle.std.proofs.Common.{◌+◌, ◌≤◌, length, vec_len, vec_capacity}
use Rattle.rk_view.specs.Merged.{IsRest, left_of}
use Rattle.rk_view.proofs.MergeLemmas.{Merging}
use Rattle.rk_view.proofs.merge.merge.Given as goal

abbrev pub invariant-loop-least : goal.invariant-loop-least
invariant-loop-least l = record {
  old : IsRest l.old;
  young : IsRest l.young;
  kept : Merging l.fn.older l.fn.younger (left_of l.old) (left_of l.young) l.merged.items;
  room : length (left_of l.old) + length (left_of l.young) + vec_len l.merged ≤ vec_capacity l.merged;
}

abbrev pub decreases-loop-least : goal.decreases-loop-least
decreases-loop-least l = length (left_of l.old) + length (left_of l.young)
