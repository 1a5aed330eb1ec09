use Rattle.std.proofs.Common.{◌-◌, length}
use Rattle.rk_block.specs.Walked.{IsWalked}
use Rattle.rk_block.proofs.part.has_right_restarts.Given as goal

abbrev pub invariant-loop-place : goal.invariant-loop-place
invariant-loop-place l = IsWalked l.entries l.initial.restarts.left l.place l.key_len l.restarts

abbrev pub decreases-loop-place : goal.decreases-loop-place
decreases-loop-place l = length l.entries - l.place
