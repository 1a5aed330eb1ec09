use Rattle.std.proofs.Common.{◌≡◌, length, drop}
use Rattle.rk_open.proofs.PlacedLemmas.{given}
use Rattle.rk_open.proofs.placed.placed.Given as goal

-- the first families have their files, and the others are left
abbrev pub invariant-loop-own : goal.invariant-loop-own
invariant-loop-own l = record {
  each : l.each ≡ given l.families l.yielded;
  left : l.rest ≡ drop (length l.yielded) l.families;
}
