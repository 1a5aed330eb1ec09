use Rattle.std.proofs.Common.{◌≡◌}
use Rattle.rk_open.proofs.UsableLemmas.{Applied}
use Rattle.rk_open.proofs.usable.usable_units.Given as goal

-- the units so far are applied
abbrev pub invariant-loop-unit : goal.invariant-loop-unit
invariant-loop-unit l = record {
  count : l.count ≡ l.unit-index;
  applied : Applied l.units l.unit-index l.builder;
}
