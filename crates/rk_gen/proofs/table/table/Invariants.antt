use Rattle.std.proofs.Common.{◌≡◌, false, []}
use Rattle.rk_gen.specs.Puts.{own_puts}
use Rattle.rk_gen.proofs.table.table.Given as goal

abbrev pub invariant-loop-before : goal.invariant-loop-before
invariant-loop-before l = l.table ≡ record { records = own_puts l.before; ranges = []; failed = false }
